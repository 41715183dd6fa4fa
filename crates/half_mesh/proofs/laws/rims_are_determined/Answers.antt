use Rattle.half_mesh.proofs.RimLaws.{law-rims_are_determined}
use Rattle.half_mesh.proofs.laws.rims_are_determined.Goals as goal

pub returns : goal.returns
returns c = law-rims_are_determined
