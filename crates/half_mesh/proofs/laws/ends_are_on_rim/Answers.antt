use Rattle.half_mesh.proofs.RimLaws.{law-ends_are_on_rim}
use Rattle.half_mesh.proofs.laws.ends_are_on_rim.Goals as goal

pub returns : goal.returns
returns c = law-ends_are_on_rim
