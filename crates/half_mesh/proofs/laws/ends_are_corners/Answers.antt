use Rattle.half_mesh.proofs.RimLaws.{law-ends_are_corners}
use Rattle.half_mesh.proofs.laws.ends_are_corners.Goals as goal

pub returns : goal.returns
returns c = law-ends_are_corners
