use Rattle.half_mesh.proofs.RimLaws.{law-ends_are_grid_points}
use Rattle.half_mesh.proofs.laws.ends_are_grid_points.Goals as goal

pub returns : goal.returns
returns c = law-ends_are_grid_points
