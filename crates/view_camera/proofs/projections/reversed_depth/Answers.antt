use Rattle.std.proofs.Common.{w64, refl}
use Rattle.std.proofs.lemmas.Int.{to_z-of_z}
use Rattle.geom_core.specs.Camera.{reversed_depth}
use Rattle.view_camera.proofs.projections.reversed_depth.Goals as goal

pub returns-clause-reversed : goal.returns-clause-reversed
unfolding reversed_depth
returns-clause-reversed c = rw (c.from.ensures, to_z-of_z w64 c.args.depth c.ranges.depth) refl
