use Rattle.geom_core.proofs.CollapseCorners.{collapsed-corners, collapsed-gone}
use Rattle.geom_core.proofs.laws.collapses_move_one_corner.Goals as goal

pub returns-clause-only_target : goal.returns-clause-only_target
returns-clause-only_target c = collapsed-corners

pub returns-clause-replaced_corner : goal.returns-clause-replaced_corner
returns-clause-replaced_corner c = collapsed-gone
