use Rattle.geom_core.proofs.CollapseCorners.{IsGridTriangle-collapsed, IsGridPoint-corner}
use Rattle.geom_core.proofs.laws.collapses_keep_grid_triangles.Goals as goal

pub returns-clause-collapsed : goal.returns-clause-collapsed
returns-clause-collapsed c = IsGridTriangle-collapsed

pub returns-clause-corner : goal.returns-clause-corner
returns-clause-corner c = IsGridPoint-corner
