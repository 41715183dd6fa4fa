use Rattle.geom_core.proofs.CollapseLaws.{edge_sum-distinct}
use Rattle.geom_core.proofs.laws.flat_triangles_add_nothing.Goals as goal

pub returns : goal.returns
returns c = edge_sum-distinct
