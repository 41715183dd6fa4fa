use Rattle.geom_core.proofs.EdgeSumLaws.{edge_sum-IsPermutation}
use Rattle.geom_core.proofs.laws.moved_triangles_keep_edge_sums.Goals as goal

pub returns : goal.returns
returns c = edge_sum-IsPermutation
