use Rattle.geom_core.proofs.EdgeSumLaws.{edge_sum-append}
use Rattle.geom_core.proofs.laws.joined_lists_add_edge_sums.Goals as goal

pub returns : goal.returns
returns c = edge_sum-append
