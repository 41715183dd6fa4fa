use Rattle.geom_core.proofs.EdgeSumLaws.{edge_sum-turned, edge_sum-same}
use Rattle.geom_core.proofs.laws.turned_edges_change_sign.Goals as goal

pub returns-clause-turned : goal.returns-clause-turned
returns-clause-turned c = edge_sum-turned

pub returns-clause-same : goal.returns-clause-same
returns-clause-same c = edge_sum-same
