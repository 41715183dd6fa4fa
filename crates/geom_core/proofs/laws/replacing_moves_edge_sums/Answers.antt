use Rattle.std.proofs.Common.{map}
use Rattle.geom_core.specs.Collapses.{replaced}
use Rattle.geom_core.proofs.EdgeSumLaws.{edge_sum-same}
use Rattle.geom_core.proofs.CollapseLaws.{edge_sum-from_replaced, edge_sum-to_replaced, edge_sum-elsewhere}
use Rattle.geom_core.proofs.CollapseLaws.{edge_sum-from_target, edge_sum-to_target}
use Rattle.geom_core.proofs.laws.replacing_moves_edge_sums.Goals as goal

pub returns-clause-from_replaced : goal.returns-clause-from_replaced
returns-clause-from_replaced c = edge_sum-from_replaced

pub returns-clause-to_replaced : goal.returns-clause-to_replaced
returns-clause-to_replaced c = edge_sum-to_replaced

pub returns-clause-from_target : goal.returns-clause-from_target
returns-clause-from_target c = edge_sum-from_target

pub returns-clause-to_target : goal.returns-clause-to_target
returns-clause-to_target c = edge_sum-to_target

pub returns-clause-target_itself : goal.returns-clause-target_itself
returns-clause-target_itself c = λ a b tris. edge_sum-same (map (replaced a b) tris) b

pub returns-clause-elsewhere : goal.returns-clause-elsewhere
returns-clause-elsewhere c = edge_sum-elsewhere
