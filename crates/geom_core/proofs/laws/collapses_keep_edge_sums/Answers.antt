use Rattle.geom_core.proofs.CollapseLaws.{edge_sum-collapsed, is_rim_edge-collapsed, OnRim-collapsed}
use Rattle.geom_core.proofs.laws.collapses_keep_edge_sums.Goals as goal

pub returns-clause-sums : goal.returns-clause-sums
returns-clause-sums c = edge_sum-collapsed

pub returns-clause-rim_edges : goal.returns-clause-rim_edges
returns-clause-rim_edges c = is_rim_edge-collapsed

pub returns-clause-rim_points : goal.returns-clause-rim_points
returns-clause-rim_points c = OnRim-collapsed
