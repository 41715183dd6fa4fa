use Rattle.geom_core.proofs.EdgeSumLaws.{edge_sum-equal_ab, edge_sum-equal_bc, edge_sum-equal_ca}
use Rattle.geom_core.proofs.laws.equal_corners_cancel.Goals as goal

pub returns-clause-first : goal.returns-clause-first
returns-clause-first c = edge_sum-equal_ab

pub returns-clause-second : goal.returns-clause-second
returns-clause-second c = edge_sum-equal_bc

pub returns-clause-third : goal.returns-clause-third
returns-clause-third c = edge_sum-equal_ca
