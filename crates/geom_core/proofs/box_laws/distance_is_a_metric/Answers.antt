use Rattle.geom_core.proofs.DistanceLaws.{distance-same, distance-none, distance-turned, distance-triangle}
use Rattle.geom_core.proofs.box_laws.distance_is_a_metric.Goals as goal

pub returns-clause-zero : goal.returns-clause-zero
returns-clause-zero c = distance-same

pub returns-clause-equal : goal.returns-clause-equal
returns-clause-equal c = distance-none

pub returns-clause-symmetric : goal.returns-clause-symmetric
returns-clause-symmetric c = distance-turned

pub returns-clause-triangle : goal.returns-clause-triangle
returns-clause-triangle c = distance-triangle
