use Rattle.geom_core.proofs.BoxLaws.{box_distance-held, box_distance-reached, box_distance-within}
use Rattle.geom_core.proofs.box_laws.box_distance_is_from_the_nearest_point.Goals as goal

pub returns-clause-least : goal.returns-clause-least
returns-clause-least c = box_distance-held

pub returns-clause-reached : goal.returns-clause-reached
returns-clause-reached c = box_distance-reached

pub returns-clause-zero : goal.returns-clause-zero
returns-clause-zero c = box_distance-within
