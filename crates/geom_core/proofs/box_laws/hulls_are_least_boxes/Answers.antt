use Rattle.geom_core.proofs.BoxLaws.{hull_of-each, hull_of-least, hull_of-corners}
use Rattle.geom_core.proofs.box_laws.hulls_are_least_boxes.Goals as goal

pub returns-clause-each : goal.returns-clause-each
returns-clause-each c = hull_of-each

pub returns-clause-least : goal.returns-clause-least
returns-clause-least c = hull_of-least

pub returns-clause-corners : goal.returns-clause-corners
returns-clause-corners c = hull_of-corners
