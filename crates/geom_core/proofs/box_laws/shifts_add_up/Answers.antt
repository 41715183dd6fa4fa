use Rattle.geom_core.proofs.DistanceLaws.{shift_of-same, shift_of-triangle}
use Rattle.geom_core.proofs.box_laws.shifts_add_up.Goals as goal

pub returns-clause-zero : goal.returns-clause-zero
returns-clause-zero c = shift_of-same

pub returns-clause-triangle : goal.returns-clause-triangle
returns-clause-triangle c = shift_of-triangle
