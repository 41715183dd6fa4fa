use Rattle.geom_core.proofs.BoxLaws.{Under-from, Holds-from, box_distance-wider}
use Rattle.geom_core.proofs.box_laws.outer_boxes_are_no_further.Goals as goal

pub returns : goal.returns
returns c = λ outer inner p corners h.
    box_distance-wider outer inner p (Under-from inner.lo inner.hi corners) (Holds-from outer inner h)
