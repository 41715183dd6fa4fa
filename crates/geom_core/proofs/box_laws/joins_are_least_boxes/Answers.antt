use Rattle.geom_core.specs.Boxes.{join_of}
use Rattle.geom_core.proofs.BoxLaws.{Under-from, Under-to, Under-outer, Holds-from, Holds-to}
use Rattle.geom_core.proofs.BoxLaws.{join_of-first, join_of-second, join_of-least}
use Rattle.geom_core.proofs.box_laws.joins_are_least_boxes.Goals as goal

pub returns-clause-first : goal.returns-clause-first
returns-clause-first c = λ a b. Holds-to (join_of a b) a (join_of-first a b)

pub returns-clause-second : goal.returns-clause-second
returns-clause-second c = λ a b. Holds-to (join_of a b) b (join_of-second a b)

pub returns-clause-least : goal.returns-clause-least
returns-clause-least c = λ a b outer h k.
    Holds-to outer (join_of a b) (join_of-least a b outer (Holds-from outer a h) (Holds-from outer b k))

pub returns-clause-corners : goal.returns-clause-corners
returns-clause-corners c = λ a b h.
    let joined = join_of a b in
    Under-to joined.lo joined.hi (Under-outer joined a (join_of-first a b) (Under-from a.lo a.hi h))
