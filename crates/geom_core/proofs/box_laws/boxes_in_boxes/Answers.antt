use Rattle.geom_core.proofs.BoxLaws.{Holds-refl, Holds-trans, Holds-from, Holds-to, held_points}
use Rattle.geom_core.proofs.box_laws.boxes_in_boxes.Goals as goal

pub returns-clause-itself : goal.returns-clause-itself
returns-clause-itself c = λ box. Holds-to box box (Holds-refl box)

pub returns-clause-chain : goal.returns-clause-chain
returns-clause-chain c = λ a b d h k. Holds-to a d (Holds-trans a b d (Holds-from a b h) (Holds-from b d k))

pub returns-clause-points : goal.returns-clause-points
returns-clause-points c = held_points
