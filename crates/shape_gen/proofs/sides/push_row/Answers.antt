use Rattle.std.proofs.Common.{◌++◌, ◌∷◌, [], ap, ◌∙◌}
use Rattle.shape_gen.specs.Sides.{face_on}
use Rattle.shape_gen.specs.declared.sides.Face.{Face}
use Rattle.shape_gen.proofs.Ranges.{mapped_more}
use Rattle.shape_gen.proofs.sides.push_row.Goals as goal

pub loop-q-preserved : goal.loop-q-preserved
loop-q-preserved c =
    mapped_more (face_on c.args.n c.args.axis c.args.end c.args.p) c.args.faces.now.items _ _ c.loop-q.q
    c.loop-q.invariant
    (c.in_ok-push.ensures.items ∙ ap (λ (f : Face). c.loop-q.faces.items ++ f ∷ []) c.face_on.ensures)
