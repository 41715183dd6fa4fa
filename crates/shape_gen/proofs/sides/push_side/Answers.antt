use Rattle.shape_gen.specs.Sides.{row_faces}
use Rattle.shape_gen.proofs.Ranges.{appended_more}
use Rattle.shape_gen.proofs.sides.push_side.Goals as goal

pub loop-p-preserved : goal.loop-p-preserved
loop-p-preserved c =
    appended_more (row_faces c.args.n c.args.axis c.args.end) c.args.faces.now.items _ _ c.loop-p.p c.loop-p.invariant
    c.in_ok-push_row.ensures
