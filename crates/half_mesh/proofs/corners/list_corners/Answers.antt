use Rattle.std.proofs.Common.{sym, ◌∙◌}
use Rattle.half_mesh.proofs.CornerLaws.{corners_of-more}
use Rattle.half_mesh.proofs.corners.list_corners.Goals as goal

pub loop-number-preserved : goal.loop-number-preserved
loop-number-preserved c =
    c.in_ok-push_corners.ensures ∙
    rw c.loop-number.invariant (sym (corners_of-more c.args.tris.now c.loop-number.number _ c.loop-number-test.true))
