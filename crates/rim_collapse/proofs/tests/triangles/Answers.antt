use Rattle.std.proofs.Common.{sym, ◌∙◌}
use Rattle.rim_collapse.proofs.ListedRows.{range-more}
use Rattle.rim_collapse.proofs.tests.triangles.Goals as goal

pub loop-name-preserved-in-Continue-1 : goal.loop-name-preserved-in-Continue-1
loop-name-preserved-in-Continue-1 c =
    rw c.in_ok-push.ensures.items
    (range-more c.loop-name.tris.items c.in-Some-tagged.listed c.loop-name.invariant
    (sym c.is_grid_triangle.ensures ∙ c.if-is_grid_triangle.true))
