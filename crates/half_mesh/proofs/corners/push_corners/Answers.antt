use Rattle.std.proofs.Common.{◌≡◌, true, false, ◌||◌, sym, ◌∙◌}
use Rattle.geom_core.specs.EdgeSum.{same_point}
use Rattle.geom_core.proofs.PointLaws.{same_point-eq}
use Rattle.half_mesh.specs.Corners.{corner_at, corners_at}
use Rattle.half_mesh.proofs.ListLaws.{added_three}
use Rattle.half_mesh.proofs.corners.push_corners.Goals as goal
use Rattle.half_mesh.proofs.corners.push_corners.Goals.{then-eq, else-eq}

pub returns : goal.returns
unfolding corners_at
returns c =
    let t = c.args.tri in
    let repeats : same_point t.c t.a || same_point t.c t.b ≡ c.if-eq.push_corner = elim c.if-eq.branch [
      | then-eq w ↦
          let is_a : same_point t.c t.a ≡ true = same_point-eq t.c t.a c.eq-2.result c.eq-2.ensures ∙ w.if-eq.true in
          rw is_a (sym w.if-eq.true ∙ sym w.push_corner-is)
      | else-eq w ↦
          let not_a : same_point t.c t.a ≡ false = same_point-eq t.c t.a c.eq-2.result c.eq-2.ensures ∙ w.if-eq.false in
          rw not_a (same_point-eq t.c t.b w.eq-else-eq.result w.eq-else-eq.ensures ∙ sym w.push_corner-is)
    ] in
    rw (same_point-eq t.b t.a c.eq.result c.eq.ensures, repeats)
    (added_three c.args.corners.now.items (corner_at c.args.number t.a false)
    (corner_at c.args.number t.b c.eq.result) (corner_at c.args.number t.c c.if-eq.push_corner)
    c.in_ok-push_corner.ensures c.in_ok-push_corner-2.ensures c.in_ok-push_corner-3.ensures)
