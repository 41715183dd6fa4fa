use Rattle.std.proofs.Common.{arith}
use Rattle.std.proofs.lemmas.List.{append-nil}
use Rattle.std.proofs.lemmas.Grind.{common_steps}
use Rattle.shape_gen.specs.Lattice.{is_on_surface, place}
use Rattle.shape_gen.proofs.Ranges.{tested_more}
use Rattle.shape_gen.proofs.lattice.push_row.Goals as goal
use Rattle.shape_gen.proofs.lattice.push_row.Goals.{then-is_on_surface+in_ok-push, else-is_on_surface}

pub loop-k-preserved : goal.loop-k-preserved
loop-k-preserved c =
    tested_more (is_on_surface c.args.n) (place c.args.i c.args.j) c.args.places.now.items c.loop-k.places.items _
    c.loop-k.k
    c.is_on_surface.result c.loop-k.invariant c.is_on_surface.ensures
    (elim c.if-is_on_surface.branch [
      | then-is_on_surface+in_ok-push w ↦ rw (w.places-is, w.if-is_on_surface.true) (grind (arith, common_steps))
      | else-is_on_surface w ↦ rw (w.places-is, w.if-is_on_surface.false, append-nil)
    ])
