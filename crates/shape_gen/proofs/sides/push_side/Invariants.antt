use Rattle.std.proofs.Common.{◌≡◌, ◌++◌, flat_map}
use Rattle.std.specs.List.{range_with_len}
use Rattle.shape_gen.specs.Sides.{row_faces}
use Rattle.shape_gen.proofs.sides.push_side.Given as goal

abbrev pub invariant-loop-p : goal.invariant-loop-p
invariant-loop-p l =
    l.faces.items ≡ l.fn.faces.items ++ flat_map (row_faces l.n l.axis l.end) (range_with_len 0 l.p)
