use Rattle.std.proofs.Common.{◌≡◌, ◌++◌, map}
use Rattle.std.specs.List.{range_with_len}
use Rattle.shape_gen.specs.Sides.{face_on}
use Rattle.shape_gen.proofs.sides.push_row.Given as goal

abbrev pub invariant-loop-q : goal.invariant-loop-q
invariant-loop-q l =
    l.faces.items ≡ l.fn.faces.items ++ map (face_on l.n l.axis l.end l.p) (range_with_len 0 l.q)
