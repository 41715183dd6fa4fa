use Rattle.std.proofs.Common.{◌≡◌, ◌++◌, filter, map}
use Rattle.std.specs.List.{range_with_len}
use Rattle.shape_gen.specs.Lattice.{is_on_surface, place}
use Rattle.shape_gen.proofs.lattice.push_row.Given as goal

abbrev pub invariant-loop-k : goal.invariant-loop-k
invariant-loop-k l =
    l.places.items ≡ l.fn.places.items ++ filter (is_on_surface l.n) (map (place l.i l.j) (range_with_len 0 l.k))
