use Rattle.std.proofs.Common.{◌≡◌, ◌++◌, filter, flat_map}
use Rattle.std.specs.List.{range_with_len}
use Rattle.shape_gen.specs.Lattice.{is_on_surface, row_places}
use Rattle.shape_gen.proofs.lattice.push_layer.Given as goal

abbrev pub invariant-loop-j : goal.invariant-loop-j
invariant-loop-j l =
    l.places.items ≡ l.fn.places.items ++ filter (is_on_surface l.n)
    (flat_map (row_places l.n l.i) (range_with_len 0 l.j))
