use Rattle.std.proofs.Common.{◌≡◌, filter, flat_map}
use Rattle.std.specs.List.{range_with_len}
use Rattle.shape_gen.specs.Lattice.{is_on_surface, layer_places}
use Rattle.shape_gen.proofs.lattice.lattice.Given as goal

abbrev pub invariant-loop-i : goal.invariant-loop-i
invariant-loop-i l =
    l.places.items ≡ filter (is_on_surface l.n) (flat_map (layer_places l.n) (range_with_len 0 l.i))
