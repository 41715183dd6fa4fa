-- The order of places.
use Rattle.std.specs.Prelude.{◌≡◌, List, AllPairs}
use Rattle.std.specs.Ordering.{nat_cmp, ordering_then}
use Rattle.std.specs.declared.cmp.Ordering.{Ordering}
use Rattle.std.specs.declared.cmp.Ordering.TheVariants.{Less}
use Rattle.shape_gen.specs.declared.lattice.Place.{Place}

-- by i; at equal i by j; at equal j by k
abbrev pub place_cmp : Place → Place → Ordering
place_cmp p q = ordering_then (nat_cmp p.i q.i) (ordering_then (nat_cmp p.j q.j) (nat_cmp p.k q.k))

-- each place comes before all after it
abbrev pub IsAscending : List Place → Type 0
IsAscending places = AllPairs (λ p q. place_cmp p q ≡ Less) places
