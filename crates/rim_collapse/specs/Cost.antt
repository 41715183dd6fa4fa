-- What a collapse costs, and which of two collapses goes first.
use Rattle.std.specs.Prelude.{Bool, ℕ, List, filter, sum_by, unsigned_abs}
use Rattle.std.specs.Ordering.{is_lt, nat_cmp, ordering_then}
use Rattle.std.specs.declared.cmp.Ordering.{Ordering}
use Rattle.geom_core.specs.declared.points.Pt.{Pt}
use Rattle.geom_core.specs.declared.triangles.Tri.{Tri}
use Rattle.geom_core.specs.Corners.{has_corner}
use Rattle.geom_core.specs.Distance.{distance}
use Rattle.geom_core.specs.Order.{point_cmp}
use Rattle.rim_collapse.specs.declared.keys.Key.{Key}
use Rattle.rim_collapse.specs.Normals.{dot, minus, normal}

-- the triangles with corner a
abbrev pub around : Pt → List Tri → List Tri
around a tris = filter (has_corner a) tris

-- how far the way from a to b leaves the triangle's plane, times twice the triangle's area
abbrev pub plane_cost : Pt → Pt → Tri → ℕ
plane_cost a b t = unsigned_abs (dot (normal t) (minus b a))

-- the cost of the collapse of a to b: the sum over the triangles with corner a
unfoldable pub cost : List Tri → Pt → Pt → ℕ
cost tris a b = sum_by (plane_cost a b) (around a tris)

-- what decides which collapse goes first
unfoldable pub key_of : List Tri → Pt → Pt → Key
key_of tris a b = record { cost = cost tris a b; distance = distance a b; from = a; to = b }

-- by cost, then by distance, then by the point that moves, then by its target
abbrev pub key_cmp : Key → Key → Ordering
key_cmp k l =
    ordering_then (nat_cmp k.cost l.cost) (ordering_then (nat_cmp k.distance l.distance)
    (ordering_then (point_cmp k.from l.from) (point_cmp k.to l.to)))

-- the collapse of a to b goes before that of c to d
abbrev pub goes_before : List Tri → Pt → Pt → Pt → Pt → Bool
goes_before tris a b c d = is_lt (key_cmp (key_of tris a b) (key_of tris c d))
