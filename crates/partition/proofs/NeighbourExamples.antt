-- Worked examples of neighbours, clusters and groups, computed by the checker.
use Rattle.std.specs.Prelude.{◌≡◌, ℕ, ◌∷◌, [], List, Some, pos, true, false, map, slice_index}
use Rattle.std.proofs.Common.{refl}
use Rattle.std.specs.List.{concat}
use Rattle.std.specs.Option.{option_map}
use Rattle.geom_core.specs.declared.points.Pt.{Pt}
use Rattle.geom_core.specs.declared.boxes.Cube.{Cube}
use Rattle.geom_core.specs.declared.triangles.Tri.{Tri}
use Rattle.geom_core.specs.Boxes.{low_of, join_of, hull_of}
use Rattle.geom_core.specs.EdgeSum.{same_point, edges_of}
use Rattle.partition.specs.Clusters.{low_corner, triangle_key}
use Rattle.partition.specs.Growing.{is_grown, is_next}
use Rattle.partition.specs.Morton.{interleave, cell_of, morton_of}
use Rattle.partition.specs.Neighbours.{same_edge, share_edge, are_neighbours}

abbrev point : ℕ → ℕ → Pt
point x y = record { x = pos x; y = pos y; z = pos 0 }

abbrev tri : Pt → Pt → Pt → Tri
tri a b c = record { a = a; b = b; c = c }

abbrev origin : Pt
origin = point 0 0

abbrev right : Pt
right = point 8 0

abbrev upper : Pt
upper = point 8 8

abbrev first : Tri
first = tri origin right upper

-- an edge is one in both directions
pub same_edge-turned : same_edge (right, upper) (upper, right) ≡ true
unfolding same_edge same_point
same_edge-turned = refl

pub same_edge-apart : same_edge (right, upper) (right, origin) ≡ false
unfolding same_edge same_point
same_edge-apart = refl

-- neighbours share an edge, whichever way both run along it
pub share_edge-opposite : share_edge (edges_of first) (edges_of (tri upper right (point 16 0))) ≡ true
unfolding share_edge same_edge same_point edges_of
share_edge-opposite = refl

pub share_edge-one_way : share_edge (edges_of first) (edges_of (tri right upper (point 16 0))) ≡ true
unfolding share_edge same_edge same_point edges_of
share_edge-one_way = refl

-- a shared point is no shared edge
pub share_edge-point : share_edge (edges_of first) (edges_of (tri upper (point 16 8) (point 16 16))) ≡ false
unfolding share_edge same_edge same_point edges_of
share_edge-point = refl

-- an edge from a point to itself is an edge like any other
pub share_edge-folded : share_edge (edges_of (tri right right origin)) (edges_of (tri right right upper)) ≡ true
unfolding share_edge same_edge same_point edges_of
share_edge-folded = refl

pub share_edge-not_folded : share_edge (edges_of (tri right right origin))
    (edges_of (tri right upper (point 16 0))) ≡ false
unfolding share_edge same_edge same_point edges_of
share_edge-not_folded = refl

-- the low corner is that of the hull, and need be no corner
pub low_corner_of_none : low_corner (tri (point 4 0) (point 0 4) (point 4 4)) ≡ origin
unfolding low_of
low_corner_of_none = refl

pub low_corner_of_hull : (t : Tri) → option_map (λ (box : Cube). box.lo) (hull_of (t.a ∷ t.b ∷ t.c ∷ [])) ≡ Some
    (low_corner t)
unfolding join_of
low_corner_of_hull t = refl

-- the key is that of the low corner
pub triangle_key_of_low : triangle_key (tri (point 4 0) (point 0 4) (point 4 4)) ≡ triangle_key first
unfolding low_of
triangle_key_of_low = refl

-- Three triangles: the one with a shared point ranks before the one with a shared edge, and comes after it.
abbrev three : List Tri
three = first ∷ tri origin (point 0 8) (point 0 4) ∷ tri right (point 16 0) upper ∷ []

pub three_grow : is_grown 3 (slice_index (map triangle_key three)) (are_neighbours (map edges_of three)) 128
    (0 ∷ 2 ∷ 1 ∷ []) ≡ true
unfolding is_grown is_next share_edge same_edge same_point edges_of low_of morton_of cell_of interleave
three_grow = refl

pub three_not_by_rank : is_grown 3 (slice_index (map triangle_key three)) (are_neighbours (map edges_of three)) 128
    (0 ∷ 1 ∷ 2 ∷ []) ≡ false
unfolding is_grown is_next share_edge same_edge same_point edges_of low_of morton_of cell_of interleave
three_not_by_rank = refl

-- batches of two: the second begins empty
pub three_grow_by_two : is_grown 3 (slice_index (map triangle_key three)) (are_neighbours (map edges_of three)) 2
    (concat ((0 ∷ 2 ∷ []) ∷ (1 ∷ []) ∷ [])) ≡ true
unfolding is_grown is_next share_edge same_edge same_point edges_of low_of morton_of cell_of interleave
three_grow_by_two = refl
