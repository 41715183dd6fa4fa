-- Worked examples of rounding, of the order of points and of edge sums, computed by the checker.
use Rattle.std.specs.Prelude.{◌≡◌, ℕ, ℤ, pos, negsuc, true, false, List, [], ◌∷◌, ◌++◌, filter, flat_map, refl}
use Rattle.std.specs.declared.cmp.Ordering.TheVariants.{Less, Equal, Greater}
use Rattle.geom_core.specs.declared.points.Pt.{Pt}
use Rattle.geom_core.specs.declared.triangles.Tri.{Tri}
use Rattle.geom_core.specs.Floor.{floor_div}
use Rattle.geom_core.specs.EdgeSum.{same_point, edges_of, edge_count, edge_sum, is_rim_edge, OnRim}
use Rattle.geom_core.specs.Order.{point_cmp, is_before}

abbrev point : ℤ → ℤ → ℤ → Pt
point x y z = record { x = x; y = y; z = z }

-- rounding down goes away from 0 below it, whichever number is negative
pub floor_div-7_2 : floor_div (pos 7) (pos 2) ≡ pos 3
floor_div-7_2 = refl

pub floor_div-minus_7_2 : floor_div (negsuc 6) (pos 2) ≡ negsuc 3
floor_div-minus_7_2 = refl

pub floor_div-7_minus_2 : floor_div (pos 7) (negsuc 1) ≡ negsuc 3
floor_div-7_minus_2 = refl

pub floor_div-minus_7_minus_2 : floor_div (negsuc 6) (negsuc 1) ≡ pos 3
floor_div-minus_7_minus_2 = refl

pub floor_div-minus_6_2 : floor_div (negsuc 5) (pos 2) ≡ negsuc 2
floor_div-minus_6_2 = refl

-- a square of four triangles round its middle
abbrev corner_a : Pt
corner_a = point (pos 0) (pos 0) (pos 0)

abbrev corner_b : Pt
corner_b = point (pos 8) (pos 0) (pos 0)

abbrev corner_c : Pt
corner_c = point (pos 8) (pos 8) (pos 0)

abbrev corner_d : Pt
corner_d = point (pos 0) (pos 8) (pos 0)

abbrev middle : Pt
middle = point (pos 4) (pos 4) (pos 0)

abbrev fan : Pt → Pt → Tri
fan p q = record { a = p; b = q; c = middle }

abbrev square : List Tri
square = fan corner_a corner_b ∷ fan corner_b corner_c ∷ fan corner_c corner_d ∷ fan corner_d corner_a ∷ []

-- each axis tells two points apart
pub same_point-itself : same_point corner_b (point (pos 8) (pos 0) (pos 0)) ≡ true
unfolding same_point
same_point-itself = refl

pub same_point-not_x : same_point corner_b corner_a ≡ false
unfolding same_point
same_point-not_x = refl

pub same_point-not_y : same_point corner_b corner_c ≡ false
unfolding same_point
same_point-not_y = refl

pub same_point-not_z : same_point corner_b (point (pos 8) (pos 0) (negsuc 0)) ≡ false
unfolding same_point
same_point-not_z = refl

pub edges_of-fan : edges_of (fan corner_a corner_b) ≡
    (corner_a, corner_b) ∷ (corner_b, middle) ∷ (middle, corner_a) ∷ []
unfolding edges_of
edges_of-fan = refl

-- both triangles at corner a have an edge between it and the middle, one each way
pub edge_count-one_way : edge_count square corner_a middle ≡ 1
unfolding edge_count edges_of same_point
edge_count-one_way = refl

-- the edges of a fan of five points, each once
abbrev pairs : List (Pt × Pt)
pairs =
    (corner_a, corner_b) ∷ (corner_a, corner_c) ∷ (corner_a, corner_d) ∷ (corner_a, middle) ∷ (corner_b, corner_c) ∷
    (corner_b, corner_d) ∷ (corner_b, middle) ∷ (corner_c, corner_d) ∷ (corner_c, middle) ∷ (corner_d, middle) ∷ []

-- the rim of the square is its four sides
pub rim-square : filter (λ e. is_rim_edge square e.0 e.1) pairs ≡
    (corner_a, corner_b) ∷ (corner_a, corner_d) ∷ (corner_b, corner_c) ∷ (corner_c, corner_d) ∷ []
unfolding is_rim_edge edge_sum edge_count edges_of same_point
rim-square = refl

-- a corner is on the rim, by its side, also where the side comes towards it
pub OnRim-corner : OnRim square corner_a
unfolding is_rim_edge edge_sum edge_count edges_of same_point
OnRim-corner = (corner_b, refl)

-- a side counts with its direction
pub edge_sum-along : edge_sum square corner_a corner_b ≡ pos 1
unfolding edge_sum edge_count edges_of same_point
edge_sum-along = refl

pub edge_sum-against : edge_sum square corner_b corner_a ≡ negsuc 0
unfolding edge_sum edge_count edges_of same_point
edge_sum-against = refl

-- two triangles that run along a shared side the same way: it doesn't cancel
abbrev same_way : List Tri
same_way = record { a = corner_a; b = corner_b; c = middle } ∷ record { a = corner_a; b = corner_b; c = corner_d } ∷ []

pub edge_sum-same_way : edge_sum same_way corner_a corner_b ≡ pos 2
unfolding edge_sum edge_count edges_of same_point
edge_sum-same_way = refl

pub edge_sum-same_way_back : edge_sum same_way corner_b corner_a ≡ negsuc 1
unfolding edge_sum edge_count edges_of same_point
edge_sum-same_way_back = refl

pub edge_count-same_way : edge_count same_way corner_a corner_b ≡ 2
unfolding edge_count edges_of same_point
edge_count-same_way = refl

-- a triangle twice: each side counts twice, and all three are on the rim
abbrev doubled : List Tri
doubled = fan corner_a corner_b ∷ fan corner_a corner_b ∷ []

pub edge_sum-doubled : edge_sum doubled middle corner_a ≡ pos 2
unfolding edge_sum edge_count edges_of same_point
edge_sum-doubled = refl

pub rim-doubled : filter (λ e. is_rim_edge doubled e.0 e.1) pairs ≡
    (corner_a, corner_b) ∷ (corner_a, middle) ∷ (corner_b, middle) ∷ []
unfolding is_rim_edge edge_sum edge_count edges_of same_point
rim-doubled = refl

-- a closed box of twelve triangles, seen from outside: every edge cancels
abbrev box_corner : ℕ → ℕ → ℕ → Pt
box_corner x y z = point (pos x) (pos y) (pos z)

abbrev faces : Pt → Pt → Pt → Pt → List Tri
faces p q r s = record { a = p; b = q; c = r } ∷ record { a = p; b = r; c = s } ∷ []

abbrev closed_box : List Tri
closed_box =
    faces (box_corner 0 0 0) (box_corner 0 0 1) (box_corner 0 1 1) (box_corner 0 1 0) ++
    faces (box_corner 1 0 0) (box_corner 1 1 0) (box_corner 1 1 1) (box_corner 1 0 1) ++
    faces (box_corner 0 0 0) (box_corner 1 0 0) (box_corner 1 0 1) (box_corner 0 0 1) ++
    faces (box_corner 0 1 0) (box_corner 0 1 1) (box_corner 1 1 1) (box_corner 1 1 0) ++
    faces (box_corner 0 0 0) (box_corner 0 1 0) (box_corner 1 1 0) (box_corner 1 0 0) ++
    faces (box_corner 0 0 1) (box_corner 1 0 1) (box_corner 1 1 1) (box_corner 0 1 1)

pub rim-closed_box : filter (λ e. is_rim_edge closed_box e.0 e.1) (flat_map edges_of closed_box) ≡ []
unfolding is_rim_edge edge_sum edge_count edges_of same_point
rim-closed_box = refl

-- x decides before y and z, then y, then z
pub point_cmp-by_x : point_cmp (point (pos 1) (negsuc 8) (negsuc 8)) (point (pos 0) (pos 9) (pos 9)) ≡ Greater
point_cmp-by_x = refl

pub point_cmp-by_y : point_cmp (point (pos 1) (negsuc 8) (pos 9)) (point (pos 1) (pos 0) (pos 0)) ≡ Less
point_cmp-by_y = refl

pub point_cmp-by_z : point_cmp (point (pos 1) (pos 2) (pos 4)) (point (pos 1) (pos 2) (pos 3)) ≡ Greater
point_cmp-by_z = refl

pub point_cmp-same : point_cmp (point (pos 1) (pos 2) (pos 3)) (point (pos 1) (pos 2) (pos 3)) ≡ Equal
point_cmp-same = refl

pub is_before-less : is_before (point (pos 0) (pos 9) (pos 9)) (point (pos 1) (negsuc 8) (negsuc 8)) ≡ true
is_before-less = refl

pub is_before-same : is_before (point (pos 1) (pos 2) (pos 3)) (point (pos 1) (pos 2) (pos 3)) ≡ false
is_before-same = refl

pub is_before-greater : is_before (point (pos 1) (pos 2) (pos 4)) (point (pos 1) (pos 2) (pos 3)) ≡ false
is_before-greater = refl
