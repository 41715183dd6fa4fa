-- Worked examples of distances, boxes and moved triangles, computed by the checker.
use Rattle.std.specs.Prelude.{◌≡◌, ℕ, ℤ, pos, neg_ℤ, true, false, Some, None, [], ◌∷◌, refl}
use Rattle.geom_core.specs.declared.points.Pt.{Pt}
use Rattle.geom_core.specs.declared.boxes.Cube.{Cube}
use Rattle.geom_core.specs.declared.triangles.Tri.{Tri}
use Rattle.geom_core.specs.Distance.{distance, outside, box_distance}
use Rattle.geom_core.specs.Boxes.{is_under, holds_point, holds_box, low_of, high_of, join_of, point_box, hull_of}
use Rattle.geom_core.specs.Shift.{shift_of}
use Rattle.geom_core.specs.TaggedLists.{tris_of}

-- the number below 0
abbrev minus : ℕ → ℤ
minus n = neg_ℤ (pos n)

abbrev point : ℤ → ℤ → ℤ → Pt
point x y z = record { x = x; y = y; z = z }

abbrev box : Pt → Pt → Cube
box lo hi = record { lo = lo; hi = hi }

-- the greatest of the axes' distances decides, on either side
pub distance-by_x : distance (point (pos 1) (minus 4) (pos 2)) (point (minus 8) (minus 1) (pos 4)) ≡ 9
unfolding distance
distance-by_x = refl

pub distance-by_y : distance (point (pos 1) (minus 4) (pos 2)) (point (pos 4) (pos 2) (pos 2)) ≡ 6
unfolding distance
distance-by_y = refl

pub distance-by_z : distance (point (pos 1) (minus 4) (pos 2)) (point (pos 4) (minus 6) (minus 5)) ≡ 7
unfolding distance
distance-by_z = refl

pub distance-itself : distance (point (pos 1) (minus 4) (pos 2)) (point (pos 1) (minus 4) (pos 2)) ≡ 0
unfolding distance
distance-itself = refl

-- below the numbers, above them, among them and at both ends
pub outside-below : outside (minus 3) (pos 7) (minus 8) ≡ 5
unfolding outside
outside-below = refl

pub outside-above : outside (minus 3) (pos 7) (pos 12) ≡ 5
unfolding outside
outside-above = refl

pub outside-within : outside (minus 3) (pos 7) (pos 2) ≡ 0
unfolding outside
outside-within = refl

pub outside-at_least : outside (minus 3) (pos 7) (minus 3) ≡ 0
unfolding outside
outside-at_least = refl

pub outside-at_most : outside (minus 3) (pos 7) (pos 7) ≡ 0
unfolding outside
outside-at_most = refl

-- 8 wide, 10 high and 6 deep, round the origin
abbrev room : Cube
room = box (point (minus 3) (minus 5) (minus 2)) (point (pos 5) (pos 5) (pos 4))

-- a point in the box, beside each face, and off a corner
pub box_distance-inside : box_distance room (point (pos 1) (pos 1) (pos 1)) ≡ 0
unfolding box_distance outside
box_distance-inside = refl

pub box_distance-on_a_face : box_distance room (point (pos 5) (pos 1) (pos 1)) ≡ 0
unfolding box_distance outside
box_distance-on_a_face = refl

pub box_distance-left : box_distance room (point (minus 10) (pos 1) (pos 1)) ≡ 7
unfolding box_distance outside
box_distance-left = refl

pub box_distance-right : box_distance room (point (pos 13) (pos 1) (pos 1)) ≡ 8
unfolding box_distance outside
box_distance-right = refl

pub box_distance-under : box_distance room (point (pos 1) (minus 14) (pos 1)) ≡ 9
unfolding box_distance outside
box_distance-under = refl

pub box_distance-over : box_distance room (point (pos 1) (pos 11) (pos 1)) ≡ 6
unfolding box_distance outside
box_distance-over = refl

pub box_distance-before : box_distance room (point (pos 1) (pos 1) (minus 6)) ≡ 4
unfolding box_distance outside
box_distance-before = refl

pub box_distance-after : box_distance room (point (pos 1) (pos 1) (pos 7)) ≡ 3
unfolding box_distance outside
box_distance-after = refl

pub box_distance-off_a_corner : box_distance room (point (pos 6) (minus 7) (pos 7)) ≡ 3
unfolding box_distance outside
box_distance-off_a_corner = refl

-- under on each axis: equal coordinates are allowed, one that is above is not
pub is_under-equal : is_under (point (pos 1) (minus 2) (pos 3)) (point (pos 1) (minus 2) (pos 3)) ≡ true
unfolding is_under
is_under-equal = refl

pub is_under-less : is_under (point (pos 1) (minus 2) (pos 3)) (point (pos 2) (minus 1) (pos 4)) ≡ true
unfolding is_under
is_under-less = refl

pub is_under-not_x : is_under (point (pos 2) (minus 2) (pos 3)) (point (pos 1) (minus 2) (pos 3)) ≡ false
unfolding is_under
is_under-not_x = refl

pub is_under-not_y : is_under (point (pos 1) (minus 1) (pos 3)) (point (pos 1) (minus 2) (pos 3)) ≡ false
unfolding is_under
is_under-not_y = refl

pub is_under-not_z : is_under (point (pos 1) (minus 2) (pos 4)) (point (pos 1) (minus 2) (pos 3)) ≡ false
unfolding is_under
is_under-not_z = refl

-- a point within, on two faces, and beyond a low and a high face
pub holds_point-within : holds_point room (point (pos 0) (pos 0) (pos 0)) ≡ true
unfolding holds_point is_under
holds_point-within = refl

pub holds_point-low_corner : holds_point room (point (minus 3) (minus 5) (minus 2)) ≡ true
unfolding holds_point is_under
holds_point-low_corner = refl

pub holds_point-high_corner : holds_point room (point (pos 5) (pos 5) (pos 4)) ≡ true
unfolding holds_point is_under
holds_point-high_corner = refl

pub holds_point-beyond_low : holds_point room (point (pos 0) (minus 6) (pos 0)) ≡ false
unfolding holds_point is_under
holds_point-beyond_low = refl

pub holds_point-beyond_high : holds_point room (point (pos 0) (pos 0) (pos 5)) ≡ false
unfolding holds_point is_under
holds_point-beyond_high = refl

-- a box within, the box itself, one that sticks out below, and one that sticks out above
pub holds_box-within : holds_box room (box (point (minus 1) (minus 1) (minus 1)) (point (pos 1) (pos 2) (pos 3))) ≡ true
unfolding holds_box is_under
holds_box-within = refl

pub holds_box-itself : holds_box room room ≡ true
unfolding holds_box is_under
holds_box-itself = refl

pub holds_box-out_below :
    holds_box room (box (point (minus 4) (minus 1) (minus 1)) (point (pos 1) (pos 2) (pos 3))) ≡
    false
unfolding holds_box is_under
holds_box-out_below = refl

pub holds_box-out_above :
    holds_box room (box (point (minus 1) (minus 1) (minus 1)) (point (pos 1) (pos 6) (pos 3))) ≡
    false
unfolding holds_box is_under
holds_box-out_above = refl

-- each axis by itself, whichever point comes first
pub low_of-first :
    low_of (point (pos 1) (pos 5) (minus 3)) (point (pos 2) (minus 4) (minus 7)) ≡
    point (pos 1) (minus 4) (minus 7)
unfolding low_of high_of
low_of-first = refl

pub low_of-second :
    low_of (point (pos 2) (minus 4) (minus 7)) (point (pos 1) (pos 5) (minus 3)) ≡
    point (pos 1) (minus 4) (minus 7)
unfolding low_of high_of
low_of-second = refl

pub high_of-first :
    high_of (point (pos 1) (pos 5) (minus 3)) (point (pos 2) (minus 4) (minus 7)) ≡
    point (pos 2) (pos 5) (minus 3)
unfolding low_of high_of
high_of-first = refl

pub high_of-second :
    high_of (point (pos 2) (minus 4) (minus 7)) (point (pos 1) (pos 5) (minus 3)) ≡
    point (pos 2) (pos 5) (minus 3)
unfolding low_of high_of
high_of-second = refl

abbrev near_box : Cube
near_box = box (point (pos 0) (pos 3) (minus 9)) (point (pos 1) (pos 4) (minus 8))

abbrev far_box : Cube
far_box = box (point (minus 2) (pos 7) (pos 5)) (point (minus 1) (pos 8) (pos 6))

-- two boxes apart, in either order
pub join_of-apart : join_of near_box far_box ≡ box (point (minus 2) (pos 3) (minus 9)) (point (pos 1) (pos 8) (pos 6))
unfolding join_of low_of high_of
join_of-apart = refl

pub join_of-turned : join_of far_box near_box ≡ box (point (minus 2) (pos 3) (minus 9)) (point (pos 1) (pos 8) (pos 6))
unfolding join_of low_of high_of
join_of-turned = refl

-- the box of one point has no extent
pub point_box-example :
    point_box (point (pos 1) (minus 2) (pos 3)) ≡
    box (point (pos 1) (minus 2) (pos 3)) (point (pos 1) (minus 2) (pos 3))
point_box-example = refl

-- each point counts, the first and the last too; of one point, and of none
pub hull_of-three :
    hull_of (point (pos 9) (pos 0) (pos 0) ∷ point (pos 1) (minus 5) (pos 2) ∷ point (pos 2) (pos 1) (pos 7) ∷ []) ≡
    Some (box (point (pos 1) (minus 5) (pos 0)) (point (pos 9) (pos 1) (pos 7)))
unfolding join_of low_of high_of
hull_of-three = refl

pub hull_of-one :
    hull_of (point (pos 9) (minus 1) (pos 3) ∷ []) ≡
    Some (box (point (pos 9) (minus 1) (pos 3)) (point (pos 9) (minus 1) (pos 3)))
unfolding join_of low_of high_of
hull_of-one = refl

pub hull_of-none : hull_of [] ≡ None
hull_of-none = refl

abbrev still : Tri
still = record {
  a = point (pos 0) (pos 0) (pos 0);
  b = point (pos 8) (pos 0) (pos 0);
  c = point (pos 0) (pos 8) (pos 0);
}

-- the corner that was moved furthest decides; corners are compared in their places
pub shift_of-none : shift_of still still ≡ 0
unfolding shift_of distance
shift_of-none = refl

pub shift_of-first :
    shift_of still (record still { a = point (pos 0) (minus 5) (pos 1); b = point (pos 8) (pos 3) (pos 0) }) ≡
    5
unfolding shift_of distance
shift_of-first = refl

pub shift_of-second :
    shift_of still (record still { b = point (pos 8) (pos 0) (pos 6); c = point (pos 1) (pos 8) (pos 0) }) ≡
    6
unfolding shift_of distance
shift_of-second = refl

pub shift_of-third : shift_of still (record still { c = point (minus 7) (pos 8) (pos 0) }) ≡ 7
unfolding shift_of distance
shift_of-third = refl

pub shift_of-turned : shift_of still (record { a = still.b; b = still.c; c = still.a }) ≡ 8
unfolding shift_of distance
shift_of-turned = refl

-- the triangles in their order, whatever their sources
abbrev moved : Tri
moved = record still { a = point (pos 0) (pos 0) (pos 5) }

pub tris_of-two : tris_of (record { tri = moved; source = 7 } ∷ record { tri = still; source = 2 } ∷ []) ≡
    moved ∷ still ∷ []
tris_of-two = refl
