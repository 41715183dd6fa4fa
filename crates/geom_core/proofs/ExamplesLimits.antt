-- Worked examples of the ranges, computed by the checker: the greatest number of each and the next one.
use Rattle.std.specs.Prelude.{◌≡◌, ℕ, ℤ, pos, neg_ℤ, true, false, List, [], ◌∷◌, length, refl}
use Rattle.std.proofs.Common.{arith}
use Rattle.std.proofs.lemmas.List.Elements.{All-nil, All-cons, All-head}
use Rattle.geom_core.specs.declared.points.Pt.{Pt}
use Rattle.geom_core.specs.declared.triangles.Tri.{Tri}
use Rattle.geom_core.specs.EdgeSum.{same_point}
use Rattle.geom_core.specs.Limits.{is_point_within, is_grid_coordinate, is_grid_point, has_grid_corners}
use Rattle.geom_core.specs.Limits.{has_distinct_corners, is_grid_triangle, IsGridTriangle, AreGridTriangles}
use Rattle.geom_core.specs.Limits.{is_eye, is_scale, is_side, is_picture, is_screen_coordinate, is_depth, is_spot}
use Rattle.geom_core.specs.Limits.{is_cluster_number}

-- the number below 0
abbrev minus : ℕ → ℤ
minus n = neg_ℤ (pos n)

abbrev point : ℤ → ℤ → ℤ → Pt
point x y z = record { x = x; y = y; z = z }

abbrev tri : Pt → Pt → Pt → Tri
tri a b c = record { a = a; b = b; c = c }

-- each axis, on either side
pub is_point_within-at : is_point_within 9 (point (pos 9) (minus 9) (pos 9)) ≡ true
is_point_within-at = refl

pub is_point_within-not_x : is_point_within 9 (point (minus 10) (pos 0) (pos 0)) ≡ false
is_point_within-not_x = refl

pub is_point_within-not_y : is_point_within 9 (point (pos 0) (pos 10) (pos 0)) ≡ false
is_point_within-not_y = refl

pub is_point_within-not_z : is_point_within 9 (point (pos 0) (pos 0) (minus 10)) ≡ false
is_point_within-not_z = refl

-- 2^20 grid steps from 0
pub is_grid_coordinate-most : is_grid_coordinate (pos 1048576) ≡ true
is_grid_coordinate-most = refl

pub is_grid_coordinate-least : is_grid_coordinate (minus 1048576) ≡ true
is_grid_coordinate-least = refl

pub is_grid_coordinate-over : is_grid_coordinate (pos 1048577) ≡ false
is_grid_coordinate-over = refl

pub is_grid_coordinate-under : is_grid_coordinate (minus 1048577) ≡ false
is_grid_coordinate-under = refl

-- each axis
pub is_grid_point-at : is_grid_point (point (pos 1048576) (minus 1048576) (pos 1048576)) ≡ true
is_grid_point-at = refl

pub is_grid_point-not_x : is_grid_point (point (pos 1048577) (pos 0) (pos 0)) ≡ false
is_grid_point-not_x = refl

pub is_grid_point-not_y : is_grid_point (point (pos 0) (minus 1048577) (pos 0)) ≡ false
is_grid_point-not_y = refl

pub is_grid_point-not_z : is_grid_point (point (pos 0) (pos 0) (pos 1048577)) ≡ false
is_grid_point-not_z = refl

abbrev origin : Pt
origin = point (pos 0) (pos 0) (pos 0)

abbrev right : Pt
right = point (pos 8) (pos 0) (pos 0)

abbrev upper : Pt
upper = point (pos 8) (pos 0) (pos 1)

abbrev outer : Pt
outer = point (pos 0) (pos 1048577) (pos 0)

-- each corner
pub has_grid_corners-folded : has_grid_corners (tri origin right origin) ≡ true
has_grid_corners-folded = refl

pub has_grid_corners-not_a : has_grid_corners (tri outer right origin) ≡ false
has_grid_corners-not_a = refl

pub has_grid_corners-not_b : has_grid_corners (tri origin outer right) ≡ false
has_grid_corners-not_b = refl

pub has_grid_corners-not_c : has_grid_corners (tri origin right outer) ≡ false
has_grid_corners-not_c = refl

-- each pair of corners; corners that differ by z alone are two points
pub has_distinct_corners-three : has_distinct_corners (tri origin right upper) ≡ true
unfolding has_distinct_corners same_point
has_distinct_corners-three = refl

pub has_distinct_corners-not_ab : has_distinct_corners (tri right right upper) ≡ false
unfolding has_distinct_corners same_point
has_distinct_corners-not_ab = refl

pub has_distinct_corners-not_bc : has_distinct_corners (tri origin upper upper) ≡ false
unfolding has_distinct_corners same_point
has_distinct_corners-not_bc = refl

pub has_distinct_corners-not_ca : has_distinct_corners (tri upper right upper) ≡ false
unfolding has_distinct_corners same_point
has_distinct_corners-not_ca = refl

-- both are asked
pub is_grid_triangle-three : is_grid_triangle (tri origin right upper) ≡ true
unfolding has_distinct_corners same_point
is_grid_triangle-three = refl

pub is_grid_triangle-folded : is_grid_triangle (tri origin right origin) ≡ false
unfolding has_distinct_corners same_point
is_grid_triangle-folded = refl

pub is_grid_triangle-outer : is_grid_triangle (tri origin right outer) ≡ false
unfolding has_distinct_corners same_point
is_grid_triangle-outer = refl

-- one triangle is enough, none is not, and each is asked
pub AreGridTriangles-one : AreGridTriangles (tri origin right upper ∷ [])
unfolding has_distinct_corners same_point
AreGridTriangles-one = record {
  some = omega arith;
  triangle_limit = omega arith;
  each = All-cons IsGridTriangle (tri origin right upper) [] refl (All-nil IsGridTriangle);
}

pub AreGridTriangles-none : AreGridTriangles [] → ⊥
AreGridTriangles-none h = omega (arith, h.some)

pub AreGridTriangles-folded : AreGridTriangles (tri origin right origin ∷ []) → ⊥
unfolding has_distinct_corners same_point
AreGridTriangles-folded h =
    let folded = All-head IsGridTriangle (tri origin right origin) [] h.each in
    absurd cc

pub AreGridTriangles-too_many : (tris : List Tri) → length tris ≡ 1048577 → AreGridTriangles tris → ⊥
AreGridTriangles-too_many tris many h = omega (arith, many, h.triangle_limit)

-- 2^24 grid steps from 0
pub is_eye-at : is_eye (point (pos 16777216) (minus 16777216) (pos 16777216)) ≡ true
is_eye-at = refl

pub is_eye-over : is_eye (point (pos 0) (pos 0) (pos 16777217)) ≡ false
is_eye-over = refl

-- 1 to 65,536 grid steps per unit
pub is_scale-none : is_scale 0 ≡ false
is_scale-none = refl

pub is_scale-least : is_scale 1 ≡ true
is_scale-least = refl

pub is_scale-most : is_scale 65536 ≡ true
is_scale-most = refl

pub is_scale-over : is_scale 65537 ≡ false
is_scale-over = refl

-- 1 to 512 columns or rows
pub is_side-none : is_side 0 ≡ false
is_side-none = refl

pub is_side-least : is_side 1 ≡ true
is_side-least = refl

pub is_side-most : is_side 512 ≡ true
is_side-most = refl

pub is_side-over : is_side 513 ≡ false
is_side-over = refl

-- both sides
pub is_picture-at : is_picture (record { width = 512; height = 1 }) ≡ true
is_picture-at = refl

pub is_picture-not_width : is_picture (record { width = 513; height = 1 }) ≡ false
is_picture-not_width = refl

pub is_picture-not_height : is_picture (record { width = 1; height = 0 }) ≡ false
is_picture-not_height = refl

-- 2^42 sixteenths of a pixel from 0
pub is_screen_coordinate-most : is_screen_coordinate (pos 4398046511104) ≡ true
is_screen_coordinate-most = refl

pub is_screen_coordinate-least : is_screen_coordinate (minus 4398046511104) ≡ true
is_screen_coordinate-least = refl

pub is_screen_coordinate-over : is_screen_coordinate (pos 4398046511105) ≡ false
is_screen_coordinate-over = refl

pub is_screen_coordinate-under : is_screen_coordinate (minus 4398046511105) ≡ false
is_screen_coordinate-under = refl

-- 1 to 2^30 - 1
pub is_depth-none : is_depth 0 ≡ false
is_depth-none = refl

pub is_depth-least : is_depth 1 ≡ true
is_depth-least = refl

pub is_depth-most : is_depth 1073741823 ≡ true
is_depth-most = refl

pub is_depth-over : is_depth 1073741824 ≡ false
is_depth-over = refl

-- both coordinates and the depth
pub is_spot-at : is_spot (record { x = pos 4398046511104; y = minus 4398046511104; z = 1 }) ≡ true
is_spot-at = refl

pub is_spot-not_x : is_spot (record { x = pos 4398046511105; y = pos 0; z = 1 }) ≡ false
is_spot-not_x = refl

pub is_spot-not_y : is_spot (record { x = pos 0; y = minus 4398046511105; z = 1 }) ≡ false
is_spot-not_y = refl

pub is_spot-not_z : is_spot (record { x = pos 0; y = pos 0; z = 0 }) ≡ false
is_spot-not_z = refl

-- 27 bits
pub is_cluster_number-most : is_cluster_number 134217727 ≡ true
is_cluster_number-most = refl

pub is_cluster_number-over : is_cluster_number 134217728 ≡ false
is_cluster_number-over = refl
