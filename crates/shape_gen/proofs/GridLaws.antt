-- The triangles of a box are those of a mesh: few, of grid points, each of three different ones.
use Rattle.std.proofs.Common.{◌≡◌, ◌≢◌, ℕ, zero, suc, ◌+◌, ◌<◌, ◌≤◌, ◌^◌, Bool, true, false, pos, [], ◌∷◌, length, All}
use Rattle.std.proofs.Common.{refl, sym, ap, arith}
use Rattle.std.proofs.lemmas.Bool.Decides.{nat_tests}
use Rattle.std.proofs.lemmas.List.Elements.{All-nil, All-cons}
use Rattle.geom_core.specs.declared.points.Pt.{Pt}
use Rattle.geom_core.specs.declared.triangles.Tri.{Tri}
use Rattle.geom_core.specs.EdgeSum.{same_point}
use Rattle.geom_core.specs.Limits.{is_grid_point, has_distinct_corners, IsGridTriangle, AreGridTriangles}
use Rattle.geom_core.proofs.PointLaws.{same_point-from}
use Rattle.shape_gen.specs.declared.lattice.Place.{Place}
use Rattle.shape_gen.specs.declared.sides.Axis.{Axis}
use Rattle.shape_gen.specs.declared.sides.Axis.TheVariants.{X, Y, Z}
use Rattle.shape_gen.specs.declared.sides.End.{End}
use Rattle.shape_gen.specs.declared.sides.End.TheVariants.{First, Last}
use Rattle.shape_gen.specs.declared.sides.Face.{Face}
use Rattle.shape_gen.specs.Boxes.{fan_of, triangles_of_box}
use Rattle.shape_gen.specs.Lattice.{IsBoxSize, IsPlace, place, offset, x_at, y_at, z_at, point_at}
use Rattle.shape_gen.specs.Sides.{place_on, face_on, faces}
use Rattle.shape_gen.proofs.FaceLaws.{HasPlaces, All-faces, face_on-places, length-faces}
use Rattle.shape_gen.proofs.RangeFacts.{All-flat_map, length-flat_map_most}

-- ---- the range

offset-limit : (number : ℕ) (p : Place) → offset number p < 251
unfolding offset
offset-limit number p = omega arith

pub x_at-limit : (number : ℕ) (p : Place) → IsPlace p → x_at number p ≤ 2 ^ 20
unfolding x_at
x_at-limit number p place = omega (arith, offset-limit number p, place.i)

pub y_at-limit : (number : ℕ) (p : Place) → IsPlace p → y_at number p ≤ 2 ^ 20
unfolding y_at
y_at-limit number p place = omega (arith, place.j)

pub z_at-limit : (number : ℕ) (p : Place) → IsPlace p → z_at number p ≤ 2 ^ 20
unfolding z_at
z_at-limit number p place = omega (arith, place.k)

grid_point_from : (x y z : ℕ) → x ≤ 2 ^ 20 → y ≤ 2 ^ 20 → z ≤ 2 ^ 20 →
    is_grid_point (record { x = pos x; y = pos y; z = pos z }) ≡ true
grid_point_from x y z in_x in_y in_z = grind (arith, nat_tests)

point_at-grid : (number : ℕ) (p : Place) → IsPlace p → is_grid_point (point_at number p) ≡ true
point_at-grid number p place =
    grid_point_from (x_at number p) (y_at number p) (z_at number p) (x_at-limit number p place)
    (y_at-limit number p place)
    (z_at-limit number p place)

-- ---- two places have two points

x_at-place : (number : ℕ) (p q : Place) → x_at number p ≡ x_at number q → p.i ≡ q.i
unfolding x_at
x_at-place number p q same = omega (arith, offset-limit number p, offset-limit number q)

y_at-place : (number : ℕ) (p q : Place) → y_at number p ≡ y_at number q → p.j ≡ q.j
unfolding y_at
y_at-place number p q same = omega arith

z_at-place : (number : ℕ) (p q : Place) → z_at number p ≡ z_at number q → p.k ≡ q.k
unfolding z_at
z_at-place number p q same = omega arith

pub place_from : (i j k h l m : ℕ) → i ≡ h → j ≡ l → k ≡ m → place i j k ≡ place h l m
place_from i j k h l m by_i by_j by_k = cc

number_from : (m n : ℕ) → pos m ≡ pos n → m ≡ n
number_from m n same = cc

point_at-place : (number : ℕ) (p q : Place) → point_at number p ≡ point_at number q → p ≡ q
point_at-place number p q same =
    place_from p.i p.j p.k q.i q.j q.k
    (x_at-place number p q (number_from _ _ (ap (λ (t : Pt). t.x) same)))
    (y_at-place number p q (number_from _ _ (ap (λ (t : Pt). t.y) same)))
    (z_at-place number p q (number_from _ _ (ap (λ (t : Pt). t.z) same)))

false_from : (b : Bool) → (b ≡ true → ⊥) → b ≡ false
false_from true never = absurd (never refl)
false_from false never = refl

pub points_differ : (number : ℕ) (p q : Place) → p ≢ q → same_point (point_at number p) (point_at number q) ≡ false
points_differ number p q differ =
    false_from (same_point (point_at number p) (point_at number q))
    (λ same. differ (point_at-place number p q (same_point-from (point_at number p) (point_at number q) same)))

-- ---- the corners of a face are four places

place_on-p : (axis : Axis) (d p q r s : ℕ) → place_on axis d p q ≡ place_on axis d r s → p ≡ r
place_on-p X d p q r s same = ap (λ (t : Place). t.j) same
place_on-p Y d p q r s same = ap (λ (t : Place). t.k) same
place_on-p Z d p q r s same = ap (λ (t : Place). t.i) same

place_on-q : (axis : Axis) (d p q r s : ℕ) → place_on axis d p q ≡ place_on axis d r s → q ≡ s
place_on-q X d p q r s same = ap (λ (t : Place). t.k) same
place_on-q Y d p q r s same = ap (λ (t : Place). t.i) same
place_on-q Z d p q r s same = ap (λ (t : Place). t.j) same

other_p : (axis : Axis) (d p q r s : ℕ) → (p ≡ r → ⊥) → place_on axis d p q ≢ place_on axis d r s
other_p axis d p q r s differ same = differ (place_on-p axis d p q r s same)

other_q : (axis : Axis) (d p q r s : ℕ) → (q ≡ s → ⊥) → place_on axis d p q ≢ place_on axis d r s
other_q axis d p q r s differ same = differ (place_on-q axis d p q r s same)

-- no two corners of either triangle of the face are one place
pub record AreCorners (f : Face) : Type 0 where
  pub ab : f.a ≢ f.b
  pub bc : f.b ≢ f.c
  pub ca : f.c ≢ f.a
  pub cd : f.c ≢ f.d
  pub da : f.d ≢ f.a

pub face_on-corners : (n : ℕ) (axis : Axis) (end : End) (p q : ℕ) → AreCorners (face_on n axis end p q)
face_on-corners n axis First p q = record {
  ab = other_q axis 0 p q p (q + 1) (λ e. omega arith);
  bc = other_p axis 0 p (q + 1) (p + 1) (q + 1) (λ e. omega arith);
  ca = other_p axis 0 (p + 1) (q + 1) p q (λ e. omega arith);
  cd = other_q axis 0 (p + 1) (q + 1) (p + 1) q (λ e. omega arith);
  da = other_p axis 0 (p + 1) q p q (λ e. omega arith);
}
face_on-corners n axis Last p q = record {
  ab = other_p axis n p q (p + 1) q (λ e. omega arith);
  bc = other_q axis n (p + 1) q (p + 1) (q + 1) (λ e. omega arith);
  ca = other_p axis n (p + 1) (q + 1) p q (λ e. omega arith);
  cd = other_p axis n (p + 1) (q + 1) p (q + 1) (λ e. omega arith);
  da = other_q axis n p (q + 1) p q (λ e. omega arith);
}

-- ---- the triangles

triangle_from : (t : Tri) → is_grid_point t.a ≡ true → is_grid_point t.b ≡ true → is_grid_point t.c ≡ true →
    same_point t.a t.b ≡ false → same_point t.b t.c ≡ false → same_point t.c t.a ≡ false → IsGridTriangle t
unfolding has_distinct_corners
triangle_from t at_a at_b at_c ab bc ca = rw (at_a, at_b, at_c, ab, bc, ca) refl

pub fan-grid : (number : ℕ) (f : Face) → HasPlaces f → AreCorners f → All IsGridTriangle (fan_of number f)
fan-grid number f places corners =
    All-cons IsGridTriangle lower (upper ∷ [])
    (triangle_from lower (point_at-grid number f.a places.0) (point_at-grid number f.b places.1)
    (point_at-grid number f.c places.2) (points_differ number f.a f.b corners.ab)
    (points_differ number f.b f.c corners.bc)
    (points_differ number f.c f.a corners.ca))
    (All-cons IsGridTriangle upper []
    (triangle_from upper (point_at-grid number f.a places.0) (point_at-grid number f.c places.2)
    (point_at-grid number f.d places.3) (points_differ number f.a f.c (λ e. corners.ca (sym e)))
    (points_differ number f.c f.d corners.cd) (points_differ number f.d f.a corners.da))
    (All-nil IsGridTriangle))
  where
    lower : Tri
    lower = record { a = point_at number f.a; b = point_at number f.b; c = point_at number f.c }

    upper : Tri
    upper = record { a = point_at number f.a; b = point_at number f.c; c = point_at number f.d }

some_triangle : (n number : ℕ) → 1 ≤ n → 1 ≤ length (triangles_of_box n number)
some_triangle zero number least = absurd (omega arith)
some_triangle (suc m) number least = omega arith

pub triangles-grid : (n number : ℕ) → IsBoxSize n → AreGridTriangles (triangles_of_box n number)
triangles-grid n number size = record {
  some = some_triangle n number size.least;
  triangle_limit =
      omega (arith, length-flat_map_most (fan_of number) 2 (λ f. omega arith) (faces n), length-faces n size);
  each =
      All-flat_map IsGridTriangle (fan_of number) (faces n)
      (All-faces (λ f. All IsGridTriangle (fan_of number f)) n
      (λ axis end p q in_p in_q. fan-grid number (face_on n axis end p q) (face_on-places n size axis end p q in_p in_q)
      (face_on-corners n axis end p q)));
}
