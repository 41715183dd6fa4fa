-- What the lines of a box's text are read as: a vertex line as the point at its place, a face line as the fan of its
-- face.
use Rattle.std.proofs.Common.{◌≡◌, ℕ, ◌+◌, ◌<◌, ◌≤◌, ◌^◌, true, List, [], ◌∷◌, ◌++◌, length, map, filter, All, ◌⊎◌, Ok}
use Rattle.std.proofs.Common.{codes, decimal, inl, inr, refl, ap, arith}
use Rattle.std.specs.List.{position_or_len}
use Rattle.std.proofs.lemmas.Bool.{le-leb, and_parts}
use Rattle.std.proofs.lemmas.Bool.Decides.{nat_tests}
use Rattle.std.proofs.lemmas.List.Elements.{All-head, All-tail}
use Rattle.geom_core.specs.declared.limits.TheConstants.{MAX_TRIANGLES}
use Rattle.geom_core.specs.declared.triangles.Tri.{Tri}
use Rattle.geom_core.specs.Limits.{has_grid_corners, has_distinct_corners, IsGridTriangle}
use Rattle.obj_source.specs.Mesh.{MeshSoFar, corner_of, vertex_of, face_of, with_vertex, with_line}
use Rattle.shape_gen.specs.declared.lattice.Place.{Place}
use Rattle.shape_gen.specs.declared.sides.Axis.{Axis}
use Rattle.shape_gen.specs.declared.sides.Axis.TheVariants.{X, Y, Z}
use Rattle.shape_gen.specs.declared.sides.End.{End}
use Rattle.shape_gen.specs.declared.sides.End.TheVariants.{First, Last}
use Rattle.shape_gen.specs.declared.sides.Face.{Face}
use Rattle.shape_gen.specs.Boxes.{fan_of}
use Rattle.shape_gen.specs.BoxText.{same_place, vertex_number}
use Rattle.shape_gen.specs.Lattice.{IsBoxSize, IsPlace, place, is_on_surface, lattice, x_at, y_at, z_at, point_at}
use Rattle.shape_gen.specs.Sides.{place_on, face_on, faces}
use Rattle.shape_gen.proofs.FaceLaws.{All-faces, face_on-places}
use Rattle.shape_gen.proofs.GridLaws.{x_at-limit, y_at-limit, z_at-limit, fan-grid, face_on-corners}
use Rattle.shape_gen.proofs.LatticeMembers.{IsIn, lattice-has, position-within, point-found}
use Rattle.shape_gen.proofs.PrintedNumbers.{coordinate_of-decimal, corner_of-vertex}
use Rattle.shape_gen.proofs.TextSize.{vertex_numbers, corner_numbers}

-- ---- a vertex line

pub with_line-vertex : (number : ℕ) (p : Place) (m : MeshSoFar) (line : ℕ) → IsPlace p →
    with_line 1 m line (codes "v" ∷ map decimal (vertex_numbers number p)) ≡ Ok (with_vertex m (point_at number p))
unfolding with_line vertex_of
with_line-vertex number p m line place =
    rw (
      coordinate_of-decimal (x_at number p) (x_at-limit number p place),
      coordinate_of-decimal (y_at number p) (y_at-limit number p place),
      coordinate_of-decimal (z_at number p) (z_at-limit number p place),
    ) refl

-- ---- a face line

-- the corners are places of the lattice, and the triangles of the fan those of a mesh
pub record IsReadable (n number : ℕ) (f : Face) : Type 0 where
  pub a : IsIn f.a (lattice n)
  pub b : IsIn f.b (lattice n)
  pub c : IsIn f.c (lattice n)
  pub d : IsIn f.d (lattice n)
  pub fan : All IsGridTriangle (fan_of number f)

-- a depth, the first or the last, is that of a side
surface-i : (n i j k : ℕ) → (i ≡ 0) ⊎ (i ≡ n) → is_on_surface n (place i j k) ≡ true
unfolding is_on_surface
surface-i n i j k end = grind (arith, nat_tests)

surface-j : (n i j k : ℕ) → (j ≡ 0) ⊎ (j ≡ n) → is_on_surface n (place i j k) ≡ true
unfolding is_on_surface
surface-j n i j k end = grind (arith, nat_tests)

surface-k : (n i j k : ℕ) → (k ≡ 0) ⊎ (k ≡ n) → is_on_surface n (place i j k) ≡ true
unfolding is_on_surface
surface-k n i j k end = grind (arith, nat_tests)

place_on-lattice : (n : ℕ) (axis : Axis) (d p q : ℕ) → (d ≡ 0) ⊎ (d ≡ n) → d ≤ n → p ≤ n → q ≤ n →
    IsIn (place_on axis d p q) (lattice n)
place_on-lattice n X d p q end in_d in_p in_q = lattice-has n d p q in_d in_p in_q (surface-i n d p q end)
place_on-lattice n Y d p q end in_d in_p in_q = lattice-has n q d p in_q in_d in_p (surface-j n q d p end)
place_on-lattice n Z d p q end in_d in_p in_q = lattice-has n p q d in_p in_q in_d (surface-k n p q d end)

face_on-readable : (n number : ℕ) → IsBoxSize n → (axis : Axis) (end : End) (p q : ℕ) → p < n → q < n →
    IsReadable n number (face_on n axis end p q)
face_on-readable n number size axis First p q in_p in_q = record {
  a = place_on-lattice n axis 0 p q (inl refl) (omega arith) (omega arith) (omega arith);
  b = place_on-lattice n axis 0 p (q + 1) (inl refl) (omega arith) (omega arith) (omega arith);
  c = place_on-lattice n axis 0 (p + 1) (q + 1) (inl refl) (omega arith) (omega arith) (omega arith);
  d = place_on-lattice n axis 0 (p + 1) q (inl refl) (omega arith) (omega arith) (omega arith);
  fan =
      fan-grid number (face_on n axis First p q) (face_on-places n size axis First p q in_p in_q)
      (face_on-corners n axis First p q);
}
face_on-readable n number size axis Last p q in_p in_q = record {
  a = place_on-lattice n axis n p q (inr refl) (omega arith) (omega arith) (omega arith);
  b = place_on-lattice n axis n (p + 1) q (inr refl) (omega arith) (omega arith) (omega arith);
  c = place_on-lattice n axis n (p + 1) (q + 1) (inr refl) (omega arith) (omega arith) (omega arith);
  d = place_on-lattice n axis n p (q + 1) (inr refl) (omega arith) (omega arith) (omega arith);
  fan =
      fan-grid number (face_on n axis Last p q) (face_on-places n size axis Last p q in_p in_q)
      (face_on-corners n axis Last p q);
}

pub faces-readable : (n number : ℕ) → IsBoxSize n → All (IsReadable n number) (faces n)
faces-readable n number size = All-faces (IsReadable n number) n (face_on-readable n number size)

-- a corner of the face line is the point at its place
corner_of-place : (n number place : ℕ) (p : Place) → length (lattice n) + 1 < 10 ^ 8 → IsIn p (lattice n) →
    corner_of (map (point_at number) (lattice n)) place (decimal (vertex_number (lattice n) p)) ≡ Ok (point_at number p)
unfolding vertex_number
corner_of-place n number place p few is_in =
    corner_of-vertex (map (point_at number) (lattice n)) place (position_or_len (same_place p) (lattice n))
    (point_at number p)
    (omega (arith, position-within p (lattice n) is_in)) (point-found number p (lattice n) is_in)

filter-kept : (ts : List Tri) → All IsGridTriangle ts → filter has_distinct_corners ts ≡ ts
filter-kept [] each = refl
filter-kept (t ∷ ts) each =
    let distinct : has_distinct_corners t ≡ true =
    (and_parts (has_grid_corners t) (has_distinct_corners t) (All-head IsGridTriangle t ts each)).1 in
    rw distinct (ap (λ l. t ∷ l) (filter-kept ts (All-tail IsGridTriangle t ts each)))

face_of-face : (n number : ℕ) (f : Face) → length (lattice n) + 1 < 10 ^ 8 → IsReadable n number f →
    face_of (map (point_at number) (lattice n)) (codes "f" ∷ map decimal (corner_numbers (lattice n) f)) ≡
    Ok (fan_of number f)
unfolding face_of
face_of-face n number f few readable =
    rw (
      corner_of-place n number 1 f.a few readable.a,
      corner_of-place n number 2 f.b few readable.b,
      corner_of-place n number 3 f.c few readable.c,
      corner_of-place n number 4 f.d few readable.d,
      filter-kept (fan_of number f) readable.fan,
    ) refl

pub with_line-face : (n number : ℕ) (f : Face) (m : MeshSoFar) (line : ℕ) → length (lattice n) + 1 < 10 ^ 8 →
    IsReadable n number f → m.vertices ≡ map (point_at number) (lattice n) →
    length m.triangles + 2 ≤ MAX_TRIANGLES →
    with_line 1 m line (codes "f" ∷ map decimal (corner_numbers (lattice n) f)) ≡
    Ok (record { vertices = m.vertices; triangles = m.triangles ++ fan_of number f })
unfolding with_line
with_line-face n number f m line few readable vertices room =
    rw (
      ap (λ v. face_of v (codes "f" ∷ map decimal (corner_numbers (lattice n) f))) vertices,
      face_of-face n number f few readable,
      le-leb (length m.triangles + 2) MAX_TRIANGLES room,
    ) refl
