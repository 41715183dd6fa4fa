-- The faces of a box: their corners are places of it, and how many there are.
use Rattle.std.proofs.Common.{ℕ, ◌+◌, ◌<◌, ◌≤◌, ◌++◌, length, All, arith}
use Rattle.std.proofs.lemmas.List.{length-map, length-append}
use Rattle.std.proofs.lemmas.List.Elements.{All-map, All-append}
use Rattle.std.proofs.lemmas.List.FromFn.{length-range_with_len}
use Rattle.shape_gen.specs.declared.lattice.TheConstants.{MAX_BOX_SIZE}
use Rattle.shape_gen.specs.declared.sides.Axis.{Axis}
use Rattle.shape_gen.specs.declared.sides.Axis.TheVariants.{X, Y, Z}
use Rattle.shape_gen.specs.declared.sides.End.{End}
use Rattle.shape_gen.specs.declared.sides.End.TheVariants.{First, Last}
use Rattle.shape_gen.specs.declared.sides.Face.{Face}
use Rattle.shape_gen.specs.Lattice.{IsBoxSize, IsPlace}
use Rattle.shape_gen.specs.Sides.{place_on, face_on, below, row_faces, side_faces, axis_faces, faces}
use Rattle.shape_gen.proofs.RangeFacts.{All-range, All-flat_map, length-flat_map_most}

-- what holds of each cell's face holds of each face
All-side : (P : Face → Type 0) (n : ℕ) (axis : Axis) (end : End) →
    ((p q : ℕ) → p < n → q < n → P (face_on n axis end p q)) → All P (side_faces n axis end)
All-side P n axis end each =
    All-flat_map P (row_faces n axis end) (below n)
    (All-range (λ p. All P (row_faces n axis end p)) 0 n
    (λ p least most. All-map P (face_on n axis end p) (below n)
    (All-range (λ q. P (face_on n axis end p q)) 0 n (λ q least last. each p q (omega arith) (omega arith)))))

All-axis : (P : Face → Type 0) (n : ℕ) (axis : Axis) →
    ((end : End) (p q : ℕ) → p < n → q < n → P (face_on n axis end p q)) → All P (axis_faces n axis)
All-axis P n axis each =
    All-append P (side_faces n axis First) (side_faces n axis Last) (All-side P n axis First (each First))
    (All-side P n axis Last (each Last))

pub All-faces : (P : Face → Type 0) (n : ℕ) →
    ((axis : Axis) (end : End) (p q : ℕ) → p < n → q < n → P (face_on n axis end p q)) → All P (faces n)
All-faces P n each =
    All-append P (axis_faces n X) (axis_faces n Y ++ axis_faces n Z) (All-axis P n X (each X))
    (All-append P (axis_faces n Y) (axis_faces n Z) (All-axis P n Y (each Y)) (All-axis P n Z (each Z)))

-- the four corners are places of some box
abbrev pub HasPlaces : Face → Type 0
HasPlaces f = IsPlace f.a × IsPlace f.b × IsPlace f.c × IsPlace f.d

place_on-place : (axis : Axis) (depth p q : ℕ) → depth ≤ MAX_BOX_SIZE → p ≤ MAX_BOX_SIZE → q ≤ MAX_BOX_SIZE →
    IsPlace (place_on axis depth p q)
place_on-place X depth p q a b c = record { i = a; j = b; k = c }
place_on-place Y depth p q a b c = record { i = c; j = a; k = b }
place_on-place Z depth p q a b c = record { i = b; j = c; k = a }

pub face_on-places : (n : ℕ) → IsBoxSize n → (axis : Axis) (end : End) (p q : ℕ) → p < n → q < n →
    HasPlaces (face_on n axis end p q)
face_on-places n size axis First p q in_p in_q = (
  place_on-place axis 0 p q (omega arith) (omega arith) (omega arith),
  place_on-place axis 0 p (q + 1) (omega arith) (omega arith) (omega arith),
  place_on-place axis 0 (p + 1) (q + 1) (omega arith) (omega arith) (omega arith),
  place_on-place axis 0 (p + 1) q (omega arith) (omega arith) (omega arith),
)
face_on-places n size axis Last p q in_p in_q = (
  place_on-place axis n p q (omega arith) (omega arith) (omega arith),
  place_on-place axis n (p + 1) q (omega arith) (omega arith) (omega arith),
  place_on-place axis n (p + 1) (q + 1) (omega arith) (omega arith) (omega arith),
  place_on-place axis n p (q + 1) (omega arith) (omega arith) (omega arith),
)

pub faces-places : (n : ℕ) → IsBoxSize n → All HasPlaces (faces n)
faces-places n size = All-faces HasPlaces n (face_on-places n size)

-- at most 295 faces a row and 295 rows a side
length-row : (n : ℕ) (axis : Axis) (end : End) (p : ℕ) → IsBoxSize n → length (row_faces n axis end p) ≤ 295
length-row n axis end p size =
    omega (arith, length-map (below n) (face_on n axis end p), length-range_with_len 0 n)

length-side : (n : ℕ) (axis : Axis) (end : End) → IsBoxSize n → length (side_faces n axis end) ≤ 87025
length-side n axis end size =
    omega (
      arith,
      length-flat_map_most (row_faces n axis end) 295 (λ p. length-row n axis end p size) (below n),
      length-range_with_len 0 n,
    )

length-axis : (n : ℕ) (axis : Axis) → IsBoxSize n → length (axis_faces n axis) ≤ 174050
length-axis n axis size =
    omega (
      arith,
      length-append (side_faces n axis First) (side_faces n axis Last),
      length-side n axis First size,
      length-side n axis Last size,
    )

pub length-faces : (n : ℕ) → IsBoxSize n → length (faces n) ≤ 522150
length-faces n size =
    omega (
      arith,
      length-append (axis_faces n X) (axis_faces n Y ++ axis_faces n Z),
      length-append (axis_faces n Y) (axis_faces n Z),
      length-axis n X size,
      length-axis n Y size,
      length-axis n Z size,
    )
