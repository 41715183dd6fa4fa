-- The lines of a box's text: their fields, and how long the text is.
use Rattle.std.proofs.Common.{ℕ, ◌+◌, ◌*◌, ◌<◌, ◌≤◌, ◌^◌, not, List, [], ◌∷◌, length, map, flat_map, All, decimal}
use Rattle.std.proofs.Common.{arith}
use Rattle.std.specs.List.{join_with_byte}
use Rattle.std.proofs.lemmas.Fmt.{length-decimal-le}
use Rattle.std.proofs.lemmas.List.{length-append}
use Rattle.std.proofs.lemmas.List.Elements.{All-nil, All-cons}
use Rattle.std.proofs.lemmas.List.Sums.{prefix_len-le-length}
use Rattle.geom_core.specs.declared.limits.TheConstants.{MAX_OBJ_BYTES}
use Rattle.shape_gen.specs.declared.lattice.Place.{Place}
use Rattle.shape_gen.specs.declared.sides.Face.{Face}
use Rattle.shape_gen.specs.BoxText.{line_of, same_place, vertex_line, vertex_number, face_line, text_of_box}
use Rattle.shape_gen.specs.Lattice.{IsBoxSize, IsPlace, lattice, x_at, y_at, z_at}
use Rattle.shape_gen.specs.Sides.{faces}
use Rattle.shape_gen.proofs.FaceLaws.{length-faces}
use Rattle.shape_gen.proofs.GridLaws.{x_at-limit, y_at-limit, z_at-limit}
use Rattle.shape_gen.proofs.LatticeLaws.{lattice-places}
use Rattle.shape_gen.proofs.LatticeSize.{length-lattice}
use Rattle.shape_gen.proofs.PrintedNumbers.{decimal-field}
use Rattle.shape_gen.proofs.RangeFacts.{length-flat_map_each, length-flat_map_most}
use Rattle.shape_gen.proofs.TextWords.{IsField}

-- ---- a line of a letter and numbers

-- each number has at most eight digits
abbrev pub AreSmall : List ℕ → Type 0
AreSmall [] = Unit {0}
AreSmall (n ∷ ns) = (n < 10 ^ 8) × AreSmall ns

numbers-fields : (ns : List ℕ) → AreSmall ns → All IsField (map decimal ns)
numbers-fields [] small = All-nil IsField
numbers-fields (n ∷ ns) small =
    All-cons IsField (decimal n) (map decimal ns) (decimal-field n (omega (arith, small.0)))
    (numbers-fields ns small.1)

pub line-fields : (letter : ℕ) (ns : List ℕ) → 48 ≤ letter → AreSmall ns →
    All IsField ((letter ∷ []) ∷ map decimal ns)
line-fields letter ns high small =
    All-cons IsField (letter ∷ []) (map decimal ns)
    (record { some = omega arith; bytes = All-cons (λ c. 48 ≤ c) letter [] high (All-nil (λ c. 48 ≤ c)) })
    (numbers-fields ns small)

length-numbers : (field : List ℕ) (ns : List ℕ) → AreSmall ns →
    length (join_with_byte 32 (field ∷ map decimal ns)) ≤ length field + 9 * length ns
length-numbers field [] small = omega arith
length-numbers field (n ∷ ns) small =
    omega (
      arith,
      length-append field (32 ∷ join_with_byte 32 (decimal n ∷ map decimal ns)),
      length-decimal-le 8 n (omega arith) small.0 (omega (arith, small.0)),
      length-numbers (decimal n) ns small.1,
    )

length-line : (letter : ℕ) (ns : List ℕ) → AreSmall ns →
    length (line_of ((letter ∷ []) ∷ map decimal ns)) ≤ 2 + 9 * length ns
length-line letter ns small =
    omega (
      arith,
      length-append (join_with_byte 32 ((letter ∷ []) ∷ map decimal ns)) (10 ∷ []),
      length-numbers (letter ∷ []) ns small,
    )

-- ---- the numbers of a vertex and of a face

abbrev pub vertex_numbers : ℕ → Place → List ℕ
vertex_numbers number p = x_at number p ∷ y_at number p ∷ z_at number p ∷ []

abbrev pub corner_numbers : List Place → Face → List ℕ
corner_numbers places f =
    vertex_number places f.a ∷ vertex_number places f.b ∷ vertex_number places f.c ∷ vertex_number places f.d ∷ []

pub vertex_numbers-small : (number : ℕ) (p : Place) → IsPlace p → AreSmall (vertex_numbers number p)
vertex_numbers-small number p place = (
  omega (arith, x_at-limit number p place),
  (omega (arith, y_at-limit number p place), (omega (arith, z_at-limit number p place), tt)),
)

vertex_number-limit : (places : List Place) (p : Place) → vertex_number places p ≤ length places + 1
unfolding vertex_number
vertex_number-limit places p = omega (arith, prefix_len-le-length (λ q. not (same_place p q)) places)

pub corner_numbers-small : (places : List Place) (f : Face) → length places + 1 < 10 ^ 8 →
    AreSmall (corner_numbers places f)
corner_numbers-small places f few = (
  omega (arith, vertex_number-limit places f.a),
  (
    omega (arith, vertex_number-limit places f.b),
    (omega (arith, vertex_number-limit places f.c), (omega (arith, vertex_number-limit places f.d), tt)),
  ),
)

-- ---- the text

length-vertex_line : (number : ℕ) (p : Place) → IsPlace p → length (vertex_line number p) ≤ 29
length-vertex_line number p place =
    omega (arith, length-line 118 (vertex_numbers number p) (vertex_numbers-small number p place))

length-face_line : (places : List Place) (f : Face) → length places + 1 < 10 ^ 8 → length (face_line places f) ≤ 38
length-face_line places f few =
    omega (arith, length-line 102 (corner_numbers places f) (corner_numbers-small places f few))

pub text_of_box-short : (n number : ℕ) → IsBoxSize n → length (text_of_box n number) ≤ MAX_OBJ_BYTES
text_of_box-short n number size =
    omega (
      arith,
      length-append (flat_map (vertex_line number) (lattice n)) (flat_map (face_line (lattice n)) (faces n)),
      length-flat_map_each (vertex_line number) 29 (lattice n)
          (λ k d h. length-vertex_line number _ (lattice-places n size k d h)),
      length-flat_map_most (face_line (lattice n)) 38
          (λ f. length-face_line (lattice n) f (omega (arith, length-lattice n size))) (faces n),
      length-lattice n size,
      length-faces n size,
    )
