-- The Wavefront OBJ text of a bumpy box: a `v` line for each place of the lattice, then an `f` line for each face.
use Rattle.std.specs.Prelude.{Bool, ◌&&◌, ◌==◌, ℕ, ◌+◌, List, [], ◌∷◌, ◌++◌, flat_map, codes, decimal}
use Rattle.std.specs.List.{join_with_byte, position_or_len}
use Rattle.shape_gen.specs.declared.lattice.Place.{Place}
use Rattle.shape_gen.specs.declared.sides.Face.{Face}
use Rattle.shape_gen.specs.Lattice.{lattice, x_at, y_at, z_at}
use Rattle.shape_gen.specs.Sides.{faces}

-- a line: fields that are separated by one space, then LF
abbrev pub line_of : List (List ℕ) → List ℕ
line_of fields = join_with_byte 32 fields ++ 10 ∷ []

abbrev pub vertex_line : ℕ → Place → List ℕ
vertex_line number p =
    line_of (codes "v" ∷ decimal (x_at number p) ∷ decimal (y_at number p) ∷ decimal (z_at number p) ∷ [])

-- p and q are one place
unfoldable pub same_place : Place → Place → Bool
same_place p q = (p.i == q.i) && ((p.j == q.j) && (p.k == q.k))

-- the vertex's number in the text: the place's index in the lattice, from 1
unfoldable pub vertex_number : List Place → Place → ℕ
vertex_number places p = position_or_len (same_place p) places + 1

abbrev pub face_line : List Place → Face → List ℕ
face_line places f =
    line_of (codes "f" ∷ decimal (vertex_number places f.a) ∷ decimal (vertex_number places f.b)
    ∷ decimal (vertex_number places f.c) ∷ decimal (vertex_number places f.d) ∷ [])

-- the text of the box
abbrev pub text_of_box : ℕ → ℕ → List ℕ
text_of_box n number = flat_map (vertex_line number) (lattice n) ++ flat_map (face_line (lattice n)) (faces n)
