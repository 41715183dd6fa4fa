-- Worked examples of lines, words and meshes, computed by the checker.
use Rattle.std.specs.Prelude.{◌≡◌, ℕ, ◌∷◌, ◌++◌, [], List, ℤ, pos, negsuc, Some, Result, Ok, Err, codes, refl}
use Rattle.geom_core.specs.declared.points.Pt.{Pt}
use Rattle.geom_core.specs.declared.triangles.Tri.{Tri}
use Rattle.geom_core.specs.EdgeSum.{same_point}
use Rattle.obj_source.specs.declared.faults.ObjFault.{ObjFault}
use Rattle.obj_source.specs.declared.faults.ObjFault.TheVariants.{Line, Empty}
use Rattle.obj_source.specs.declared.faults.ObjWhy.TheVariants.{BadNumber, OutOfRange, BadCorner, NoSuchVertex}
use Rattle.obj_source.specs.declared.faults.ObjWhy.TheVariants.{ShortFace}
use Rattle.obj_source.specs.Lines.{words_of, without_return}
use Rattle.obj_source.specs.Readings.{HasNoFault, ReadsNoFault}
use Rattle.obj_source.specs.Numerals.{coordinate_of, numeral_of, exponent_of, scaled}
use Rattle.obj_source.specs.Mesh.{MeshSoFar, nothing, mesh, read_lines, ended_lines, with_line, vertex_of, face_of}
use Rattle.obj_source.specs.Mesh.{corner_of, vertex_named}
use Rattle.geom_core.specs.Limits.{has_distinct_corners}

abbrev point : ℤ → ℤ → ℤ → Pt
point x y z = record { x = x; y = y; z = z }

abbrev line : List ℕ → List ℕ
line bytes = bytes ++ 10 ∷ []

-- the same, ended by CR and LF
abbrev line_of_two : List ℕ → List ℕ
line_of_two bytes = bytes ++ 13 ∷ 10 ∷ []

abbrev tab : List ℕ
tab = 9 ∷ []

abbrev return : List ℕ
return = 13 ∷ []

-- the vertices (-1, 0, 1), (1, 0, 1) and (1, 0, -1)
abbrev three : List ℕ
three = line (codes "v -1 0 1") ++ line (codes "v 1 0 1") ++ line (codes "v 1 0 -1")

abbrev a : Pt
a = point (negsuc 1023) (pos 0) (pos 1024)

abbrev b : Pt
b = point (pos 1024) (pos 0) (pos 1024)

abbrev c : Pt
c = point (pos 1024) (pos 0) (negsuc 1023)

abbrev d : Pt
d = point (negsuc 1023) (pos 0) (negsuc 1023)

abbrev tri : Pt → Pt → Pt → Tri
tri p q r = record { a = p; b = q; c = r }

-- these vertices, and one line more
abbrev with_last : List ℕ → Result (List Tri) ObjFault
with_last bytes = mesh 1024 (three ++ bytes)

pub mesh-empty : mesh 1024 [] ≡ Err Empty
unfolding mesh with_line words_of without_return
mesh-empty = refl

pub mesh-one : with_last (codes "f 1 2 3") ≡ Ok (tri a b c ∷ [])
unfolding mesh with_line words_of without_return vertex_of face_of corner_of vertex_named coordinate_of numeral_of
    exponent_of scaled has_distinct_corners same_point
mesh-one = refl

pub mesh-backwards : with_last (codes "f 1 2 -1") ≡ Ok (tri a b c ∷ [])
unfolding mesh with_line words_of without_return vertex_of face_of corner_of vertex_named coordinate_of numeral_of
    exponent_of scaled has_distinct_corners same_point
mesh-backwards = refl

pub mesh-no_vertex_0 : with_last (line_of_two (codes "f 1 2 0")) ≡ Err (Line 4 (NoSuchVertex 3))
unfolding mesh with_line words_of without_return vertex_of face_of corner_of vertex_named coordinate_of numeral_of
    exponent_of scaled has_distinct_corners same_point
mesh-no_vertex_0 = refl

pub mesh-short : with_last (codes "f 1 x # y z") ≡ Err (Line 4 ShortFace)
unfolding mesh with_line words_of without_return vertex_of face_of corner_of vertex_named coordinate_of numeral_of
    exponent_of scaled has_distinct_corners same_point
mesh-short = refl

pub mesh-polygon : with_last (codes "f 1//7 2/ 3/1/1 1 2# 9") ≡ Ok (tri a b c ∷ [])
unfolding mesh with_line words_of without_return vertex_of face_of corner_of vertex_named coordinate_of numeral_of
    exponent_of scaled has_distinct_corners same_point
mesh-polygon = refl

-- CR and LF at the end of each line, and a CR alone at the end of the text
pub mesh-two_ends : mesh 1024 (line_of_two (codes "v -1 0 1") ++ line_of_two (codes "v 1 0 1") ++ line_of_two
    (codes "v 1 0 -1") ++ codes "f 1 2 3" ++ return) ≡ Ok (tri a b c ∷ [])
unfolding mesh with_line words_of without_return vertex_of face_of corner_of vertex_named coordinate_of numeral_of
    exponent_of scaled has_distinct_corners same_point
mesh-two_ends = refl

-- a CR that isn't the line's last byte belongs to its word
pub mesh-return_inside : with_last (codes "f 1" ++ return ++ codes " 2 3") ≡ Err (Line 4 (BadCorner 1))
unfolding mesh with_line words_of without_return vertex_of face_of corner_of vertex_named coordinate_of numeral_of
    exponent_of scaled has_distinct_corners same_point
mesh-return_inside = refl

pub mesh-two_returns : with_last (line_of_two (codes "v 1 2 3" ++ return)) ≡ Err (Line 4 (BadNumber 3))
unfolding mesh with_line words_of without_return vertex_of face_of corner_of vertex_named coordinate_of numeral_of
    exponent_of scaled has_distinct_corners same_point
mesh-two_returns = refl

pub mesh-return_and_comment : with_last (line_of_two (codes "v 1 2 3" ++ return ++ codes "# x")) ≡ Err
    (Line 4 (BadNumber 3))
unfolding mesh with_line words_of without_return vertex_of face_of corner_of vertex_named coordinate_of numeral_of
    exponent_of scaled has_distinct_corners same_point
mesh-return_and_comment = refl

-- tabs and spaces, before the first word too
pub mesh-tabs : with_last (tab ++ codes " f" ++ tab ++ tab ++ codes "1 2" ++ tab ++ codes "3 " ++ tab) ≡ Ok
    (tri a b c ∷ [])
unfolding mesh with_line words_of without_return vertex_of face_of corner_of vertex_named coordinate_of numeral_of
    exponent_of scaled has_distinct_corners same_point
mesh-tabs = refl

-- a `#` directly behind a word
pub mesh-comment : with_last (line (codes "v 1 2 3#4 x") ++ codes "f 1 2 -2#9") ≡ Ok (tri a b c ∷ [])
unfolding mesh with_line words_of without_return vertex_of face_of corner_of vertex_named coordinate_of numeral_of
    exponent_of scaled has_distinct_corners same_point
mesh-comment = refl

-- lines that are passed over, whatever their bytes, and lines without words
pub mesh-passed_over : with_last (line (codes "vn 1 x") ++ line (codes "f1 2") ++ line
    (codes "F 9 9 9") ++ line [] ++ line (codes "# f 9") ++ line (0 ∷ 255 ∷ []) ++ codes "f 1 2 3") ≡ Ok
    (tri a b c ∷ [])
unfolding mesh with_line words_of without_return vertex_of face_of corner_of vertex_named coordinate_of numeral_of
    exponent_of scaled has_distinct_corners same_point
mesh-passed_over = refl

-- words behind the third number say nothing, and a missing one is no number
pub mesh-many_words : mesh 1024 (line (codes "v 1 0 1 x 9999999 #") ++ codes "v 1 2") ≡ Err (Line 2 (BadNumber 3))
unfolding mesh with_line words_of without_return vertex_of face_of corner_of vertex_named coordinate_of numeral_of
    exponent_of scaled has_distinct_corners same_point
mesh-many_words = refl

-- the first of a line's faults, from the left
pub mesh-first_number : mesh 1024 (codes "v 1 1025 x") ≡ Err (Line 1 (OutOfRange 2))
unfolding mesh with_line words_of without_return vertex_of face_of corner_of vertex_named coordinate_of numeral_of
    exponent_of scaled has_distinct_corners same_point
mesh-first_number = refl

pub mesh-first_corner : with_last (codes "f 1 4 x 0") ≡ Err (Line 4 (NoSuchVertex 2))
unfolding mesh with_line words_of without_return vertex_of face_of corner_of vertex_named coordinate_of numeral_of
    exponent_of scaled has_distinct_corners same_point
mesh-first_corner = refl

-- the first of the text's faults
pub mesh-first_line : with_last (line (codes "f 1 2 x") ++ codes "v x") ≡ Err (Line 4 (BadCorner 3))
unfolding mesh with_line words_of without_return vertex_of face_of corner_of vertex_named coordinate_of numeral_of
    exponent_of scaled has_distinct_corners same_point
mesh-first_line = refl

-- a corner has no `+`, and 1 to 18 digits
pub mesh-plus : with_last (codes "f 1 +2 3") ≡ Err (Line 4 (BadCorner 2))
unfolding mesh with_line words_of without_return vertex_of face_of corner_of vertex_named coordinate_of numeral_of
    exponent_of scaled has_distinct_corners same_point
mesh-plus = refl

pub mesh-no_digit : with_last (codes "f 1 2 -/3") ≡ Err (Line 4 (BadCorner 3))
unfolding mesh with_line words_of without_return vertex_of face_of corner_of vertex_named coordinate_of numeral_of
    exponent_of scaled has_distinct_corners same_point
mesh-no_digit = refl

pub mesh-18_digits : with_last (codes "f 000000000000000001 2 3") ≡ Ok (tri a b c ∷ [])
unfolding mesh with_line words_of without_return vertex_of face_of corner_of vertex_named coordinate_of numeral_of
    exponent_of scaled has_distinct_corners same_point
mesh-18_digits = refl

pub mesh-19_digits : with_last (codes "f 0000000000000000001 2 3") ≡ Err (Line 4 (BadCorner 1))
unfolding mesh with_line words_of without_return vertex_of face_of corner_of vertex_named coordinate_of numeral_of
    exponent_of scaled has_distinct_corners same_point
mesh-19_digits = refl

-- of three vertices -3 is the first, and there is no -4 and no -0
pub mesh-backwards_first : with_last (codes "f -3 -2 -1") ≡ Ok (tri a b c ∷ [])
unfolding mesh with_line words_of without_return vertex_of face_of corner_of vertex_named coordinate_of numeral_of
    exponent_of scaled has_distinct_corners same_point
mesh-backwards_first = refl

pub mesh-backwards_past : with_last (codes "f 1 2 -4") ≡ Err (Line 4 (NoSuchVertex 3))
unfolding mesh with_line words_of without_return vertex_of face_of corner_of vertex_named coordinate_of numeral_of
    exponent_of scaled has_distinct_corners same_point
mesh-backwards_past = refl

pub mesh-minus_0 : with_last (codes "f -0 2 3") ≡ Err (Line 4 (NoSuchVertex 1))
unfolding mesh with_line words_of without_return vertex_of face_of corner_of vertex_named coordinate_of numeral_of
    exponent_of scaled has_distinct_corners same_point
mesh-minus_0 = refl

-- a corner names a vertex that stands above
pub mesh-face_first : mesh 1024 (line (codes "f 1 2 3") ++ three) ≡ Err (Line 1 (NoSuchVertex 1))
unfolding mesh with_line words_of without_return vertex_of face_of corner_of vertex_named coordinate_of numeral_of
    exponent_of scaled has_distinct_corners same_point
mesh-face_first = refl

-- a triangle with two equal corners is dropped, also where their numbers differ
pub mesh-dropped : with_last (codes "f 1 2 2") ≡ Err Empty
unfolding mesh with_line words_of without_return vertex_of face_of corner_of vertex_named coordinate_of numeral_of
    exponent_of scaled has_distinct_corners same_point
mesh-dropped = refl

pub mesh-dropped_of_polygon : with_last (line (codes "v 1 0 1") ++ codes "f 1 2 4 3") ≡ Ok (tri a b c ∷ [])
unfolding mesh with_line words_of without_return vertex_of face_of corner_of vertex_named coordinate_of numeral_of
    exponent_of scaled has_distinct_corners same_point
mesh-dropped_of_polygon = refl

-- a fan round its first corner, in order behind the triangles of the lines above
pub mesh-fan : with_last (line (codes "v -1 0 -1") ++ line (codes "f 4 3 2") ++ codes "f 1 2 3 4") ≡ Ok
    (tri d c b ∷ tri a b c ∷ tri a c d ∷ [])
unfolding mesh with_line words_of without_return vertex_of face_of corner_of vertex_named coordinate_of numeral_of
    exponent_of scaled has_distinct_corners same_point
mesh-fan = refl

-- a fault in a line that has not ended is none yet, and one in a line that has ended is one
abbrev one_vertex : MeshSoFar
one_vertex = record { vertices = a ∷ []; triangles = [] }

pub has_no_fault-open_line : HasNoFault 1024 (line (codes "v -1 0 1") ++ codes "f 9")
unfolding with_line words_of without_return vertex_of coordinate_of numeral_of exponent_of scaled
has_no_fault-open_line = (one_vertex, refl)

pub has_fault-ended_line : read_lines 1024 nothing 1 (ended_lines (line (codes "v -1 0 1") ++ line (codes "f 9"))) ≡ Err
    (Line 2 ShortFace)
unfolding with_line words_of without_return vertex_of face_of coordinate_of numeral_of exponent_of scaled
has_fault-ended_line = refl

pub reads_no_fault-open_line : ReadsNoFault 1024 (Some (codes "f 9" ++ line (codes " 9"))) (Some (line (codes " 9")))
unfolding with_line words_of without_return
reads_no_fault-open_line = (codes "f 9", refl, (nothing, refl))
