-- The triangles of an OBJ text, or its first fault (Wavefront OBJ): `v` lines are vertices, `f` lines are
-- polygons over the vertices that stand above, and every other line is passed over.
use Rattle.std.specs.Prelude.{Bool, false, ◌&&◌, ◌==◌, nat_lt, nat_le, ℕ, ℤ, ◌+◌, ◌-◌, List, [], ◌∷◌, ◌++◌, length}
use Rattle.std.specs.Prelude.{take, drop, filter, slice_index, Option, Some, None, option_map, slice_get, Result, Ok}
use Rattle.std.specs.Prelude.{Err, if◌then◌else◌}
use Rattle.std.specs.List.{before_first}
use Rattle.std.specs.Str.Parse.{digits_value}
use Rattle.geom_core.specs.declared.limits.TheConstants.{MAX_OBJ_BYTES, MAX_TRIANGLES}
use Rattle.geom_core.specs.Limits.{has_distinct_corners}
use Rattle.geom_core.specs.declared.points.Pt.{Pt}
use Rattle.geom_core.specs.declared.triangles.Tri.{Tri}
use Rattle.obj_source.specs.declared.faults.ObjFault.{ObjFault}
use Rattle.obj_source.specs.declared.faults.ObjFault.TheVariants.{Line, TooMany, TooLong, Empty}
use Rattle.obj_source.specs.declared.faults.ObjWhy.{ObjWhy}
use Rattle.obj_source.specs.declared.faults.ObjWhy.TheVariants.{BadNumber, OutOfRange, BadCorner, NoSuchVertex}
use Rattle.obj_source.specs.declared.faults.ObjWhy.TheVariants.{ShortFace}
use Rattle.obj_source.specs.declared.numbers.NumberWhy.{NumberWhy}
use Rattle.obj_source.specs.declared.numbers.NumberWhy.TheVariants.{Bad, Range}
use Rattle.obj_source.specs.Lines.{lines_of, words_of}
use Rattle.obj_source.specs.Numerals.{coordinate_of, has_minus, is_digits}

-- the second reading, of what the first one gave; the first fault stays
infixl 10 ◌>>=◌
abbrev pub ◌>>=◌ : {A B F : Type 0} → Result A F → (A → Result B F) → Result B F
Ok found >>= next = next found
Err fault >>= next = Err fault

-- what reading the number at a place of a line came to; a missing word is no number
abbrev pub number_at : ℕ → Option (Result ℤ NumberWhy) → Result ℤ ObjWhy
number_at place None = Err (BadNumber place)
number_at place (Some (Ok n)) = Ok n
number_at place (Some (Err Bad)) = Err (BadNumber place)
number_at place (Some (Err Range)) = Err (OutOfRange place)

-- the coordinate at a place of a line's words
abbrev pub coordinate_at : ℕ → List (List ℕ) → ℕ → Result ℤ ObjWhy
coordinate_at scale words place = number_at place (option_map (coordinate_of scale) (slice_get words place))

-- the vertex of a `v` line: the three words behind the `v`, from the left; what follows is passed over
unfoldable pub vertex_of : ℕ → List (List ℕ) → Result Pt ObjWhy
vertex_of scale words = do
  x ← coordinate_at scale words 1
  y ← coordinate_at scale words 2
  z ← coordinate_at scale words 3
  Ok (record { x = x; y = y; z = z })

-- The vertex that the number j names among these: from 1 on in their order, behind a minus from the last one
-- backwards.
unfoldable pub vertex_named : List Pt → Bool → ℕ → Option Pt
vertex_named vertices is_negative j =
    if nat_le 1 j && nat_le j (length vertices)
    then slice_get vertices (if is_negative then length vertices - j else j - 1) else None

-- the vertex's number in a corner: what stands before the first `/`
abbrev pub reference_of : List ℕ → List ℕ
reference_of word = before_first (λ b. b == 47) word

-- the digits of a vertex's number, behind a minus or not
abbrev pub reference_digits : List ℕ → List ℕ
reference_digits word = drop (if has_minus word then 1 else 0) (reference_of word)

abbrev pub named_or : ℕ → Option Pt → Result Pt ObjWhy
named_or place None = Err (NoSuchVertex place)
named_or place (Some p) = Ok p

-- the point of the corner at a place: a minus or none, 1 to 18 digits, and what follows a `/`
unfoldable pub corner_of : List Pt → ℕ → List ℕ → Result Pt ObjWhy
corner_of vertices place word =
    let digits = reference_digits word in
    if is_digits digits && nat_le 1 (length digits) && nat_le (length digits) 18
    then named_or place (vertex_named vertices (has_minus word) (digits_value 10 digits))
    else Err (BadCorner place)

-- the points of these corners, the first of which stands at a place, or the first fault
abbrev pub corners_of : List Pt → ℕ → List (List ℕ) → Result (List Pt) ObjWhy
corners_of vertices place [] = Ok []
corners_of vertices place (word ∷ words) = do
  p ← corner_of vertices place word
  points ← corners_of vertices (place + 1) words
  Ok (p ∷ points)

-- the triangles of a polygon as a fan round its first corner
abbrev pub fan : List Pt → List Tri
fan [] = []
fan (a ∷ []) = []
fan (a ∷ b ∷ []) = []
fan (a ∷ b ∷ c ∷ rest) = record { a = a; b = b; c = c } ∷ fan (a ∷ c ∷ rest)

-- the triangles of an `f` line; those with two equal corners are dropped
unfoldable pub face_of : List Pt → List (List ℕ) → Result (List Tri) ObjWhy
face_of vertices words =
    if nat_lt (length words) 4 then Err ShortFace
    else (corners_of vertices 1 (drop 1 words) >>= (λ points. Ok (filter has_distinct_corners (fan points))))

-- what the lines so far gave
pub record MeshSoFar : Type 0 where
  pub vertices : List Pt
  pub triangles : List Tri

abbrev pub nothing : MeshSoFar
nothing = record { vertices = []; triangles = [] }

abbrev pub with_vertex : MeshSoFar → Pt → MeshSoFar
with_vertex mesh_so_far p = record mesh_so_far { vertices = mesh_so_far.vertices ++ p ∷ [] }

-- a text has at most 2^20 triangles
abbrev pub with_triangles : MeshSoFar → List Tri → Result MeshSoFar ObjFault
with_triangles mesh_so_far tris =
    if nat_le (length mesh_so_far.triangles + length tris) MAX_TRIANGLES
    then Ok (record mesh_so_far { triangles = mesh_so_far.triangles ++ tris }) else Err TooMany

abbrev pub at_line : {A : Type 0} → ℕ → Result A ObjWhy → Result A ObjFault
at_line line (Ok found) = Ok found
at_line line (Err why) = Err (Line line why)

-- the words begin with this letter alone
abbrev pub begins_with : ℕ → List (List ℕ) → Bool
begins_with letter [] = false
begins_with letter (kind ∷ words) = length kind == 1 && slice_index kind 0 == letter

-- one line more, of this number
unfoldable pub with_line : ℕ → MeshSoFar → ℕ → List (List ℕ) → Result MeshSoFar ObjFault
with_line scale mesh_so_far line words =
    if begins_with 118 words then (at_line line (vertex_of scale words) >>= (λ p. Ok (with_vertex mesh_so_far p)))
    else (if begins_with 102 words then (at_line line
    (face_of mesh_so_far.vertices words) >>= with_triangles mesh_so_far)
    else Ok mesh_so_far)

-- the lines in order, the first of which has this number, each over what those before it gave
abbrev pub read_lines : ℕ → MeshSoFar → ℕ → List (List ℕ) → Result MeshSoFar ObjFault
read_lines scale mesh_so_far line [] = Ok mesh_so_far
read_lines scale mesh_so_far line (first ∷ rest) =
    with_line scale mesh_so_far line (words_of first) >>= (λ more. read_lines scale more (line + 1) rest)

-- at least one triangle
abbrev pub some_triangles : MeshSoFar → Result (List Tri) ObjFault
some_triangles mesh_so_far = if length mesh_so_far.triangles == 0 then Err Empty else Ok mesh_so_far.triangles

-- the lines whose LF stands in the text
abbrev pub ended_lines : List ℕ → List (List ℕ)
ended_lines text = take (length (lines_of text) - 1) (lines_of text)

-- The triangles of a text on a grid of `scale` steps to the unit, or its first fault. Of a text with more than
-- MAX_OBJ_BYTES only the lines that end among the first MAX_OBJ_BYTES are looked at.
unfoldable pub mesh : ℕ → List ℕ → Result (List Tri) ObjFault
mesh scale text =
    if nat_le (length text) MAX_OBJ_BYTES
    then (read_lines scale nothing 1 (lines_of text) >>= some_triangles)
    else (read_lines scale nothing 1 (ended_lines (take MAX_OBJ_BYTES text)) >>= (λ mesh_so_far. Err TooLong))
