-- The triangles of a mesh are grid triangles, whatever the text.
use Rattle.std.proofs.Common.{◌≡◌, ℕ, zero, suc, ◌+◌, ◌≤◌, Bool, true, false, cond, eqb, leb, ltb, ◌&&◌, List, [], ◌∷◌}
use Rattle.std.proofs.Common.{length, drop, length-append, ℤ, Option, Some, None, option_map, Result, Ok, Err, refl}
use Rattle.std.proofs.Common.{subst, arith}
use Rattle.std.specs.Bool.{IsTrue}
use Rattle.std.specs.List.{All, slice_get, filter}
use Rattle.std.proofs.lemmas.Bool.{leb-true}
use Rattle.std.proofs.lemmas.List.Elements.{All-nil, All-cons, All-head, All-tail, All-push, All-append, All-filter}
use Rattle.std.proofs.lemmas.List.Elements.{filter_passes}
use Rattle.std.proofs.lemmas.Option.{get_or_from_slice_get, slice_get_within}
use Rattle.geom_core.specs.declared.limits.TheConstants.{MAX_OBJ_BYTES, MAX_TRIANGLES}
use Rattle.geom_core.specs.Limits.{has_distinct_corners, is_grid_coordinate, IsGridCoordinate, IsGridPoint}
use Rattle.geom_core.specs.Limits.{IsGridTriangle, AreGridTriangles}
use Rattle.geom_core.specs.declared.points.Pt.{Pt}
use Rattle.geom_core.specs.declared.triangles.Tri.{Tri}
use Rattle.obj_source.specs.declared.faults.ObjFault.{ObjFault}
use Rattle.obj_source.specs.declared.faults.ObjFault.TheVariants.{TooMany, TooLong, Empty}
use Rattle.obj_source.specs.declared.faults.ObjWhy.{ObjWhy}
use Rattle.obj_source.specs.declared.faults.ObjWhy.TheVariants.{ShortFace, BadCorner}
use Rattle.obj_source.specs.declared.numbers.NumberWhy.{NumberWhy}
use Rattle.obj_source.specs.declared.numbers.NumberWhy.TheVariants.{Bad, Range}
use Rattle.obj_source.specs.Lines.{lines_of, words_of}
use Rattle.obj_source.specs.Numerals.{Numeral, numeral_of, is_short, scaled, in_grid, coordinate_in, coordinate_of}
use Rattle.obj_source.specs.Numerals.{has_minus}
use Rattle.obj_source.specs.Mesh.{◌>>=◌, number_at, coordinate_at, vertex_of, vertex_named, named_or, corner_of}
use Rattle.obj_source.specs.Mesh.{corners_of, fan, face_of, MeshSoFar, nothing, with_vertex, with_triangles, at_line}
use Rattle.obj_source.specs.Mesh.{begins_with, with_line, read_lines, some_triangles, mesh}

same_ok : {A F : Type 0} (x y : A) → ◌≡◌ {A = Result A F} (Ok x) (Ok y) → x ≡ y
same_ok x y e = cc

-- what two readings gave, each gave
both_ok : {A B F : Type 0} (found : Result A F) (next : A → Result B F) (y : B) → (found >>= next) ≡ Ok y → (x : A) ×
    (found ≡ Ok x) × (next x ≡ Ok y)
both_ok (Ok x) next y e = (x, refl, e)
both_ok (Err fault) next y e = absurd (cc)

-- what a test lets through
passed_ok : {A F : Type 0} (b : Bool) (found : Result A F) (fault : F) (x : A) → cond b found (Err fault) ≡ Ok x →
    (b ≡ true) × (found ≡ Ok x)
passed_ok true found fault x e = (refl, e)
passed_ok false found fault x e = absurd (cc)

-- what a test doesn't refuse
refused_ok : {A F : Type 0} (b : Bool) (fault : F) (found : Result A F) (x : A) → cond b (Err fault) found ≡ Ok x →
    found ≡ Ok x
refused_ok true fault found x e = absurd (cc)
refused_ok false fault found x e = e

both_true : (a b : Bool) → IsTrue a → IsTrue b → IsTrue (a && b)
both_true true b first second = second
both_true false b first second = first

all_true : (a b c : Bool) → IsTrue a → IsTrue b → IsTrue c → IsTrue (a && b && c)
all_true a b c first second third = both_true (a && b) c (both_true a b first second) third

-- a number that the grid lets through is within it
grid_in_range : (n x : ℤ) → in_grid n ≡ Ok x → IsGridCoordinate x
grid_in_range n x e =
    let passed = passed_ok (is_grid_coordinate n) (Ok n) Range x e in
    subst IsGridCoordinate (same_ok n x passed.1) passed.0

numeral_in_range : (scale : ℕ) (numeral : Option Numeral) (x : ℤ) → coordinate_in scale numeral ≡ Ok x →
    IsGridCoordinate x
numeral_in_range scale None x e = absurd (cc)
numeral_in_range scale (Some n) x e =
    grid_in_range (scaled scale n) x (passed_ok (is_short n) (in_grid (scaled scale n)) Bad x e).1

-- a coordinate is in the range
pub coordinate_in_range : (scale : ℕ) (word : List ℕ) (x : ℤ) → coordinate_of scale word ≡ Ok x → IsGridCoordinate x
unfolding coordinate_of
coordinate_in_range scale word x e = numeral_in_range scale (numeral_of word) x e

-- a number that stands at a place was read there
read_there : (place : ℕ) (found : Result ℤ NumberWhy) (x : ℤ) → number_at place (Some found) ≡ Ok x → found ≡ Ok x
read_there place (Ok n) x e = cc
read_there place (Err Bad) x e = absurd (cc)
read_there place (Err Range) x e = absurd (cc)

pub number_in_range : (scale place : ℕ) (word : Option (List ℕ)) (x : ℤ) →
    number_at place (option_map (coordinate_of scale) word) ≡ Ok x → IsGridCoordinate x
number_in_range scale place None x e = absurd (cc)
number_in_range scale place (Some word) x e =
    coordinate_in_range scale word x (read_there place (coordinate_of scale word) x e)

-- the vertex of a `v` line is within the grid
pub vertex_is_source : (scale : ℕ) (words : List (List ℕ)) (p : Pt) → vertex_of scale words ≡ Ok p → IsGridPoint p
unfolding vertex_of
vertex_is_source scale words p e =
    let x = both_ok (coordinate_at scale words 1) _ p e in
    let y = both_ok (coordinate_at scale words 2) _ p x.2 in
    let z = both_ok (coordinate_at scale words 3) _ p y.2 in
    subst IsGridPoint (same_ok _ p z.2)
    (all_true (is_grid_coordinate x.0) (is_grid_coordinate y.0) (is_grid_coordinate z.0)
    (number_in_range scale 1 (slice_get words 1) x.0 x.1)
    (number_in_range scale 2 (slice_get words 2) y.0 y.1)
    (number_in_range scale 3 (slice_get words 3) z.0 z.1))

slice_get_all : (P : Pt → Type 0) (points : List Pt) (k : ℕ) (p : Pt) → All P points → slice_get points k ≡ Some p → P p
slice_get_all P points k p all e =
    subst P (get_or_from_slice_get points k p p e) (all k p (slice_get_within points k p e))

chosen_some : {A : Type 0} (b : Bool) (found : Option A) (x : A) → cond b found None ≡ Some x → found ≡ Some x
chosen_some true found x e = e
chosen_some false found x e = absurd (cc)

-- a vertex that is named is one of the vertices
pub vertex_named_all : (P : Pt → Type 0) (vertices : List Pt) (is_negative : Bool) (j : ℕ) (p : Pt) → All P vertices →
    vertex_named vertices is_negative j ≡ Some p → P p
unfolding vertex_named
vertex_named_all P vertices is_negative j p all e =
    slice_get_all P vertices _ p all (chosen_some (leb 1 j && leb j (length vertices)) _ p e)

named_some : (place : ℕ) (found : Option Pt) (p : Pt) → named_or place found ≡ Ok p → found ≡ Some p
named_some place None p e = absurd (cc)
named_some place (Some q) p e = cc

-- a corner is one of the vertices
pub corner_of_all : (P : Pt → Type 0) (vertices : List Pt) (place : ℕ) (word : List ℕ) (p : Pt) → All P vertices →
    corner_of vertices place word ≡ Ok p → P p
unfolding corner_of
corner_of_all P vertices place word p all e =
    let named = passed_ok _ _ (BadCorner place) p e in
    vertex_named_all P vertices (has_minus word) _ p all (named_some place _ p named.1)

pub corners_of_all : (P : Pt → Type 0) (vertices : List Pt) (place : ℕ) (words : List (List ℕ)) (points : List Pt) →
    All P vertices → corners_of vertices place words ≡ Ok points → All P points
corners_of_all P vertices place [] points all e = subst (All P) (same_ok [] points e) (All-nil P)
corners_of_all P vertices place (word ∷ words) points all e =
    let first = both_ok (corner_of vertices place word) _ points e in
    let others = both_ok (corners_of vertices (place + 1) words) _ points first.2 in
    subst (All P) (same_ok _ points others.2)
    (All-cons P first.0 others.0 (corner_of_all P vertices place word first.0 all first.1)
    (corners_of_all P vertices (place + 1) words others.0 all others.1))

-- the three corners of a triangle
pub record HasCorners (P : Pt → Type 0) (t : Tri) : Type 0 where
  pub a : P t.a
  pub b : P t.b
  pub c : P t.c

-- the corners of a fan's triangles are corners of the polygon
pub fan_all : (P : Pt → Type 0) (points : List Pt) → All P points → All (HasCorners P) (fan points)
fan_all P [] all = All-nil (HasCorners P)
fan_all P (a ∷ []) all = All-nil (HasCorners P)
fan_all P (a ∷ b ∷ []) all = All-nil (HasCorners P)
fan_all P (a ∷ b ∷ c ∷ rest) all =
    let is_a = All-head P a (b ∷ c ∷ rest) all in
    let behind = All-tail P a (b ∷ c ∷ rest) all in
    let is_b = All-head P b (c ∷ rest) behind in
    let others = All-tail P b (c ∷ rest) behind in
    All-cons (HasCorners P) _ (fan (a ∷ c ∷ rest))
    (record { a = is_a; b = is_b; c = All-head P c rest others })
    (fan_all P (a ∷ c ∷ rest) (All-cons P a (c ∷ rest) is_a others))

-- those of them with three different corners are grid triangles
distinct_are_source : (tris : List Tri) → All (HasCorners IsGridPoint) tris →
    All IsGridTriangle (filter has_distinct_corners tris)
distinct_are_source tris all k d h =
    let corners = All-filter has_distinct_corners (HasCorners IsGridPoint) tris all k d h in
    let distinct = filter_passes has_distinct_corners tris k d h in
    both_true _ _ (all_true _ _ _ corners.a corners.b corners.c) distinct

pub face_is_source : (vertices : List Pt) (words : List (List ℕ)) (tris : List Tri) → All IsGridPoint vertices →
    face_of vertices words ≡ Ok tris → All IsGridTriangle tris
unfolding face_of
face_is_source vertices words tris all e =
    let points =
    both_ok (corners_of vertices 1 (drop 1 words)) _ tris (refused_ok (ltb (length words) 4) ShortFace _ tris e) in
    subst (All IsGridTriangle) (same_ok _ tris points.2)
    (distinct_are_source (fan points.0)
    (fan_all IsGridPoint points.0 (corners_of_all IsGridPoint vertices 1 (drop 1 words) points.0 all points.1)))

-- what the lines so far gave is sound
pub record IsSound (mesh_so_far : MeshSoFar) : Type 0 where
  pub vertices : All IsGridPoint mesh_so_far.vertices
  pub triangles : All IsGridTriangle mesh_so_far.triangles
  pub triangle_limit : length mesh_so_far.triangles ≤ MAX_TRIANGLES

pub nothing_sound : IsSound nothing
nothing_sound = record {
  vertices = All-nil IsGridPoint;
  triangles = All-nil IsGridTriangle;
  triangle_limit = omega arith;
}

pub with_vertex_sound : (mesh_so_far : MeshSoFar) (p : Pt) → IsSound mesh_so_far → IsGridPoint p →
    IsSound (with_vertex mesh_so_far p)
with_vertex_sound mesh_so_far p sound is_p = record {
  vertices = All-push IsGridPoint mesh_so_far.vertices p sound.vertices is_p;
  triangles = sound.triangles;
  triangle_limit = sound.triangle_limit;
}

pub with_triangles_sound : (mesh_so_far more : MeshSoFar) (tris : List Tri) → IsSound mesh_so_far →
    All IsGridTriangle tris → with_triangles mesh_so_far tris ≡ Ok more → IsSound more
with_triangles_sound mesh_so_far more tris sound all e =
    let fits = passed_ok (leb (length mesh_so_far.triangles + length tris) MAX_TRIANGLES) (Ok _) TooMany more e in
    let count = leb-true (length mesh_so_far.triangles + length tris) MAX_TRIANGLES fits.0 in
    subst IsSound (same_ok _ more fits.1) (record {
      vertices = sound.vertices;
      triangles = All-append IsGridTriangle mesh_so_far.triangles tris sound.triangles all;
      triangle_limit = omega (arith, length-append mesh_so_far.triangles tris);
    })

-- what a line gave, it gave
said_ok : {A : Type 0} (line : ℕ) (found : Result A ObjWhy) (x : A) → at_line line found ≡ Ok x → found ≡ Ok x
said_ok line (Ok y) x e = cc
said_ok line (Err why) x e = absurd (cc)

vertex_line_sound : (scale : ℕ) (mesh_so_far more : MeshSoFar) (line : ℕ) (words : List (List ℕ)) →
    IsSound mesh_so_far → (at_line line (vertex_of scale words) >>= (λ p. Ok (with_vertex mesh_so_far p))) ≡ Ok more →
    IsSound more
vertex_line_sound scale mesh_so_far more line words sound e =
    let p = both_ok (at_line line (vertex_of scale words)) _ more e in
    subst IsSound (same_ok _ more p.2)
    (with_vertex_sound mesh_so_far p.0 sound
    (vertex_is_source scale words p.0 (said_ok line (vertex_of scale words) p.0 p.1)))

face_line_sound : (mesh_so_far more : MeshSoFar) (line : ℕ) (words : List (List ℕ)) → IsSound mesh_so_far →
    (at_line line (face_of mesh_so_far.vertices words) >>= with_triangles mesh_so_far) ≡ Ok more → IsSound more
face_line_sound mesh_so_far more line words sound e =
    let tris = both_ok (at_line line (face_of mesh_so_far.vertices words)) (with_triangles mesh_so_far) more e in
    with_triangles_sound mesh_so_far more tris.0 sound
    (face_is_source mesh_so_far.vertices words tris.0 sound.vertices
    (said_ok line (face_of mesh_so_far.vertices words) tris.0 tris.1)) tris.2

by_kind : (is_vertex is_face : Bool) (vertex face other : Result MeshSoFar ObjFault) (more : MeshSoFar) →
    cond is_vertex vertex (cond is_face face other) ≡ Ok more → (vertex ≡ Ok more → IsSound more) →
    (face ≡ Ok more → IsSound more) → (other ≡ Ok more → IsSound more) → IsSound more
by_kind true is_face vertex face other more e one two three = one e
by_kind false true vertex face other more e one two three = two e
by_kind false false vertex face other more e one two three = three e

-- one line more
pub with_line_sound : (scale : ℕ) (mesh_so_far more : MeshSoFar) (line : ℕ) (words : List (List ℕ)) →
    IsSound mesh_so_far → with_line scale mesh_so_far line words ≡ Ok more → IsSound more
unfolding with_line
with_line_sound scale mesh_so_far more line words sound e =
    by_kind (begins_with 118 words) (begins_with 102 words) _ _ (Ok mesh_so_far) more e
    (vertex_line_sound scale mesh_so_far more line words sound)
    (face_line_sound mesh_so_far more line words sound)
    (λ same. subst IsSound (same_ok mesh_so_far more same) sound)

-- the lines in order
pub read_lines_sound : (scale : ℕ) (mesh_so_far more : MeshSoFar) (line : ℕ) (lines : List (List ℕ)) →
    IsSound mesh_so_far → read_lines scale mesh_so_far line lines ≡ Ok more → IsSound more
read_lines_sound scale mesh_so_far more line [] sound e = subst IsSound (same_ok mesh_so_far more e) sound
read_lines_sound scale mesh_so_far more line (first ∷ rest) sound e =
    let next = both_ok (with_line scale mesh_so_far line (words_of first)) _ more e in
    read_lines_sound scale next.0 more (line + 1) rest
    (with_line_sound scale mesh_so_far next.0 line (words_of first) sound next.1) next.2

-- a count that is not refused as 0
some_counted : (count : ℕ) (tris all : List Tri) → cond (eqb count 0) (Err Empty) (Ok all) ≡ Ok tris → 1 ≤ count
some_counted zero tris all e = absurd (cc)
some_counted (suc n) tris all e = omega arith

some_triangles_sound : (mesh_so_far : MeshSoFar) (tris : List Tri) → IsSound mesh_so_far →
    some_triangles mesh_so_far ≡ Ok tris → AreGridTriangles tris
some_triangles_sound mesh_so_far tris sound e =
    subst AreGridTriangles
    (same_ok mesh_so_far.triangles tris (refused_ok (eqb (length mesh_so_far.triangles) 0) Empty _ tris e)) (record {
      some = some_counted (length mesh_so_far.triangles) tris mesh_so_far.triangles e;
      triangle_limit = sound.triangle_limit;
      each = sound.triangles;
    })

-- a text that is read whole
whole_sound : (scale : ℕ) (lines : List (List ℕ)) (tris : List Tri) →
    (read_lines scale nothing 1 lines >>= some_triangles) ≡ Ok tris → AreGridTriangles tris
whole_sound scale lines tris e =
    let mesh_so_far = both_ok (read_lines scale nothing 1 lines) some_triangles tris e in
    some_triangles_sound mesh_so_far.0 tris (read_lines_sound scale nothing mesh_so_far.0 1 lines nothing_sound
    mesh_so_far.1) mesh_so_far.2

-- a text that is too long has no triangles
never_ok : (read : Result MeshSoFar ObjFault) (tris : List Tri) →
    ◌≡◌ {A = Result (List Tri) ObjFault} (read >>= (λ mesh_so_far. Err TooLong)) (Ok tris) → AreGridTriangles tris
never_ok (Ok mesh_so_far) tris e = absurd (cc)
never_ok (Err fault) tris e = absurd (cc)

by_length : (is_short : Bool) (short long : Result (List Tri) ObjFault) (tris : List Tri) →
    cond is_short short long ≡ Ok tris → (short ≡ Ok tris → AreGridTriangles tris) →
    (long ≡ Ok tris → AreGridTriangles tris) → AreGridTriangles tris
by_length true short long tris e one two = one e
by_length false short long tris e one two = two e

-- the triangles of a mesh
pub mesh_sound : (scale : ℕ) (text : List ℕ) (tris : List Tri) → mesh scale text ≡ Ok tris → AreGridTriangles tris
unfolding mesh
mesh_sound scale text tris e =
    by_length (leb (length text) MAX_OBJ_BYTES) _ _ tris e (whole_sound scale (lines_of text) tris) (never_ok _ tris)
