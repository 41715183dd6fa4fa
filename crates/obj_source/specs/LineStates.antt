-- What an open line comes to with the words that follow.
use Rattle.std.specs.Prelude.{nat_lt, ℕ, ℤ, ◌+◌, List, ◌∷◌, length, filter, Option, Some, None, option_map, slice_get}
use Rattle.std.specs.Prelude.{Result, Ok, Err, if◌then◌else◌}
use Rattle.geom_core.specs.Limits.{has_distinct_corners}
use Rattle.geom_core.specs.declared.points.Pt.{Pt}
use Rattle.obj_source.specs.declared.faults.ObjFault.{ObjFault}
use Rattle.obj_source.specs.declared.faults.ObjFault.TheVariants.{Line, TooMany}
use Rattle.obj_source.specs.declared.faults.ObjWhy.{ObjWhy}
use Rattle.obj_source.specs.declared.faults.ObjWhy.TheVariants.{ShortFace}
use Rattle.obj_source.specs.declared.line_state.Vertex.{Vertex}
use Rattle.obj_source.specs.declared.line_state.Vertex.TheVariants as vertex
use Rattle.obj_source.specs.declared.line_state.FanState.{FanState}
use Rattle.obj_source.specs.declared.line_state.FanState.TheVariants as polygon
use Rattle.obj_source.specs.declared.line_state.CornersRead.{CornersRead}
use Rattle.obj_source.specs.declared.line_state.CornersRead.TheVariants as read
use Rattle.obj_source.specs.declared.line_state.Face.{Face}
use Rattle.obj_source.specs.declared.line_state.LineState.{LineState}
use Rattle.obj_source.specs.declared.line_state.LineState.TheVariants as state
use Rattle.obj_source.specs.Mesh.{MeshSoFar, ◌>>=◌, number_at, corners_of, fan, with_vertex, with_triangles, with_line}
use Rattle.obj_source.specs.Mesh.{at_line}
use Rattle.obj_source.specs.Numerals.{coordinate_of}

-- the number of the word at a place behind those that came
abbrev pub number_of : ℕ → ℕ → Option (List ℕ) → Result ℤ ObjWhy
number_of scale place word = number_at place (option_map (coordinate_of scale) word)

abbrev pub with_z : ℤ → ℤ → Result ℤ ObjWhy → Result Pt ObjWhy
with_z x y z = z >>= (λ z. Ok (record { x = x; y = y; z = z }))

-- the vertex of a `v` line with these words behind those that came
abbrev pub vertex_from : ℕ → Vertex → List (List ℕ) → Result Pt ObjWhy
vertex_from scale vertex.Nothing more = do
  x ← number_of scale 1 (slice_get more 0)
  y ← number_of scale 2 (slice_get more 1)
  with_z x y (number_of scale 3 (slice_get more 2))
vertex_from scale (vertex.X x) more = do
  y ← number_of scale 2 (slice_get more 0)
  with_z x y (number_of scale 3 (slice_get more 1))
vertex_from scale (vertex.Xy x y) more = with_z x y (number_of scale 3 (slice_get more 0))
vertex_from scale (vertex.Whole p) more = Ok p
vertex_from scale (vertex.Faulty why) more = Err why

-- the corners that a polygon's fan goes on from, and these
abbrev pub joined : FanState → List Pt → List Pt
joined (polygon.Corner first) points = first ∷ points
joined (polygon.Fan first last) points = first ∷ last ∷ points
joined _ points = points

-- the mesh so far with these corners after the polygon's
abbrev pub with_corners : MeshSoFar → FanState → List Pt → Result MeshSoFar ObjFault
with_corners so_far polygon.Over points = Err TooMany
with_corners so_far polygon points = with_triangles so_far (filter has_distinct_corners (fan (joined polygon points)))

-- the same with these words, the first of which stands at a place, in place of the corners
abbrev pub polygon_from : MeshSoFar → ℕ → ℕ → CornersRead → List (List ℕ) → Result MeshSoFar ObjFault
polygon_from so_far line place (read.Faulty why) more = Err (Line line why)
polygon_from so_far line place (read.Polygon polygon) more =
    at_line line (corners_of so_far.vertices place more) >>= with_corners so_far polygon

-- an `f` line; the mesh so far has its triangles already
abbrev pub face_from : MeshSoFar → ℕ → Face → List (List ℕ) → Result MeshSoFar ObjFault
face_from so_far line face more =
    if nat_lt (face.corners + length more) 3 then Err (Line line ShortFace)
    else polygon_from so_far line (face.corners + 1) face.read more

-- how many corners of a face came
abbrev pub corner_count : LineState → ℕ
corner_count (state.Face face) = face.corners
corner_count _ = 0

-- the mesh after the open line, of this number, with these words after those that came
unfoldable pub line_result_from : ℕ → MeshSoFar → ℕ → LineState → List (List ℕ) → Result MeshSoFar ObjFault
line_result_from scale so_far line state.Start more = with_line scale so_far line more
line_result_from scale so_far line state.Passed more = Ok so_far
line_result_from scale so_far line (state.Vertex v) more =
    at_line line (vertex_from scale v more) >>= (λ p. Ok (with_vertex so_far p))
line_result_from scale so_far line (state.Face face) more = face_from so_far line face more

-- the mesh so far with what a line gives at its end: a vertex, nothing, or a fault
abbrev pub with_end : MeshSoFar → Result (Option Pt) ObjFault → Result MeshSoFar ObjFault
with_end so_far (Ok None) = Ok so_far
with_end so_far (Ok (Some p)) = Ok (with_vertex so_far p)
with_end so_far (Err fault) = Err fault
