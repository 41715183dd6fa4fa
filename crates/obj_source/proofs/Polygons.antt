-- How a polygon goes on, corner by corner.
use Rattle.std.proofs.Common.{◌≡◌, ℕ, ◌+◌, List, ◌∷◌, Result, Ok, Err, refl}
use Rattle.geom_core.specs.declared.points.Pt.{Pt}
use Rattle.geom_core.specs.declared.triangles.Tri.{Tri}
use Rattle.obj_source.specs.declared.faults.ObjFault.{ObjFault}
use Rattle.obj_source.specs.declared.faults.ObjWhy.{ObjWhy}
use Rattle.obj_source.specs.declared.line_state.CornersRead.TheVariants as read
use Rattle.obj_source.specs.declared.line_state.FanState.{FanState}
use Rattle.obj_source.specs.Mesh.{MeshSoFar, ◌>>=◌, at_line, corner_of, corners_of}
use Rattle.obj_source.specs.LineStates.{with_corners, polygon_from}

after_corner : (r : Result (List Pt) ObjWhy) (line : ℕ) (p : Pt) (now before : List Pt → Result MeshSoFar ObjFault) →
    ((points : List Pt) → now points ≡ before (p ∷ points)) →
    (at_line line r >>= now) ≡ (at_line line (r >>= (λ points. Ok (p ∷ points))) >>= before)
after_corner (Ok points) line p now before same = same points
after_corner (Err why) line p now before same = refl

abbrev mesh_of : List Pt → List Tri → MeshSoFar
mesh_of vertices triangles = record { vertices = vertices; triangles = triangles }

-- a corner without a fault
pub polygon_joined : (vertices : List Pt) (now before : List Tri) (line place : ℕ) (joined polygon : FanState)
    (word : List ℕ) (p : Pt) (more : List (List ℕ)) →
    corner_of vertices place word ≡ Ok p →
    ((points : List Pt) → with_corners (mesh_of vertices now) joined points ≡ with_corners
    (mesh_of vertices before) polygon (p ∷ points)) →
    polygon_from (mesh_of vertices now) line (place + 1) (read.Polygon joined) more
    ≡ polygon_from (mesh_of vertices before) line place (read.Polygon polygon) (word ∷ more)
polygon_joined vertices now before line place joined polygon word p more is_corner same =
    rw is_corner
    (after_corner (corners_of vertices (place + 1) more) line p (with_corners (mesh_of vertices now) joined)
    (with_corners (mesh_of vertices before) polygon) same)

-- the first corner with a fault
pub polygon_faulty : (vertices : List Pt) (now before : List Tri) (line place : ℕ) (polygon : FanState) (word : List ℕ)
    (why : ObjWhy) (more : List (List ℕ)) →
    corner_of vertices place word ≡ Err why →
    polygon_from (mesh_of vertices now) line (place + 1) (read.Faulty why) more
    ≡ polygon_from (mesh_of vertices before) line place (read.Polygon polygon) (word ∷ more)
polygon_faulty vertices now before line place polygon word why more is_fault = rw is_fault refl
