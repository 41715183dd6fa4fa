-- The ranges of coordinates, points, triangles, pictures and spots, over the numbers of `limits.rt`. A range that
-- a file format decides is a Bool, with its fact on top.
use Rattle.std.specs.Prelude.{Bool, not, ◌&&◌, ◌≤◌, ◌^◌, ℕ, ℤ, unsigned_abs, nat_le, nat_lt, IsTrue, List, length, All}
use Rattle.geom_core.specs.declared.limits.TheConstants.{MAX_TRIANGLES, MAX_COORDINATE, MAX_EYE, MAX_STEPS_PER_UNIT}
use Rattle.geom_core.specs.declared.limits.TheConstants.{MAX_SIDE, MAX_SCREEN_COORDINATE, MAX_DEPTH, CLUSTER_BITS}
use Rattle.geom_core.specs.declared.points.Pt.{Pt}
use Rattle.geom_core.specs.declared.triangles.Tri.{Tri}
use Rattle.geom_core.specs.declared.screens.Spot.{Spot}
use Rattle.geom_core.specs.declared.screens.Size.{Size}
use Rattle.geom_core.specs.EdgeSum.{same_point}

-- each coordinate of the point is at most this far from 0
abbrev pub is_point_within : ℕ → Pt → Bool
is_point_within most p =
    nat_le (unsigned_abs p.x) most && nat_le (unsigned_abs p.y) most && nat_le (unsigned_abs p.z) most

-- a coordinate of a mesh
abbrev pub is_grid_coordinate : ℤ → Bool
is_grid_coordinate n = nat_le (unsigned_abs n) MAX_COORDINATE

abbrev pub IsGridCoordinate : ℤ → Type 0
IsGridCoordinate n = IsTrue (is_grid_coordinate n)

-- a point of a mesh: its three coordinates are
abbrev pub is_grid_point : Pt → Bool
is_grid_point p = is_grid_coordinate p.x && is_grid_coordinate p.y && is_grid_coordinate p.z

abbrev pub IsGridPoint : Pt → Type 0
IsGridPoint p = IsTrue (is_grid_point p)

-- the three corners are points of a mesh; two of them may be one point
abbrev pub has_grid_corners : Tri → Bool
has_grid_corners t = is_grid_point t.a && is_grid_point t.b && is_grid_point t.c

abbrev pub HasGridCorners : Tri → Type 0
HasGridCorners t = IsTrue (has_grid_corners t)

-- no two of the corners are one point
unfoldable pub has_distinct_corners : Tri → Bool
has_distinct_corners t = not (same_point t.a t.b) && not (same_point t.b t.c) && not (same_point t.c t.a)

-- a triangle of a mesh: three different points of one
abbrev pub is_grid_triangle : Tri → Bool
is_grid_triangle t = has_grid_corners t && has_distinct_corners t

abbrev pub IsGridTriangle : Tri → Type 0
IsGridTriangle t = IsTrue (is_grid_triangle t)

-- the triangles of a mesh that was read: at least one, and at most MAX_TRIANGLES
pub record AreGridTriangles (tris : List Tri) : Type 0 where
  pub some : 1 ≤ length tris
  pub triangle_limit : length tris ≤ MAX_TRIANGLES
  pub each : All IsGridTriangle tris

-- where a camera may be
abbrev pub is_eye : Pt → Bool
is_eye p = is_point_within MAX_EYE p

abbrev pub IsEye : Pt → Type 0
IsEye p = IsTrue (is_eye p)

-- the grid steps per unit of a text
abbrev pub is_scale : ℕ → Bool
is_scale n = nat_le 1 n && nat_le n MAX_STEPS_PER_UNIT

abbrev pub IsScale : ℕ → Type 0
IsScale n = IsTrue (is_scale n)

-- the number of a picture's columns or rows
abbrev pub is_side : ℕ → Bool
is_side n = nat_le 1 n && nat_le n MAX_SIDE

abbrev pub IsSide : ℕ → Type 0
IsSide n = IsTrue (is_side n)

-- the size of a picture
abbrev pub is_picture : Size → Bool
is_picture size = is_side size.width && is_side size.height

abbrev pub IsPicture : Size → Type 0
IsPicture size = IsTrue (is_picture size)

-- a screen-space coordinate
abbrev pub is_screen_coordinate : ℤ → Bool
is_screen_coordinate v = nat_le (unsigned_abs v) MAX_SCREEN_COORDINATE

abbrev pub IsScreenCoordinate : ℤ → Type 0
IsScreenCoordinate v = IsTrue (is_screen_coordinate v)

-- the reversed depth of a point that is seen
abbrev pub is_depth : ℕ → Bool
is_depth z = nat_le 1 z && nat_le z MAX_DEPTH

abbrev pub IsDepth : ℕ → Type 0
IsDepth z = IsTrue (is_depth z)

-- a screen position with its depth
abbrev pub is_spot : Spot → Bool
is_spot s = is_screen_coordinate s.x && is_screen_coordinate s.y && is_depth s.z

abbrev pub IsSpot : Spot → Type 0
IsSpot s = IsTrue (is_spot s)

-- a cluster's number that fits a picture's word
abbrev pub is_cluster_number : ℕ → Bool
is_cluster_number n = nat_lt n (2 ^ CLUSTER_BITS)

abbrev pub IsClusterNumber : ℕ → Type 0
IsClusterNumber n = IsTrue (is_cluster_number n)
