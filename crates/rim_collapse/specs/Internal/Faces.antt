-- Triangles by the numbers of their corners in a list of points, and of the triangles that they were.
use Rattle.std.specs.Prelude.{◌<◌, ◌==◌, Bool, not, ◌&&◌, ◌||◌, ℕ, pos, List, filter, map, slice_index_or}
use Rattle.std.specs.Prelude.{if◌then◌else◌}
use Rattle.geom_core.specs.declared.points.Pt.{Pt}
use Rattle.geom_core.specs.declared.triangles.Tri.{Tri}
use Rattle.geom_core.specs.declared.triangles.Tagged.{Tagged}
use Rattle.rim_collapse.specs.declared.faces.Face.{Face}
use Rattle.rim_collapse.specs.declared.states.Kept.{Kept}

-- what a number past the end of the points stands for
abbrev pub origin : Pt
origin = record { x = pos 0; y = pos 0; z = pos 0 }

-- the point with this number
unfoldable pub point_at : List Pt → ℕ → Pt
point_at points n = slice_index_or points n origin

-- the triangle of the face
abbrev pub tri_at : List Pt → Face → Tri
tri_at points f = record { a = point_at points f.a; b = point_at points f.b; c = point_at points f.c }

-- the triangles of the faces
abbrev pub tris_at : List Pt → List Face → List Tri
tris_at points faces = map (tri_at points) faces

-- what a number past the end of the triangles stands for
abbrev pub no_triangle : Tagged
no_triangle = record { tri = record { a = origin; b = origin; c = origin }; source = 0 }

-- the triangle with this number, with its source
unfoldable pub tagged_at : List Tagged → ℕ → Tagged
tagged_at tris n = slice_index_or tris n no_triangle

-- the triangle of the face, beside the one that it was
abbrev pub kept_at : List Tagged → List Pt → Face → Kept
kept_at tris points f = record { tri = tri_at points f; was = tagged_at tris f.was }

-- the state of the faces
abbrev pub state_of : List Tagged → List Pt → List Face → List Kept
state_of tris points faces = map (kept_at tris points) faces

-- each corner's number is below n
pub record IsNumbered (n : ℕ) (f : Face) : Type 0 where
  pub a : f.a < n
  pub b : f.b < n
  pub c : f.c < n

-- the number is that of a corner
unfoldable pub has_number : ℕ → Face → Bool
has_number n f = f.a == n || f.b == n || f.c == n

-- b in the place of a
unfoldable pub renumbered : ℕ → ℕ → ℕ → ℕ
renumbered a b n = if n == a then b else n

-- the face with b in the place of a
abbrev pub face_to : ℕ → ℕ → Face → Face
face_to a b f = record { a = renumbered a b f.a; b = renumbered a b f.b; c = renumbered a b f.c; was = f.was }

-- no two corners have the same number
unfoldable pub has_distinct_numbers : Face → Bool
has_distinct_numbers f = not (f.a == f.b) && not (f.b == f.c) && not (f.c == f.a)

-- the faces that are left: those without a number twice
abbrev pub left : List Face → List Face
left faces = filter has_distinct_numbers faces

-- the faces after a collapse of a to b
abbrev pub faces_after : ℕ → ℕ → List Face → List Face
faces_after a b faces = left (map (face_to a b) faces)
