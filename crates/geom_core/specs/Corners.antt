-- The corners of triangles.
use Rattle.std.specs.Prelude.{Bool, ◌||◌, List, IsTrue, Any}
use Rattle.geom_core.specs.declared.points.Pt.{Pt}
use Rattle.geom_core.specs.declared.triangles.Tri.{Tri}
use Rattle.geom_core.specs.EdgeSum.{same_point}

-- p is a corner of the triangle
unfoldable pub has_corner : Pt → Tri → Bool
has_corner p t = same_point t.a p || same_point t.b p || same_point t.c p

-- p is a corner of some triangle of the list
abbrev pub IsCornerIn : List Tri → Pt → Type 0
IsCornerIn tris p = Any (λ t. IsTrue (has_corner p t)) tris
