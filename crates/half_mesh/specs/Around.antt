-- Which triangles lie round a point.
use Rattle.std.specs.Prelude.{ℕ, List, map, filter}
use Rattle.std.specs.List.{enumerate_from}
use Rattle.geom_core.specs.declared.points.Pt.{Pt}
use Rattle.geom_core.specs.declared.triangles.Tri.{Tri}
use Rattle.geom_core.specs.Corners.{has_corner}

-- the places in the list of the triangles with corner p, ascending
abbrev pub triangles_around : List Tri → Pt → List ℕ
triangles_around tris p = map (λ (k, t). k) (filter (λ (k, t). has_corner p t) (enumerate_from 0 tris))
