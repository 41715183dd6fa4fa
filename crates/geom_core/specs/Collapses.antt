-- Half-edge collapses: one point takes another's place, and the triangles that it makes flat are left out.
use Rattle.std.specs.Prelude.{List, map, filter, if◌then◌else◌}
use Rattle.geom_core.specs.declared.points.Pt.{Pt}
use Rattle.geom_core.specs.declared.triangles.Tri.{Tri}
use Rattle.geom_core.specs.EdgeSum.{same_point}
use Rattle.geom_core.specs.Limits.{has_distinct_corners}

-- b if the point is a, else the point
unfoldable pub replaced_point : Pt → Pt → Pt → Pt
replaced_point a b p = if same_point p a then b else p

-- the triangle with b at each corner that is a
unfoldable pub replaced : Pt → Pt → Tri → Tri
replaced a b t = record { a = replaced_point a b t.a; b = replaced_point a b t.b; c = replaced_point a b t.c }

-- a collapse of a to b: b replaces a in all triangles; those that then have two equal corners are left out
unfoldable pub collapsed : Pt → Pt → List Tri → List Tri
collapsed a b tris = filter has_distinct_corners (map (replaced a b) tris)
