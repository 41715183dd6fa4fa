-- Axis-aligned boxes: which points and boxes lie in one, and the hull, the least box round points.
use Rattle.std.specs.Prelude.{Bool, ◌&&◌, List, [], ◌∷◌, Option, Some, None, fold, int_le}
use Rattle.std.specs.Int.{int_min, int_max}
use Rattle.geom_core.specs.declared.points.Pt.{Pt}
use Rattle.geom_core.specs.declared.boxes.Cube.{Cube}

-- p is not above q on any axis
unfoldable pub is_under : Pt → Pt → Bool
is_under p q = int_le p.x q.x && int_le p.y q.y && int_le p.z q.z

-- the point lies in the box or on a face
unfoldable pub holds_point : Cube → Pt → Bool
holds_point box p = is_under box.lo p && is_under p box.hi

-- the inner box lies in the outer one, faces allowed
unfoldable pub holds_box : Cube → Cube → Bool
holds_box outer inner = is_under outer.lo inner.lo && is_under inner.hi outer.hi

-- on each axis the lesser and the greater coordinate of two points
unfoldable pub low_of : Pt → Pt → Pt
low_of p q = record { x = int_min p.x q.x; y = int_min p.y q.y; z = int_min p.z q.z }

unfoldable pub high_of : Pt → Pt → Pt
high_of p q = record { x = int_max p.x q.x; y = int_max p.y q.y; z = int_max p.z q.z }

-- the least box that holds both
unfoldable pub join_of : Cube → Cube → Cube
join_of a b = record { lo = low_of a.lo b.lo; hi = high_of a.hi b.hi }

-- the box of one point
abbrev pub point_box : Pt → Cube
point_box p = record { lo = p; hi = p }

-- the least box that holds the points; none round no point
abbrev pub hull_of : List Pt → Option Cube
hull_of [] = None
hull_of (p ∷ points) = Some (fold (λ box q. join_of box (point_box q)) (point_box p) points)
