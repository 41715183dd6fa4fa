-- The order of points.
use Rattle.std.specs.Prelude.{Bool}
use Rattle.std.specs.Ordering.{int_cmp, is_lt, ordering_then}
use Rattle.std.specs.declared.cmp.Ordering.{Ordering}
use Rattle.geom_core.specs.declared.points.Pt.{Pt}

-- by x; at equal x by y; at equal x and y by z
abbrev pub point_cmp : Pt → Pt → Ordering
point_cmp p q = ordering_then (int_cmp p.x q.x) (ordering_then (int_cmp p.y q.y) (int_cmp p.z q.z))

-- p comes before q
abbrev pub is_before : Pt → Pt → Bool
is_before p q = is_lt (point_cmp p q)
