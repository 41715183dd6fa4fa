-- Corners that differ, as the comparison of points answers it.
use Rattle.std.proofs.Common.{◌≡◌, Bool, not, ◌&&◌, true, false, int_eq, sym, ap}
use Rattle.std.proofs.Math.Bool.{and_assoc}
use Rattle.geom_core.specs.declared.points.Pt.{Pt}
use Rattle.geom_core.specs.declared.triangles.Tri.{Tri}
use Rattle.geom_core.specs.EdgeSum.{same_point}
use Rattle.geom_core.specs.Limits.{has_distinct_corners}

-- what `!=` answers
abbrev pub differ : Pt → Pt → Bool
differ p q = not (int_eq p.x q.x && (int_eq p.y q.y && int_eq p.z q.z))

differ_is : (p q : Pt) → differ p q ≡ not (same_point p q)
unfolding same_point
differ_is p q = ap not (sym (and_assoc (int_eq p.x q.x) (int_eq p.y q.y) (int_eq p.z q.z)))

distinct_is : (t : Tri) → (differ t.a t.b && differ t.b t.c && differ t.c t.a) ≡ has_distinct_corners t
unfolding has_distinct_corners
distinct_is t = rw (differ_is t.a t.b, differ_is t.b t.c, differ_is t.c t.a)

pub distinct_by_last : (t : Tri) (r : Bool) → true ≡ differ t.a t.b → true ≡ differ t.b t.c → r ≡ differ t.c t.a →
    r ≡ has_distinct_corners t
distinct_by_last t r first second last = rw (← distinct_is t, ← first, ← second) last

pub distinct_not_second : (t : Tri) → true ≡ differ t.a t.b → false ≡ differ t.b t.c → false ≡ has_distinct_corners t
distinct_not_second t first second = rw (← distinct_is t, ← first, ← second)

pub distinct_not_first : (t : Tri) → false ≡ differ t.a t.b → false ≡ has_distinct_corners t
distinct_not_first t first = rw (← distinct_is t, ← first)
