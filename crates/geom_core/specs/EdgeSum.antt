-- The edge sum of a list of triangles, and its rim.
use Rattle.std.specs.Prelude.{Bool, not, ◌&&◌, ℕ, ℤ, pos, ◌-ℤ◌, List, [], ◌∷◌, flat_map, count_by, IsTrue}
use Rattle.std.specs.Ordering.{int_eq}
use Rattle.geom_core.specs.declared.points.Pt.{Pt}
use Rattle.geom_core.specs.declared.triangles.Tri.{Tri}

-- p and q are one point
unfoldable pub same_point : Pt → Pt → Bool
same_point p q = int_eq p.x q.x && int_eq p.y q.y && int_eq p.z q.z

-- the directed edges of a triangle: a to b, b to c, c to a
unfoldable pub edges_of : Tri → List (Pt × Pt)
edges_of t = (t.a, t.b) ∷ (t.b, t.c) ∷ (t.c, t.a) ∷ []

-- how many of the triangles' directed edges go from u to v
unfoldable pub edge_count : List Tri → Pt → Pt → ℕ
edge_count tris u v = count_by (λ edge. same_point edge.0 u && same_point edge.1 v) (flat_map edges_of tris)

-- the number of edges from u to v less the number of edges from v to u
unfoldable pub edge_sum : List Tri → Pt → Pt → ℤ
edge_sum tris u v = pos (edge_count tris u v) -ℤ pos (edge_count tris v u)

-- the edges between u and v don't cancel
unfoldable pub is_rim_edge : List Tri → Pt → Pt → Bool
is_rim_edge tris u v = not (int_eq (edge_sum tris u v) (pos 0))

-- some edge at p doesn't cancel
abbrev pub OnRim : List Tri → Pt → Type 0
OnRim tris p = (q : Pt) × IsTrue (is_rim_edge tris p q)
