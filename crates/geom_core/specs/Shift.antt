-- How far a triangle was moved: what a simplification changes, and what an error bounds.
use Rattle.std.specs.Prelude.{ℕ, max}
use Rattle.geom_core.specs.declared.triangles.Tri.{Tri}
use Rattle.geom_core.specs.Distance.{distance}

-- the greatest of the three distances between the same corners of the two triangles
unfoldable pub shift_of : Tri → Tri → ℕ
shift_of t u = max (distance t.a u.a) (max (distance t.b u.b) (distance t.c u.c))
