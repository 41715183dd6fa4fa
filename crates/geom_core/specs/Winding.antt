-- The winding of a triangle about a point of the screen, by half-open crossings.
use Rattle.std.specs.Prelude.{Bool, ◌&&◌, ℤ, pos, negsuc, ◌+ℤ◌, ◌-ℤ◌, ◌*ℤ◌, int_lt, int_le, if◌then◌else◌}
use Rattle.geom_core.specs.declared.screens.Spot.{Spot}

-- The edge function of the line from s to t (Pineda 1988): 0 on the line, and of opposite signs on its
-- two sides.
unfoldable pub edge_function : Spot → Spot → ℤ → ℤ → ℤ
edge_function s t x y = (t.x -ℤ s.x) *ℤ (y -ℤ s.y) -ℤ (t.y -ℤ s.y) *ℤ (x -ℤ s.x)

-- Seen from lo to hi the edge spans the height y, with hi's own height left out, and passes on the
-- greater-x side of the point.
unfoldable pub passes : Spot → Spot → ℤ → ℤ → Bool
passes lo hi x y = int_le lo.y y && int_lt y hi.y && int_lt (pos 0) (edge_function lo hi x y)

-- 1 where the edge from s to t passes the point towards greater y, -1 where it passes it towards lesser
-- y, and else 0
unfoldable pub crossing : Spot → Spot → ℤ → ℤ → ℤ
crossing s t x y = if passes s t x y then pos 1 else (if passes t s x y then negsuc 0 else pos 0)

-- how often the triangle winds round the point
unfoldable pub winding : Spot → Spot → Spot → ℤ → ℤ → ℤ
winding a b c x y = crossing a b x y +ℤ crossing b c x y +ℤ crossing c a x y
