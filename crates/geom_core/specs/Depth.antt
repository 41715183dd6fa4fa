-- The depth of a triangle at a point of the screen, by interpolation.
use Rattle.std.specs.Prelude.{ℕ, ℤ, pos, ◌+ℤ◌, ◌*ℤ◌, min, max, unsigned_abs}
use Rattle.std.specs.Int.{int_min, int_max}
use Rattle.geom_core.specs.declared.screens.Spot.{Spot}
use Rattle.geom_core.specs.Floor.{floor_div}
use Rattle.geom_core.specs.Winding.{edge_function}

-- the sum of the three edge functions: twice the triangle's area with a sign, the same at every point
unfoldable pub divisor : Spot → Spot → Spot → ℤ → ℤ → ℤ
divisor a b c x y = edge_function b c x y +ℤ edge_function c a x y +ℤ edge_function a b x y

-- each corner's depth, weighted by the edge function of the edge across from it
unfoldable pub weighted : Spot → Spot → Spot → ℤ → ℤ → ℤ
weighted a b c x y =
    edge_function b c x y *ℤ pos a.z +ℤ edge_function c a x y *ℤ pos b.z +ℤ edge_function a b x y *ℤ pos c.z

-- the nearest number to z from least to most
unfoldable pub held : ℕ → ℕ → ℤ → ℕ
held least most z = unsigned_abs (int_max (pos least) (int_min (pos most) z))

-- the interpolated depth rounded down, held between the least and the greatest depth of a corner
unfoldable pub depth : Spot → Spot → Spot → ℤ → ℤ → ℕ
depth a b c x y =
    held (min a.z (min b.z c.z)) (max a.z (max b.z c.z)) (floor_div (weighted a b c x y) (divisor a b c x y))
