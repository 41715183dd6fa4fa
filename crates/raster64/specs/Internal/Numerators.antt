-- The numerator of a triangle's depth along a row: how far spots reach, how much the numerator grows from one centre
-- to the next, and a number by its quotient and remainder.
use Rattle.std.specs.Prelude.{◌≡◌, ◌≤◌, ℕ, ℤ, pos, ◌+ℤ◌, ◌-ℤ◌, ◌*ℤ◌, ◌<ℤ◌, ◌≤ℤ◌, unsigned_abs}
use Rattle.geom_core.specs.declared.limits.TheConstants.{SUBPIXELS}
use Rattle.geom_core.specs.declared.screens.Spot.{Spot}
use Rattle.geom_core.specs.Winding.{edge_function}

-- both coordinates of the spot are at most m away from 0
pub record IsWithin (m : ℕ) (s : Spot) : Type 0 where
  pub x : unsigned_abs s.x ≤ m
  pub y : unsigned_abs s.y ≤ m

-- the sum of three numbers, each multiplied by a corner's depth
abbrev pub by_depths : Spot → Spot → Spot → ℤ → ℤ → ℤ → ℤ
by_depths a b c p q r = p *ℤ pos a.z +ℤ q *ℤ pos b.z +ℤ r *ℤ pos c.z

-- how much the weighted sum of depths grows from one column to the next
unfoldable pub growth : Spot → Spot → Spot → ℤ
growth a b c = by_depths a b c (b.y -ℤ c.y) (c.y -ℤ a.y) (a.y -ℤ b.y) *ℤ pos SUBPIXELS

-- n is whole * d + rest, with the rest from 0 on and below d
pub record IsDivided (n d whole rest : ℤ) : Type 0 where
  pub exact : n ≡ whole *ℤ d +ℤ rest
  pub from : pos 0 ≤ℤ rest
  pub below : rest <ℤ d

-- the triangle's divisor, which is positive, and its growth divided by that
pub record IsDepthPlane (a b c : Spot) (divisor whole rest : ℤ) : Type 0 where
  pub area : divisor ≡ edge_function a b c.x c.y
  pub positive : pos 0 <ℤ divisor
  pub step : IsDivided (growth a b c) divisor whole rest
