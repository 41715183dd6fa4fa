-- How large vectors are.
use Rattle.std.specs.Prelude.{◌≤◌, ℕ, unsigned_abs}
use Rattle.rim_collapse.specs.declared.vectors.Vector.{Vector}

-- each component is at most `most` from 0
pub record IsWithin (most : ℕ) (v : Vector) : Type 0 where
  pub x : unsigned_abs v.x ≤ most
  pub y : unsigned_abs v.y ≤ most
  pub z : unsigned_abs v.z ≤ most
