-- The depth at a point lies from the least to the greatest depth of a corner.
use Rattle.std.proofs.Common.{ap, negsuc, ◌≡◌, ℕ, ◌<◌, ◌≤◌, min, max, ℤ, pos, ◌≤ℤ◌, arith}
use Rattle.std.proofs.lemmas.Int.{ints, clamps}
use Rattle.geom_core.specs.declared.screens.Spot.{Spot}
use Rattle.geom_core.specs.Floor.{floor_div}
use Rattle.geom_core.specs.Depth.{divisor, weighted, held, depth}

-- a number is held at or above the least and at or below the most
pub held-from : (least most : ℕ) (z : ℤ) → least ≤ most → least ≤ held least most z
unfolding held
held-from least most z order = omega (arith, ints, clamps)

pub held-to : (least most : ℕ) (z : ℤ) → least ≤ most → held least most z ≤ most
unfolding held
held-to least most z order = omega (arith, ints, clamps)

-- a number in that range stays
pub held-same : (least most z : ℕ) → least ≤ z → z ≤ most → held least most (pos z) ≡ z
unfolding held
held-same least most z from to = omega (arith, ints, clamps)

pub held-inside : (least most : ℕ) (z : ℤ) → pos least ≤ℤ z → z ≤ℤ pos most → pos (held least most z) ≡ z
held-inside least most (pos z) from to = ap pos (held-same least most z (omega (arith, ints)) (omega (arith, ints)))
held-inside least most (negsuc z) from to = absurd (omega (arith, ints))

pub held-below : (least most : ℕ) (z : ℤ) → least ≤ most → z ≤ℤ pos least → held least most z ≡ least
unfolding held
held-below least most z order below = omega (arith, ints, clamps)

pub held-above : (least most : ℕ) (z : ℤ) → least ≤ most → pos most ≤ℤ z → held least most z ≡ most
unfolding held
held-above least most z order above = omega (arith, ints, clamps)

-- the depth is at least one corner's and at most one corner's
pub depth-from : (a b c : Spot) (x y : ℤ) → min a.z (min b.z c.z) ≤ depth a b c x y
unfolding depth
depth-from a b c x y =
    held-from (min a.z (min b.z c.z)) (max a.z (max b.z c.z))
    (floor_div (weighted a b c x y) (divisor a b c x y)) (omega arith)

pub depth-to : (a b c : Spot) (x y : ℤ) → depth a b c x y ≤ max a.z (max b.z c.z)
unfolding depth
depth-to a b c x y =
    held-to (min a.z (min b.z c.z)) (max a.z (max b.z c.z)) (floor_div (weighted a b c x y) (divisor a b c x y))
    (omega arith)

-- so it is below whatever the corners' depths are below, as 2^30
pub depth-below : (a b c : Spot) (x y : ℤ) (bound : ℕ) → a.z < bound → b.z < bound → c.z < bound →
    depth a b c x y < bound
depth-below a b c x y bound at_a at_b at_c = let k = depth-to a b c x y in omega arith

-- and above 0 where the corners' depths are
pub depth-positive : (a b c : Spot) (x y : ℤ) → 0 < a.z → 0 < b.z → 0 < c.z → 0 < depth a b c x y
depth-positive a b c x y at_a at_b at_c = let k = depth-from a b c x y in omega arith

-- corners at one depth have that depth everywhere
pub depth-level : (a b c : Spot) (x y : ℤ) (z : ℕ) → a.z ≡ z → b.z ≡ z → c.z ≡ z → depth a b c x y ≡ z
depth-level a b c x y z at_a at_b at_c = let k = depth-from a b c x y in let m = depth-to a b c x y in omega arith
