-- Along a row the weighted sum of depths grows by the same from column to column, and where the triangle covers a
-- column its quotient is the depth.
use Rattle.std.proofs.Common.{◌≡◌, ◌≢◌, ℕ, ◌+◌, ◌≤◌, ◌<◌, ℤ, pos, ◌+ℤ◌, ◌-ℤ◌, ◌*ℤ◌, ◌<ℤ◌, unsigned_abs, sym, ap, ◌∙◌}
use Rattle.std.proofs.Common.{arith}
use Rattle.std.proofs.lemmas.Int.{ints, by_lt_z}
use Rattle.geom_core.specs.declared.limits.TheConstants.{SUBPIXELS, MAX_DEPTH}
use Rattle.geom_core.specs.declared.screens.Spot.{Spot}
use Rattle.geom_core.specs.Floor.{floor_div}
use Rattle.geom_core.specs.Winding.{edge_function, winding}
use Rattle.geom_core.specs.Depth.{divisor, weighted, depth}
use Rattle.geom_core.proofs.Differences.{as_dif, difs, dif-same}
use Rattle.geom_core.proofs.DivisorLaws.{divisor-is}
use Rattle.geom_core.proofs.DepthLaws.{depth-to}
use Rattle.geom_core.proofs.FloorLaws.{floor_div-size}
use Rattle.geom_core.proofs.InterpolationLaws.{depth-quotient}
use Rattle.raster64.specs.Internal.Centres.{centre}
use Rattle.raster64.specs.Internal.Numerators.{growth, IsDivided}
use Rattle.raster64.proofs.Division.{quotient-is, sum_divided, sum_carried}

-- ---- from column to column

edge_moved : (x₁ y₁ x₂ y₂ x y g : ℤ) → (x₂ -ℤ x₁) *ℤ (y -ℤ y₁) -ℤ (y₂ -ℤ y₁) *ℤ (x +ℤ g -ℤ x₁) ≡
    (x₂ -ℤ x₁) *ℤ (y -ℤ y₁) -ℤ (y₂ -ℤ y₁) *ℤ (x -ℤ x₁) +ℤ (y₁ -ℤ y₂) *ℤ g
edge_moved x₁ y₁ x₂ y₂ x y g =
    rw (as_dif x₁, as_dif y₁, as_dif x₂, as_dif y₂, as_dif x, as_dif y, as_dif g) (simp difs (omega (arith, dif-same)))

edge_next : (s t : Spot) (x y g : ℤ) → edge_function s t (x +ℤ g) y ≡ edge_function s t x y +ℤ (s.y -ℤ t.y) *ℤ g
unfolding edge_function
edge_next s t x y g = edge_moved s.x s.y t.x t.y x y g

shares_moved : (p q r k m n : ℤ) (g u v w : ℕ) →
    (p +ℤ k *ℤ pos g) *ℤ pos u +ℤ (q +ℤ m *ℤ pos g) *ℤ pos v +ℤ (r +ℤ n *ℤ pos g) *ℤ pos w ≡
    p *ℤ pos u +ℤ q *ℤ pos v +ℤ r *ℤ pos w +ℤ (k *ℤ pos u +ℤ m *ℤ pos v +ℤ n *ℤ pos w) *ℤ pos g
shares_moved p q r k m n g u v w =
    rw (as_dif p, as_dif q, as_dif r, as_dif k, as_dif m, as_dif n) (simp difs (omega (arith, dif-same)))

weighted_moved : (a b c : Spot) (x y : ℤ) → weighted a b c (x +ℤ pos SUBPIXELS) y ≡ weighted a b c x y +ℤ growth a b c
unfolding weighted growth
weighted_moved a b c x y =
    rw (edge_next b c x y (pos SUBPIXELS), edge_next c a x y (pos SUBPIXELS), edge_next a b x y (pos SUBPIXELS))
    (shares_moved (edge_function b c x y) (edge_function c a x y) (edge_function a b x y) (b.y -ℤ c.y) (c.y -ℤ a.y)
    (a.y -ℤ b.y)
    SUBPIXELS a.z b.z c.z)

centre_next : (k : ℕ) → centre (k + 1) ≡ centre k +ℤ pos SUBPIXELS
centre_next k = ap pos (omega arith)

pub weighted_next : (a b c : Spot) (k : ℕ) (y : ℤ) →
    weighted a b c (centre (k + 1)) y ≡ weighted a b c (centre k) y +ℤ growth a b c
weighted_next a b c k y = ap (λ x. weighted a b c x y) (centre_next k) ∙ weighted_moved a b c (centre k) y

-- ---- the quotients

-- the two quotients of a sum add up to about its own
pub wholes_size : (n m d p r q s : ℤ) (most : ℕ) → pos 0 <ℤ d → IsDivided n d p r → IsDivided m d q s →
    unsigned_abs (n +ℤ m) + 1 < most → unsigned_abs (p +ℤ q) < most
wholes_size n m d p r q s most positive h i size =
    let quotient = floor_div-size (n +ℤ m) d (λ zero. absurd (nonzero d positive zero)) in
    by_lt_z (r +ℤ s) d
    (λ small. let e = quotient-is (n +ℤ m) d (p +ℤ q) (r +ℤ s) positive (sum_divided n m d p r q s h i small) in
    fits (p +ℤ q) (unsigned_abs (n +ℤ m)) most (rw e at quotient) size)
    (λ large. let e = quotient-is (n +ℤ m) d (p +ℤ q +ℤ pos 1) (r +ℤ s -ℤ d) positive
    (sum_carried n m d p r q s h i large) in
    fits_carried (p +ℤ q) (unsigned_abs (n +ℤ m)) most (rw e at quotient) size)
  where
    nonzero : (d : ℤ) → pos 0 <ℤ d → d ≡ pos 0 → ⊥
    nonzero d h e = omega (arith, ints)

    fits : (z : ℤ) (k most : ℕ) → unsigned_abs z ≤ k → k + 1 < most → unsigned_abs z < most
    fits z k most h i = omega arith

    fits_carried : (z : ℤ) (k most : ℕ) → unsigned_abs (z +ℤ pos 1) ≤ k → k + 1 < most → unsigned_abs z < most
    fits_carried z k most h i = omega (arith, ints)

-- where the triangle winds round the point, the quotient is the depth
pub whole-depth : (a b c : Spot) (x y d whole rest : ℤ) → winding a b c x y ≢ pos 0 → d ≡ edge_function a b c.x c.y →
    pos 0 <ℤ d →
    IsDivided (weighted a b c x y) d whole rest → whole ≡ pos (depth a b c x y)
whole-depth a b c x y d whole rest round area positive h =
    let e : divisor a b c x y ≡ d = divisor-is a b c x y ∙ sym area in
    sym (depth-quotient a b c x y round ∙ ap (floor_div (weighted a b c x y)) e ∙
    quotient-is (weighted a b c x y) d whole rest positive h)

pub depth_at_most : (a b c : Spot) (x y : ℤ) → a.z ≤ MAX_DEPTH → b.z ≤ MAX_DEPTH → c.z ≤ MAX_DEPTH →
    depth a b c x y ≤ MAX_DEPTH
depth_at_most a b c x y at_a at_b at_c = let k = depth-to a b c x y in omega arith
