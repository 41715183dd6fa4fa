-- The divisor of the depth is the same at every point, and it isn't 0 where the winding isn't.
use Rattle.std.proofs.Common.{◌≡◌, ◌≢◌, true, false, ℤ, pos, ◌+ℤ◌, ◌-ℤ◌, ◌*ℤ◌, neg_ℤ, ◌<ℤ◌, int_le, sym, ◌∙◌, arith}
use Rattle.std.proofs.lemmas.Int.{ints}
use Rattle.geom_core.specs.declared.screens.Spot.{Spot}
use Rattle.geom_core.specs.Winding.{edge_function, winding}
use Rattle.geom_core.specs.Depth.{divisor}
use Rattle.geom_core.proofs.Differences.{as_dif, difs, dif-same}
use Rattle.geom_core.proofs.Signs.{same_sign}
use Rattle.geom_core.proofs.Crossings.{reaches, beside, steps_cancel, winding-steps}

-- the edge function over numbers, of the line from (x₁, y₁) to (x₂, y₂)
abbrev edge : ℤ → ℤ → ℤ → ℤ → ℤ → ℤ → ℤ
edge x₁ y₁ x₂ y₂ x y = (x₂ -ℤ x₁) *ℤ (y -ℤ y₁) -ℤ (y₂ -ℤ y₁) *ℤ (x -ℤ x₁)

edges_sum : (x₁ y₁ x₂ y₂ x₃ y₃ x y : ℤ) → edge x₂ y₂ x₃ y₃ x y +ℤ edge x₃ y₃ x₁ y₁ x y +ℤ edge x₁ y₁ x₂ y₂ x y ≡
    edge x₁ y₁ x₂ y₂ x₃ y₃
edges_sum x₁ y₁ x₂ y₂ x₃ y₃ x y =
    rw (as_dif x₁, as_dif y₁, as_dif x₂, as_dif y₂, as_dif x₃, as_dif y₃, as_dif x, as_dif y)
    (simp difs (omega (arith, dif-same)))

-- the divisor is the third corner's edge function, wherever the point is
pub divisor-is : (a b c : Spot) (x y : ℤ) → divisor a b c x y ≡ edge_function a b c.x c.y
unfolding divisor edge_function
divisor-is a b c x y = edges_sum a.x a.y b.x b.y c.x c.y x y

pub divisor-same : (a b c : Spot) (x y x' y' : ℤ) → divisor a b c x y ≡ divisor a b c x' y'
divisor-same a b c x y x' y' = divisor-is a b c x y ∙ sym (divisor-is a b c x' y')

-- of two vectors from one corner
proportion : (u v p q X Y : ℤ) → (u *ℤ Y -ℤ v *ℤ X) *ℤ q ≡ (p *ℤ Y -ℤ q *ℤ X) *ℤ v +ℤ (u *ℤ q -ℤ v *ℤ p) *ℤ Y
proportion u v p q X Y =
    rw (as_dif u, as_dif v, as_dif p, as_dif q, as_dif X, as_dif Y) (simp difs (omega (arith, dif-same)))

-- with no area, the edge functions of two edges at a corner are in proportion
pub edges_in_proportion : (a b c : Spot) (x y : ℤ) → divisor a b c x y ≡ pos 0 →
    edge_function a b x y *ℤ (c.y -ℤ a.y) ≡ edge_function a c x y *ℤ (b.y -ℤ a.y)
unfolding edge_function
edges_in_proportion a b c x y flat =
    let none : edge_function a b c.x c.y ≡ pos 0 = sym (divisor-is a b c x y) ∙ flat in
    proportion (b.x -ℤ a.x) (b.y -ℤ a.y) (c.x -ℤ a.x) (c.y -ℤ a.y) (x -ℤ a.x) (y -ℤ a.y) ∙
    rw none (nothing_more (edge_function a c x y *ℤ (b.y -ℤ a.y)) (y -ℤ a.y))
  where
    nothing_more : (k m : ℤ) → k +ℤ pos 0 *ℤ m ≡ k
    nothing_more k m = rw (as_dif k, as_dif m) (simp difs (omega (arith, dif-same)))

edge_turned : (x₁ y₁ x₂ y₂ x y : ℤ) → edge x₁ y₁ x₂ y₂ x y ≡ neg_ℤ (edge x₂ y₂ x₁ y₁ x y)
edge_turned x₁ y₁ x₂ y₂ x y =
    rw (as_dif x₁, as_dif y₁, as_dif x₂, as_dif y₂, as_dif x, as_dif y) (simp difs (omega (arith, dif-same)))

-- the edge function of an edge the other way
pub edge_function-turned : (s t : Spot) (x y : ℤ) → edge_function s t x y ≡ neg_ℤ (edge_function t s x y)
unfolding edge_function
edge_function-turned s t x y = edge_turned s.x s.y t.x t.y x y

-- the same of the edges turned round
pub turned_in_proportion : (a b c : Spot) (x y : ℤ) → divisor a b c x y ≡ pos 0 →
    edge_function b a x y *ℤ (a.y -ℤ c.y) ≡ edge_function c a x y *ℤ (a.y -ℤ b.y)
turned_in_proportion a b c x y flat =
    rw (edge_function-turned b a x y, edge_function-turned c a x y)
    (both_turned (edge_function a b x y) a.y c.y ∙ edges_in_proportion a b c x y flat ∙
    sym (both_turned (edge_function a c x y) a.y b.y))
  where
    both_turned : (k m n : ℤ) → neg_ℤ k *ℤ (m -ℤ n) ≡ k *ℤ (n -ℤ m)
    both_turned k m n = rw (as_dif k, as_dif m, as_dif n) (simp difs (omega (arith, dif-same)))

between : (y h k : ℤ) → int_le h y ≡ true → int_le k y ≡ false → pos 0 <ℤ (k -ℤ h)
between y h k reached not_yet = omega (arith, ints)

-- with no area the point lies on one side of two edges that the height spans
beside_same : (a b c : Spot) (x y : ℤ) → divisor a b c x y ≡ pos 0 →
    reaches y a ≡ true → reaches y b ≡ false → reaches y c ≡ false → beside a b x y ≡ beside a c x y
beside_same a b c x y flat reached b_not c_not =
    same_sign (edge_function a b x y) (edge_function a c x y) (b.y -ℤ a.y) (c.y -ℤ a.y)
    (between y a.y b.y reached b_not) (between y a.y c.y reached c_not) (edges_in_proportion a b c x y flat)

turned_beside_same : (a b c : Spot) (x y : ℤ) → divisor a b c x y ≡ pos 0 →
    reaches y a ≡ false → reaches y b ≡ true → reaches y c ≡ true → beside b a x y ≡ beside c a x y
turned_beside_same a b c x y flat not_yet reached_b reached_c =
    same_sign (edge_function b a x y) (edge_function c a x y) (a.y -ℤ b.y) (a.y -ℤ c.y)
    (between y b.y a.y reached_b not_yet) (between y c.y a.y reached_c not_yet) (turned_in_proportion a b c x y flat)

-- the corners in turn
pub divisor-rotated : (a b c : Spot) (x y : ℤ) → divisor b c a x y ≡ divisor a b c x y
unfolding divisor
divisor-rotated a b c x y = omega (arith, ints)

-- a triangle without area winds round no point
pub winding-flat : (a b c : Spot) (x y : ℤ) → divisor a b c x y ≡ pos 0 → winding a b c x y ≡ pos 0
winding-flat a b c x y flat =
    let flat_b : divisor b c a x y ≡ pos 0 = divisor-rotated a b c x y ∙ flat in
    let flat_c : divisor c a b x y ≡ pos 0 = divisor-rotated b c a x y ∙ flat_b in
    winding-steps a b c x y ∙
    steps_cancel (reaches y a) (reaches y b) (reaches y c) (beside a b x y) (beside b a x y) (beside b c x y)
    (beside c b x y) (beside c a x y) (beside a c x y)
    (beside_same a b c x y flat) (turned_beside_same a b c x y flat)
    (λ at_b at_c at_a. beside_same b c a x y flat_b at_b at_c at_a)
    (λ at_b at_c at_a. turned_beside_same b c a x y flat_b at_b at_c at_a)
    (λ at_c at_a at_b. beside_same c a b x y flat_c at_c at_a at_b)
    (λ at_c at_a at_b. turned_beside_same c a b x y flat_c at_c at_a at_b)

-- where the winding isn't 0 the depth's division is by no 0
pub divisor_nonzero : (a b c : Spot) (x y : ℤ) → winding a b c x y ≢ pos 0 → divisor a b c x y ≢ pos 0
divisor_nonzero a b c x y round flat = round (winding-flat a b c x y flat)
