-- A number by its quotient and remainder, and those of a sum.
use Rattle.std.proofs.Common.{◌≡◌, ℕ, ◌≤◌, ℤ, pos, ◌+ℤ◌, ◌-ℤ◌, ◌*ℤ◌, neg_ℤ, ◌<ℤ◌, ◌≤ℤ◌, unsigned_abs, arith}
use Rattle.std.proofs.lemmas.Int.{ints}
use Rattle.geom_core.specs.Floor.{floor_div}
use Rattle.geom_core.proofs.Differences.{as_dif, difs, dif-same}
use Rattle.geom_core.proofs.Signs.{product_not_negative}
use Rattle.geom_core.proofs.FloorLaws.{floor_div-from, floor_div-to, floor_div-is, floor_div-at_least}
use Rattle.geom_core.proofs.FloorLaws.{floor_div-at_most}
use Rattle.raster64.specs.Internal.Numerators.{IsDivided}

next_product : (q d : ℤ) → (q +ℤ pos 1) *ℤ d ≡ q *ℤ d +ℤ d
next_product q d = rw (as_dif q, as_dif d) (simp difs (omega (arith, dif-same)))

pub divided : (n d q r : ℤ) → pos 0 <ℤ d → q ≡ floor_div n d → r ≡ n -ℤ q *ℤ d → IsDivided n d q r
divided n d q r positive e f =
    let from : (q *ℤ d) ≤ℤ n = rw e (floor_div-from n d positive) in
    let to : n <ℤ (q *ℤ d +ℤ d) = rw (← next_product q d, e) (floor_div-to n d positive) in
    record { exact = rw f (back n (q *ℤ d)); from = rw f (left n (q *ℤ d) from); below = rw f (right n (q *ℤ d) d to) }
  where
    back : (n k : ℤ) → n ≡ k +ℤ (n -ℤ k)
    back n k = omega (arith, ints)

    left : (n k : ℤ) → k ≤ℤ n → pos 0 ≤ℤ (n -ℤ k)
    left n k h = omega (arith, ints)

    right : (n k d : ℤ) → n <ℤ (k +ℤ d) → (n -ℤ k) <ℤ d
    right n k d h = omega (arith, ints)

-- the quotient is the number divided and rounded down
pub quotient-is : (n d q r : ℤ) → pos 0 <ℤ d → IsDivided n d q r → floor_div n d ≡ q
quotient-is n d q r positive h =
    floor_div-is n d q positive (rw h.exact (from (q *ℤ d) r h.from))
    (rw (next_product q d, h.exact) (to (q *ℤ d) r d h.below))
  where
    from : (k r : ℤ) → pos 0 ≤ℤ r → k ≤ℤ (k +ℤ r)
    from k r i = omega (arith, ints)

    to : (k r d : ℤ) → r <ℤ d → (k +ℤ r) <ℤ (k +ℤ d)
    to k r d i = omega (arith, ints)

together : (p q d r s : ℤ) → (p *ℤ d +ℤ r) +ℤ (q *ℤ d +ℤ s) ≡ (p +ℤ q) *ℤ d +ℤ (r +ℤ s)
together p q d r s = rw (as_dif p, as_dif q, as_dif d, as_dif r, as_dif s) (simp difs (omega (arith, dif-same)))

carried : (p q d r s : ℤ) → (p *ℤ d +ℤ r) +ℤ (q *ℤ d +ℤ s) ≡ (p +ℤ q +ℤ pos 1) *ℤ d +ℤ (r +ℤ s -ℤ d)
carried p q d r s = rw (as_dif p, as_dif q, as_dif d, as_dif r, as_dif s) (simp difs (omega (arith, dif-same)))

-- the quotients and remainders of two numbers add up, without a carry and with one
pub sum_divided : (n m d p r q s : ℤ) → IsDivided n d p r → IsDivided m d q s → (r +ℤ s) <ℤ d →
    IsDivided (n +ℤ m) d (p +ℤ q) (r +ℤ s)
sum_divided n m d p r q s h i small = record {
  exact = rw (h.exact, i.exact) (together p q d r s);
  from = omega (arith, ints, h.from, i.from);
  below = small;
}

pub sum_carried : (n m d p r q s : ℤ) → IsDivided n d p r → IsDivided m d q s → d ≤ℤ (r +ℤ s) →
    IsDivided (n +ℤ m) d (p +ℤ q +ℤ pos 1) (r +ℤ s -ℤ d)
sum_carried n m d p r q s h i large = record {
  exact = rw (h.exact, i.exact) (carried p q d r s);
  from = omega (arith, ints);
  below = omega (arith, ints, h.below, i.below);
}

-- ---- the size of a quotient of a product by what is at least its second factor

low_gap : (u t d m : ℤ) → u *ℤ t -ℤ neg_ℤ m *ℤ d ≡ (u +ℤ m) *ℤ t +ℤ m *ℤ (d -ℤ t)
low_gap u t d m = rw (as_dif u, as_dif t, as_dif d, as_dif m) (simp difs (omega (arith, dif-same)))

high_gap : (u t d m : ℤ) → (m +ℤ pos 1) *ℤ d -ℤ u *ℤ t ≡ (m -ℤ u) *ℤ t +ℤ m *ℤ (d -ℤ t) +ℤ d
high_gap u t d m = rw (as_dif u, as_dif t, as_dif d, as_dif m) (simp difs (omega (arith, dif-same)))

pub share_size : (u t d : ℤ) (m : ℕ) → pos 0 ≤ℤ t → t ≤ℤ d → pos 0 <ℤ d → unsigned_abs u ≤ m →
    unsigned_abs (floor_div (u *ℤ t) d) ≤ m
share_size u t d m from to positive size =
    let rest = product_not_negative (pos m) (d -ℤ t) (omega (arith, ints)) (omega (arith, ints)) in
    let low = product_not_negative (u +ℤ pos m) t (omega (arith, ints)) from in
    let high = product_not_negative (pos m -ℤ u) t (omega (arith, ints)) from in
    let least = floor_div-at_least (u *ℤ t) d (neg_ℤ (pos m)) positive
    (at_most (neg_ℤ (pos m) *ℤ d) (u *ℤ t) _ _ (low_gap u t d (pos m)) low rest) in
    let greatest = floor_div-at_most (u *ℤ t) d (pos m) positive
    (before (u *ℤ t) ((pos m +ℤ pos 1) *ℤ d) _ _ d (high_gap u t d (pos m)) high rest positive) in
    within (floor_div (u *ℤ t) d) m least greatest
  where
    at_most : (k n p q : ℤ) → n -ℤ k ≡ p +ℤ q → pos 0 ≤ℤ p → pos 0 ≤ℤ q → k ≤ℤ n
    at_most k n p q e i j = omega (arith, ints)

    before : (k n p q d : ℤ) → n -ℤ k ≡ p +ℤ q +ℤ d → pos 0 ≤ℤ p → pos 0 ≤ℤ q → pos 0 <ℤ d → k <ℤ n
    before k n p q d e i j l = omega (arith, ints)

    within : (z : ℤ) (m : ℕ) → neg_ℤ (pos m) ≤ℤ z → z ≤ℤ pos m → unsigned_abs z ≤ m
    within z m i j = omega (arith, ints)
