-- Division rounded down: what Rust's `div_euclid` computes, and the number q with q * d ≤ n < (q + 1) * d.
use Rattle.std.proofs.Common.{◌≡◌, ◌≢◌, zero, suc, ◌≤◌, ℤ, pos, negsuc, ◌+ℤ◌, ◌-ℤ◌, ◌*ℤ◌, neg_ℤ, ◌<ℤ◌, ◌≤ℤ◌}
use Rattle.std.proofs.Common.{unsigned_abs, refl, arith}
use Rattle.std.proofs.lemmas.Int.{ints, by_lt_z}
use Rattle.std.specs.Int.{int_div_euclid}
use Rattle.geom_core.specs.Floor.{floor_div}
use Rattle.geom_core.proofs.Differences.{as_dif, difs, dif-same}
use Rattle.geom_core.proofs.Signs.{product_not_negative}

-- ---- `div_euclid`

-- `n.div_euclid(d)` for a positive d
pub floor_div-positive : (n d : ℤ) → pos 0 <ℤ d → floor_div n d ≡ int_div_euclid n d
floor_div-positive n (pos d) h = refl
floor_div-positive n (negsuc d) h = absurd (omega (arith, ints))

-- `(-n).div_euclid(-d)` for a negative d
pub floor_div-negative : (n d : ℤ) → d <ℤ pos 0 → floor_div n d ≡ int_div_euclid (neg_ℤ n) (neg_ℤ d)
floor_div-negative n (pos d) h = absurd (omega (arith, ints))
floor_div-negative n (negsuc d) h = refl

-- both numbers turned
pub floor_div-turned : (n d : ℤ) → d ≢ pos 0 → floor_div (neg_ℤ n) (neg_ℤ d) ≡ floor_div n d
floor_div-turned n (pos zero) h = absurd (h refl)
floor_div-turned (pos zero) (pos (suc d)) h = refl
floor_div-turned (pos (suc n)) (pos (suc d)) h = refl
floor_div-turned (negsuc n) (pos (suc d)) h = refl
floor_div-turned n (negsuc d) h = refl

-- ---- the quotient's place, for a positive divisor

pub floor_div-from : (n d : ℤ) → pos 0 <ℤ d → (floor_div n d *ℤ d) ≤ℤ n
floor_div-from n (pos zero) h = absurd (omega (arith, ints))
floor_div-from (pos n) (pos (suc d)) h = omega (arith, ints)
floor_div-from (negsuc n) (pos (suc d)) h = omega (arith, ints)
floor_div-from n (negsuc d) h = absurd (omega (arith, ints))

to_lemma : (n d : ℤ) → pos 0 <ℤ d → n <ℤ (floor_div n d *ℤ d +ℤ d)
to_lemma n (pos zero) h = absurd (omega (arith, ints))
to_lemma (pos n) (pos (suc d)) h = omega (arith, ints)
to_lemma (negsuc n) (pos (suc d)) h = omega (arith, ints)
to_lemma n (negsuc d) h = absurd (omega (arith, ints))

one_more : (q d : ℤ) → (q +ℤ pos 1) *ℤ d ≡ q *ℤ d +ℤ d
one_more q d = rw (as_dif q, as_dif d) (simp difs (omega (arith, dif-same)))

pub floor_div-to : (n d : ℤ) → pos 0 <ℤ d → n <ℤ ((floor_div n d +ℤ pos 1) *ℤ d)
floor_div-to n d h = rw one_more (to_lemma n d h)

-- a number whose product is at most n is at most the quotient, and one whose next product is above n is
-- at least the quotient
gap : (p q d : ℤ) → (p -ℤ q -ℤ pos 1) *ℤ d ≡ p *ℤ d -ℤ (q *ℤ d +ℤ d)
gap p q d = rw (as_dif p, as_dif q, as_dif d) (simp difs (omega (arith, dif-same)))

next_product : (p q d : ℤ) → pos 0 <ℤ d → q <ℤ p → (q *ℤ d +ℤ d) ≤ℤ (p *ℤ d)
next_product p q d h below =
    let k : pos 0 ≤ℤ ((p -ℤ q -ℤ pos 1) *ℤ d) = product_not_negative (p -ℤ q -ℤ pos 1) d (omega (arith, ints))
    (omega (arith, ints)) in
    apart (p *ℤ d) (q *ℤ d +ℤ d) (rw gap at k)
  where
    apart : (k m : ℤ) → pos 0 ≤ℤ (k -ℤ m) → m ≤ℤ k
    apart k m i = omega (arith, ints)

clash : (k m n : ℤ) → k ≤ℤ n → n <ℤ m → m ≤ℤ k → ⊥
clash k m n h i j = omega (arith, ints)

pub floor_div-at_least : (n d q : ℤ) → pos 0 <ℤ d → (q *ℤ d) ≤ℤ n → q ≤ℤ floor_div n d
floor_div-at_least n d q h from =
    by_lt_z (floor_div n d) q
    (λ below. absurd (clash (q *ℤ d) (floor_div n d *ℤ d +ℤ d) n from (to_lemma n d h)
    (next_product q (floor_div n d) d h below)))
    (λ at_most. at_most)

pub floor_div-at_most : (n d q : ℤ) → pos 0 <ℤ d → n <ℤ ((q +ℤ pos 1) *ℤ d) → floor_div n d ≤ℤ q
floor_div-at_most n d q h to =
    by_lt_z q (floor_div n d)
    (λ below. absurd (clash (floor_div n d *ℤ d) (q *ℤ d +ℤ d) n (floor_div-from n d h) (rw one_more at to)
    (next_product (floor_div n d) q d h below)))
    (λ at_most. at_most)

-- the quotient is the only number in that place
pub floor_div-is : (n d q : ℤ) → pos 0 <ℤ d → (q *ℤ d) ≤ℤ n → n <ℤ ((q +ℤ pos 1) *ℤ d) → floor_div n d ≡ q
floor_div-is n d q h from to = same (floor_div n d) q (floor_div-at_most n d q h to) (floor_div-at_least n d q h from)
  where
    same : (k m : ℤ) → k ≤ℤ m → m ≤ℤ k → k ≡ m
    same k m i j = omega (arith, ints)

-- ---- its size

pub floor_div-size : (n d : ℤ) → d ≢ pos 0 → unsigned_abs (floor_div n d) ≤ unsigned_abs n
floor_div-size n (pos zero) h = absurd (h refl)
floor_div-size (pos n) (pos (suc d)) h = omega arith
floor_div-size (negsuc n) (pos (suc d)) h = omega arith
floor_div-size (pos zero) (negsuc d) h = omega arith
floor_div-size (pos (suc n)) (negsuc d) h = omega arith
floor_div-size (negsuc n) (negsuc d) h = omega arith
