-- The sign of a product of integers, and tests of sign that agree.
use Rattle.std.proofs.Common.{◌≡◌, zero, suc, ℤ, pos, negsuc, ◌*ℤ◌, ◌<ℤ◌, ◌≤ℤ◌, int_lt, sym, arith}
use Rattle.std.proofs.lemmas.Int.{ints, by_lt_z}

-- a factor that isn't negative keeps the other's sign
pub product_not_negative : (p q : ℤ) → pos 0 ≤ℤ p → pos 0 ≤ℤ q → pos 0 ≤ℤ (p *ℤ q)
product_not_negative (pos m) (pos n) h k = omega (arith, ints)
product_not_negative (pos m) (negsuc n) h k = absurd (omega (arith, ints))
product_not_negative (negsuc m) q h k = absurd (omega (arith, ints))

pub product_not_positive : (p q : ℤ) → p ≤ℤ pos 0 → pos 0 ≤ℤ q → (p *ℤ q) ≤ℤ pos 0
product_not_positive (pos zero) (pos n) h k = omega (arith, ints)
product_not_positive (pos (suc m)) q h k = absurd (omega (arith, ints))
product_not_positive (negsuc m) (pos n) h k = omega (arith, ints)
product_not_positive p (negsuc n) h k = absurd (omega (arith, ints))

pub product_positive : (p q : ℤ) → pos 0 <ℤ p → pos 0 <ℤ q → pos 0 <ℤ (p *ℤ q)
product_positive (pos zero) q h k = absurd (omega (arith, ints))
product_positive p (pos zero) h k = absurd (omega (arith, ints))
product_positive (pos (suc m)) (pos (suc n)) h k = omega (arith, ints)
product_positive (pos (suc m)) (negsuc n) h k = absurd (omega (arith, ints))
product_positive (negsuc m) q h k = absurd (omega (arith, ints))

-- two tests that follow from each other are one
pub tests_agree : (p q : ℤ) → (pos 0 <ℤ p → pos 0 <ℤ q) → (pos 0 <ℤ q → pos 0 <ℤ p) → int_lt (pos 0) p ≡
    int_lt (pos 0) q
tests_agree p q f g = grind (arith, ints)

-- a positive multiple of one is a positive multiple of the other, so both are positive or none is
positive_forth : (p q u v : ℤ) → pos 0 <ℤ u → pos 0 <ℤ v → p *ℤ v ≡ q *ℤ u → pos 0 <ℤ p → pos 0 <ℤ q
positive_forth p q u v hu hv e hp =
    let k = product_positive p v hp hv in
    let otherwise : q ≤ℤ pos 0 → (q *ℤ u) ≤ℤ pos 0 = λ h. product_not_positive q u h (omega (arith, ints)) in
    by_lt_z (pos 0) q (λ h. h) (λ h. let no : (q *ℤ u) ≤ℤ pos 0 = otherwise h in
    let yes : pos 0 <ℤ (q *ℤ u) = rw e at k in absurd (clash yes no))
  where
    clash : {z : ℤ} → pos 0 <ℤ z → z ≤ℤ pos 0 → ⊥
    clash h k = omega (arith, ints)

pub same_sign : (p q u v : ℤ) → pos 0 <ℤ u → pos 0 <ℤ v → p *ℤ v ≡ q *ℤ u → int_lt (pos 0) p ≡ int_lt (pos 0) q
same_sign p q u v hu hv e = tests_agree p q (positive_forth p q u v hu hv e) (positive_forth q p v u hv hu (sym e))
