-- Identities between polynomials over ℤ, proved by writing each number as a difference of two natural ones.
--
-- `omega` is linear and multiplies out products of natural numbers only. So an identity over ℤ is moved there
-- in one line. Name each variable in the first list, once:
--     square : (x y : ℤ) → (x +ℤ y) *ℤ (x -ℤ y) ≡ x *ℤ x -ℤ y *ℤ y
--     square x y = rw (as_dif x, as_dif y) (simp difs (omega (arith, dif-same)))
-- `as_dif` turns x into `dif (up x) (down x)`, `difs` makes each side one `dif`, and `dif-same` is the equation
-- of natural polynomials that is left. Numerals need no line: `difs` takes `pos n` to `dif n 0`, and `negsuc n`
-- to `dif 0 (suc n)`. Import {as_dif, difs, dif-same} from here, and `arith` from `Common`.
--
-- State the identity over variables alone, and apply it to the fields or calls that are meant. `omega` gives up
-- on a product of more than 64 monomials: move the origin to one of the points first, as `DivisorLaws` does.
-- For an inequality, prove the identity that leaves sums of products, and take the products' signs from `Signs`.
use Rattle.std.proofs.Common.{◌≡◌, ℕ, suc, ◌+◌, ◌*◌, ℤ, pos, negsuc, ◌+ℤ◌, ◌-ℤ◌, ◌*ℤ◌, neg_ℤ, ap, arith}
use Rattle.std.proofs.lemmas.Int.{ints}
use borrow.Author.Differences.{up, down, sum_is_lem, neg_is, product_is, same_in}

-- m - n; opaque elsewhere, so that no proof splits on signs
pub dif : ℕ → ℕ → ℤ
dif m n = pos m -ℤ pos n

-- every number is such a difference
pub as_dif : (z : ℤ) → z ≡ dif (up z) (down z)
unfolding dif
as_dif z = omega (arith, ints)

-- the two parts of a difference
parts : (m n : ℕ) → up (dif m n) + n ≡ down (dif m n) + m
unfolding dif
parts m n = omega (arith, ints)

pub dif-pos : (n : ℕ) → pos n ≡ dif n 0
unfolding dif
dif-pos n = omega (arith, ints)

pub dif-negsuc : (n : ℕ) → negsuc n ≡ dif 0 (suc n)
unfolding dif
dif-negsuc n = omega (arith, ints)

pub dif-add : (a b c d : ℕ) → dif a b +ℤ dif c d ≡ dif (a + c) (b + d)
dif-add a b c d = same_in (dif a b +ℤ dif c d) (dif (a + c) (b + d))
    (omega (arith, sum_is_lem (dif a b) (dif c d), parts a b, parts c d, parts (a + c) (b + d)))

pub dif-neg : (a b : ℕ) → neg_ℤ (dif a b) ≡ dif b a
dif-neg a b = same_in (neg_ℤ (dif a b)) (dif b a) (omega (arith, neg_is (dif a b), parts a b, parts b a))

product_parts : (u v p q a b c d : ℕ) → u + b ≡ v + a → p + d ≡ q + c → u * p + v * q + (a * d + b * c) ≡
    u * q + v * p + (a * c + b * d)
product_parts u v p q a b c d e f =
    let e₁ : (u + b) * p ≡ (v + a) * p = ap (λ k. k * p) e in
    let e₂ : (u + b) * q ≡ (v + a) * q = ap (λ k. k * q) e in
    let f₁ : (p + d) * a ≡ (q + c) * a = ap (λ k. k * a) f in
    let f₂ : (p + d) * b ≡ (q + c) * b = ap (λ k. k * b) f in
    omega arith

pub dif-mul : (a b c d : ℕ) → dif a b *ℤ dif c d ≡ dif (a * c + b * d) (a * d + b * c)
dif-mul a b c d = same_in (dif a b *ℤ dif c d) (dif (a * c + b * d) (a * d + b * c)) (omega (
  arith,
  product_is (dif a b) (dif c d),
  product_parts (up (dif a b)) (down (dif a b)) (up (dif c d)) (down (dif c d)) a b c d (parts a b) (parts c d),
  parts (a * c + b * d) (a * d + b * c),
))

-- for `omega`: two differences are equal where this equation of natural numbers holds
pub dif-same : (a b c d : ℕ) → a + d ≡ c + b → dif a b ≡ dif c d
dif-same a b c d e = same_in (dif a b) (dif c d) (omega (arith, parts a b, parts c d))

-- makes a polynomial of differences one difference
pub ruleset difs = (dif-add, dif-neg, dif-mul, dif-pos, dif-negsuc)
