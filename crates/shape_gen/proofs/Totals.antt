-- Sums of whole numbers over a list, and over the numbers of a range.
use Rattle.std.proofs.Common.{◌≡◌, ℕ, zero, suc, ◌+◌, ℤ, pos, ◌+ℤ◌, ◌-ℤ◌, neg_ℤ, List, [], ◌∷◌, ◌++◌, map, flat_map}
use Rattle.std.proofs.Common.{refl, ap, arith}
use Rattle.std.proofs.lemmas.Int.{ints}
use Rattle.std.specs.List.{range_with_len}

abbrev pub total : {X : Type 0} → (X → ℤ) → List X → ℤ
total g [] = pos 0
total g (x ∷ xs) = g x +ℤ total g xs

pub total-same : {X : Type 0} (f g : X → ℤ) → ((x : X) → f x ≡ g x) → (xs : List X) → total f xs ≡ total g xs
total-same f g same [] = refl
total-same f g same (x ∷ xs) = omega (arith, ints, same x, total-same f g same xs)

pub total-append : {X : Type 0} (g : X → ℤ) (xs ys : List X) → total g (xs ++ ys) ≡ total g xs +ℤ total g ys
total-append g [] ys = omega (arith, ints)
total-append g (x ∷ xs) ys = omega (arith, ints, total-append g xs ys)

pub total-map : {X Y : Type 0} (g : Y → ℤ) (f : X → Y) (xs : List X) → total g (map f xs) ≡ total (λ x. g (f x)) xs
total-map g f [] = refl
total-map g f (x ∷ xs) = omega (arith, ints, total-map g f xs)

pub total-flat_map : {X Y : Type 0} (g : Y → ℤ) (f : X → List Y) (xs : List X) →
    total g (flat_map f xs) ≡ total (λ x. total g (f x)) xs
total-flat_map g f [] = refl
total-flat_map g f (x ∷ xs) = omega (arith, ints, total-append g (f x) (flat_map f xs), total-flat_map g f xs)

pub total-difference : {X : Type 0} (f g : X → ℤ) (xs : List X) →
    total (λ x. f x -ℤ g x) xs ≡ total f xs -ℤ total g xs
total-difference f g [] = omega (arith, ints)
total-difference f g (x ∷ xs) = omega (arith, ints, total-difference f g xs)

pub total-negated : {X : Type 0} (f : X → ℤ) (xs : List X) → total (λ x. neg_ℤ (f x)) xs ≡ neg_ℤ (total f xs)
total-negated f [] = refl
total-negated f (x ∷ xs) = omega (arith, ints, total-negated f xs)

-- the differences of neighbours add up to the difference of the ends
telescoped_from : (k t : ℕ → ℤ) (a m : ℕ) → total (λ q. k q +ℤ (t (q + 1) -ℤ t q)) (range_with_len a m) ≡
    total k (range_with_len a m) +ℤ (t (a + m) -ℤ t a)
telescoped_from k t a zero =
    let end : t (a + 0) ≡ t a = ap t (omega arith) in
    omega (arith, ints)
telescoped_from k t a (suc m) =
    let end : t (a + 1 + m) ≡ t (a + suc m) = ap t (omega arith) in
    omega (arith, ints, telescoped_from k t (a + 1) m)

pub telescoped : (k t : ℕ → ℤ) (n : ℕ) → total (λ q. k q +ℤ (t (q + 1) -ℤ t q)) (range_with_len 0 n) ≡
    total k (range_with_len 0 n) +ℤ (t n -ℤ t 0)
telescoped k t n =
    let end : t (0 + n) ≡ t n = ap t (omega arith) in
    omega (arith, ints, telescoped_from k t 0 n)
