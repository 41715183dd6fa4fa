-- What a queue has after a push or a pop.
use Rattle.std.proofs.Common.{◌≡◌, ◌<◌, ◌⊎◌, inl, inr, ℕ, zero, suc, List, ◌∷◌, length, Contains, refl, sym, arith}
use Rattle.std.specs.List.Sorted.{IsPermutation}
use Rattle.std.proofs.lemmas.List.Sorted.{Contains-permutation, IsPermutation-sym, length_permutation}

Contains-head : (x : ℕ) (xs : List ℕ) → Contains (x ∷ xs) x
Contains-head x xs = (0, omega arith, refl)

Contains-tail : (x : ℕ) (xs : List ℕ) (y : ℕ) → Contains xs y → Contains (x ∷ xs) y
Contains-tail x xs y is = (suc is.0, omega (arith, is.1), is.2)

Contains-cons_cases : (x : ℕ) (xs : List ℕ) (y : ℕ) → Contains (x ∷ xs) y → (y ≡ x) ⊎ Contains xs y
Contains-cons_cases x xs y (zero, below, is) = inl (sym is)
Contains-cons_cases x xs y (suc k, below, is) = inr (k, omega arith, is)

-- a push
pub pushed : (x : ℕ) (old new : List ℕ) → IsPermutation (x ∷ old) new → Contains new x
pushed x old new is = Contains-permutation (x ∷ old) new x is (Contains-head x old)

pub kept_by_push : (x : ℕ) (old new : List ℕ) → IsPermutation (x ∷ old) new → (y : ℕ) → Contains old y → Contains new y
kept_by_push x old new is y h = Contains-permutation (x ∷ old) new y is (Contains-tail x old y h)

pub in_pushed : (x : ℕ) (old new : List ℕ) → IsPermutation (x ∷ old) new → (y : ℕ) → Contains new y →
    (y ≡ x) ⊎ Contains old y
in_pushed x old new is y h =
    Contains-cons_cases x old y (Contains-permutation new (x ∷ old) y (IsPermutation-sym (x ∷ old) new is) h)

-- a pop
pub popped : (x : ℕ) (old new : List ℕ) → IsPermutation old (x ∷ new) → Contains old x
popped x old new is = pushed x new old (IsPermutation-sym old (x ∷ new) is)

pub kept_by_pop : (x : ℕ) (old new : List ℕ) → IsPermutation old (x ∷ new) → (y : ℕ) → Contains old y →
    (y ≡ x) ⊎ Contains new y
kept_by_pop x old new is = in_pushed x new old (IsPermutation-sym old (x ∷ new) is)

pub in_popped : (x : ℕ) (old new : List ℕ) → IsPermutation old (x ∷ new) → (y : ℕ) → Contains new y → Contains old y
in_popped x old new is = kept_by_push x new old (IsPermutation-sym old (x ∷ new) is)

pub shorter : (x : ℕ) (old new : List ℕ) → IsPermutation old (x ∷ new) → length new < length old
shorter x old new is = omega (arith, length_permutation old (x ∷ new) is)
