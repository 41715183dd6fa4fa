-- Lists of triangles that are alike but for their order.
use Rattle.std.proofs.Common.{◌≡◌, ℕ, ◌+◌, ◌<◌, Bool, true, false, not, ◌&&◌, ◌||◌, cond, List, [], ◌∷◌}
use Rattle.std.proofs.Common.{sum_by, refl, sym, ap, ◌∙◌, arith}
use Rattle.std.specs.List.{list_all, list_any}
use Rattle.std.specs.Prelude.{nat_lt}
use Rattle.std.proofs.lemmas.Bool.Decides.{nat_tests}
use Rattle.std.proofs.lemmas.List.Sums.{sum_by-cons}
use Rattle.geom_core.specs.declared.triangles.Tri.{Tri}

-- two lists of triangles with the same sums of every function: one is the other in some order
abbrev pub AreAlike : List Tri → List Tri → Type 0
AreAlike xs ys = (f : Tri → ℕ) → sum_by f xs ≡ sum_by f ys

-- a test finds as many in both
any-count : (p : Tri → Bool) (xs : List Tri) → list_any p xs ≡ nat_lt 0 (sum_by (λ t. cond (p t) 1 0) xs)
any-count p [] = refl
any-count p (t ∷ xs) =
    step (p t) (any-count p xs) ∙ sym (ap (nat_lt 0) (sum_by-cons (λ u. cond (p u) 1 0) t xs))
  where
    some : (n : ℕ) → 0 < n → nat_lt 0 n ≡ true
    some n h = grind (arith, nat_tests)

    none : (n : ℕ) → n ≡ 0 + n
    none n = omega arith

    step : (x : Bool) → list_any p xs ≡ nat_lt 0 (sum_by (λ u. cond (p u) 1 0) xs) →
        (x || list_any p xs) ≡ nat_lt 0 (cond x 1 0 + sum_by (λ u. cond (p u) 1 0) xs)
    step true h = sym (some (1 + sum_by (λ u. cond (p u) 1 0) xs) (omega arith))
    step false h = h ∙ ap (nat_lt 0) (none (sum_by (λ u. cond (p u) 1 0) xs))

pub any-alike : (p : Tri → Bool) (xs ys : List Tri) → AreAlike xs ys → list_any p xs ≡ list_any p ys
any-alike p xs ys alike =
    any-count p xs ∙ ap (nat_lt 0) (alike (λ t. cond (p t) 1 0)) ∙ sym (any-count p ys)

all-is : (p : Tri → Bool) (xs : List Tri) → list_all p xs ≡ not (list_any (λ t. not (p t)) xs)
all-is p [] = refl
all-is p (t ∷ xs) = by (p t) (all-is p xs)
  where
    by : (x : Bool) → list_all p xs ≡ not (list_any (λ u. not (p u)) xs) →
        (x && list_all p xs) ≡ not (not x || list_any (λ u. not (p u)) xs)
    by true h = h
    by false h = refl

pub all-alike : (p : Tri → Bool) (xs ys : List Tri) → AreAlike xs ys → list_all p xs ≡ list_all p ys
all-alike p xs ys alike =
    all-is p xs ∙ ap not (any-alike (λ t. not (p t)) xs ys alike) ∙ sym (all-is p ys)
