-- Tests of lists: membership, some element, and all numbers of a range.
use Rattle.std.proofs.Common.{◌≡◌, ◌≢◌, ◌<◌, ◌≤◌, ◌+◌, inl, inr, ℕ, zero, suc, Bool, true, false, ◌||◌, eqb, List, []}
use Rattle.std.proofs.Common.{◌∷◌, ◌++◌, Contains, refl, sym, ap, ◌∙◌, arith}
use Rattle.std.specs.List.{list_any, list_all, range_with_len}
use Rattle.std.proofs.lemmas.Bool.{eq-eqb, eqb-true, ne_eqb, or_cases, or_left, or_right, and_from, and_parts, cases_eq}
use Rattle.std.proofs.lemmas.Bool.{false≢true}
use Rattle.std.proofs.lemmas.List.Recursion.{or_push}
use Rattle.partition.specs.Growing.{is_in}

-- some element passes
pub list_any-from : {X : Type 0} (p : X → Bool) (xs : List X) (x : X) → Contains xs x → p x ≡ true →
    list_any p xs ≡ true
list_any-from p [] x (k, below, is) h = absurd (omega arith)
list_any-from p (y ∷ ys) x (zero, below, is) h = or_left (p y) (list_any p ys) (ap p is ∙ h)
list_any-from p (y ∷ ys) x (suc k, below, is) h =
    or_right (p y) (list_any p ys) (list_any-from p ys x (k, omega arith, is) h)

pub record Passes {X : Type 0} (p : X → Bool) (xs : List X) : Type 0 where
  pub item : X
  pub among : Contains xs item
  pub passes : p item ≡ true

pub list_any-true : {X : Type 0} (p : X → Bool) (xs : List X) → list_any p xs ≡ true → Passes p xs
list_any-true p [] h = absurd (false≢true h)
list_any-true p (x ∷ xs) h =
    elim (or_cases (p x) (list_any p xs) h) [
      | inl here ↦ record { item = x; among = (0, omega arith, refl); passes = here }
      | inr further ↦
          let found : Passes p xs = list_any-true p xs further in
          let is : Contains xs found.item = found.among in
          record { item = found.item; among = (suc is.0, omega (arith, is.1), is.2); passes = found.passes }
    ]

-- all numbers of a range pass
pub list_all-from : (p : ℕ → Bool) (a n : ℕ) → ((k : ℕ) → a ≤ k → k < a + n → p k ≡ true) →
    list_all p (range_with_len a n) ≡ true
list_all-from p a zero each = refl
list_all-from p a (suc n) each =
    and_from (p a) (list_all p (range_with_len (a + 1) n)) (each a (omega arith) (omega arith))
    (list_all-from p (a + 1) n (λ k above below. each k (omega arith) (omega arith)))

pub list_all-at : (p : ℕ → Bool) (a n : ℕ) → list_all p (range_with_len a n) ≡ true → (k : ℕ) → a ≤ k → k < a + n →
    p k ≡ true
list_all-at p a zero all k above below = absurd (omega arith)
list_all-at p a (suc n) all k above below =
    let parts = and_parts (p a) (list_all p (range_with_len (a + 1) n)) all in
    elim (cases_eq a k) [
      | inl same ↦ ap p (sym same) ∙ parts.0
      | inr other ↦
          let after : a + 1 ≤ k = omega arith in
          list_all-at p (a + 1) n parts.1 k after (omega arith)
    ]

-- membership
pub is_in-from : (xs : List ℕ) (x : ℕ) → Contains xs x → is_in xs x ≡ true
is_in-from xs x is = list_any-from (λ y. eqb y x) xs x is (eq-eqb x x refl)

pub is_in-true : (xs : List ℕ) (x : ℕ) → is_in xs x ≡ true → Contains xs x
is_in-true xs x h =
    let found : Passes (λ y. eqb y x) xs = list_any-true (λ y. eqb y x) xs h in
    let same : found.item ≡ x = eqb-true found.item x found.passes in
    rw same at found.among

pub is_in-push : (xs : List ℕ) (y x : ℕ) → is_in (xs ++ y ∷ []) x ≡ (is_in xs x || eqb y x)
is_in-push xs y x = or_push (list_any (λ z. eqb z x)) (λ z. eqb z x) refl (λ _ _. refl) xs y

pub is_in-push_same : (xs : List ℕ) (x : ℕ) → is_in (xs ++ x ∷ []) x ≡ true
is_in-push_same xs x = is_in-push xs x x ∙ or_right (is_in xs x) (eqb x x) (eq-eqb x x refl)

pub is_in-push_other : (xs : List ℕ) (y x : ℕ) → y ≢ x → is_in (xs ++ y ∷ []) x ≡ is_in xs x
is_in-push_other xs y x other = is_in-push xs y x ∙ ap (λ b. is_in xs x || b) (ne_eqb y x other) ∙ or_false (is_in xs x)
  where
    or_false : (b : Bool) → (b || false) ≡ b
    or_false true = refl
    or_false false = refl
