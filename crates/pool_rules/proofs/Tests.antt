-- Tests of several parts, and of the elements of a list.
use Rattle.std.proofs.Common.{◌≡◌, ℕ, ◌==◌, List, [], ◌∷◌, ◌++◌, map, Bool, true, false, not, cond, ◌&&◌, ◌||◌, ◌⊎◌}
use Rattle.std.proofs.Common.{inl, inr, ⊎_elim, Some, None, find, filter, refl, sym}
use Rattle.std.specs.List.{All, list_any, list_all}
use Rattle.std.proofs.lemmas.List.Elements.{All-nil, All-cons}
use Rattle.std.proofs.lemmas.Bool.Decides.{Decides-eqb}

pub and-both : (a b : Bool) → (a && b) ≡ true → (a ≡ true) × (b ≡ true)
and-both true b h = (refl, h)
and-both false b h = cc

pub both : (a b : Bool) → a ≡ true → b ≡ true → (a && b) ≡ true
both true b h k = k
both false b h k = cc

pub neither : (a b : Bool) → (a || b) ≡ false → (a ≡ false) × (b ≡ false)
neither true b h = cc
neither false b h = (refl, h)

pub not-false : (b : Bool) → not b ≡ true → b ≡ false
not-false true h = cc
not-false false h = refl

pub not-true : (b : Bool) → not b ≡ false → b ≡ true
not-true true h = refl
not-true false h = cc

pub or-cases : (a b : Bool) → (a || b) ≡ true → (a ≡ true) ⊎ (b ≡ true)
or-cases true b h = inl refl
or-cases false b h = inr h

pub or-left : (a b : Bool) → a ≡ true → (a || b) ≡ true
or-left true b h = refl
or-left false b h = cc

pub or-right : (a b : Bool) → b ≡ true → (a || b) ≡ true
or-right true b h = refl
or-right false b h = h

pub same-eqb : (a b : ℕ) → (a == b) ≡ true → a ≡ b
same-eqb a b h = (Decides-eqb a b).0 h

pub eqb-refl : (n : ℕ) → (n == n) ≡ true
eqb-refl n = (Decides-eqb n n).1 refl

-- each element passes, where all do
pub all-pass : (test : ℕ → Bool) (xs : List ℕ) → list_all test xs ≡ true → All (λ x. test x ≡ true) xs
all-pass test [] h = All-nil (λ x. test x ≡ true)
all-pass test (x ∷ xs) h =
    let parts = and-both (test x) (list_all test xs) h in
    All-cons (λ y. test y ≡ true) x xs parts.0 (all-pass test xs parts.1)

-- none passes, where not one does
pub all-fail : (test : ℕ → Bool) (xs : List ℕ) → list_any test xs ≡ false → All (λ x. test x ≡ false) xs
all-fail test [] h = All-nil (λ x. test x ≡ false)
all-fail test (x ∷ xs) h =
    let parts = neither (test x) (list_any test xs) h in
    All-cons (λ y. test y ≡ false) x xs parts.0 (all-fail test xs parts.1)

-- the first element that passes passes
pub find-passes : {X : Type 0} (test : X → Bool) (xs : List X) (x : X) → find test xs ≡ Some x → test x ≡ true
find-passes test [] x h = cc
find-passes {X} test (y ∷ ys) x h =
    elim (test y) as (λ b. test y ≡ b → cond b (Some y) (find test ys) ≡ Some x →
    test x ≡ true) [ true ↦ λ e k. cc | false ↦ λ e k. find-passes test ys x k ] refl h

-- what each element passes, the one that stands there passes
pub all-at_any : (test : ℕ → Bool) (xs : List ℕ) (x : ℕ) → list_all test xs ≡ true → list_any (λ y. y == x) xs ≡ true →
    test x ≡ true
all-at_any test [] x all any = cc
all-at_any test (y ∷ ys) x all any =
    let parts = and-both (test y) (list_all test ys) all in
    ⊎_elim (λ here. let e : y ≡ x = same-eqb y x here in cc) (λ later. all-at_any test ys x parts.1 later)
    (or-cases (y == x) (list_any (λ z. z == x) ys) any)

-- some element passes a weaker test too
pub any-weaker : {X : Type 0} (strong weak : X → Bool) (xs : List X) → ((x : X) → strong x ≡ true → weak x ≡ true) →
    list_any strong xs ≡ true → list_any weak xs ≡ true
any-weaker strong weak [] weakens h = h
any-weaker strong weak (x ∷ xs) weakens h =
    ⊎_elim
    (λ here. or-left (weak x) (list_any weak xs) (weakens x here))
    (λ later. or-right (weak x) (list_any weak xs) (any-weaker strong weak xs weakens later))
    (or-cases (strong x) (list_any strong xs) h)

-- what some element of a filter passes, some element of the list does
pub any-filter : {X : Type 0} (test kept : X → Bool) (xs : List X) → list_any test (filter kept xs) ≡ true →
    list_any test xs ≡ true
any-filter test kept [] h = h
any-filter {X} test kept (x ∷ xs) h =
    elim (kept x) as (λ b. list_any test (cond b (x ∷ filter kept xs) (filter kept xs)) ≡ true →
    list_any test (x ∷ xs) ≡ true) [
      | true ↦ λ k. ⊎_elim (λ here. or-left (test x) (list_any test xs) here)
          (λ later. or-right (test x) (list_any test xs) (any-filter test kept xs later))
          (or-cases (test x) (list_any test (filter kept xs)) k)
      | false ↦ λ k. or-right (test x) (list_any test xs) (any-filter test kept xs k)
    ] h

-- two answers that follow from each other are the same
pub same-bools : (a b : Bool) → (a ≡ true → b ≡ true) → (b ≡ true → a ≡ true) → a ≡ b
same-bools true true h k = refl
same-bools true false h k = sym (h refl)
same-bools false true h k = k refl
same-bools false false h k = refl

-- a number that is among others passes their test where all do, and makes some pass that it passes
pub any-among : (test : ℕ → Bool) (xs : List ℕ) (x : ℕ) → list_any (λ y. y == x) xs ≡ true → test x ≡ true →
    list_any test xs ≡ true
any-among test [] x among passes = cc
any-among test (y ∷ xs) x among passes =
    ⊎_elim
    (λ here. let same : y ≡ x = same-eqb y x here in or-left (test y) (list_any test xs) (rw same passes))
    (λ later. or-right (test y) (list_any test xs) (any-among test xs x later passes))
    (or-cases (y == x) (list_any (λ z. z == x) xs) among)

-- what passes stays in a filter that keeps it
pub any-filter_kept : {X : Type 0} (test kept : X → Bool) (xs : List X) → ((x : X) → test x ≡ true → kept x ≡ true) →
    list_any test xs ≡ true → list_any test (filter kept xs) ≡ true
any-filter_kept test kept [] keeps h = h
any-filter_kept {X} test kept (x ∷ xs) keeps h =
    elim (kept x) as (λ b. kept x ≡ b → list_any test (cond b (x ∷ filter kept xs) (filter kept xs)) ≡ true) [
      | true ↦ λ e. ⊎_elim (λ here. or-left (test x) (list_any test (filter kept xs)) here)
          (λ later. or-right (test x) (list_any test (filter kept xs)) (any-filter_kept test kept xs keeps later))
          (or-cases (test x) (list_any test xs) h)
      | false ↦ λ e. ⊎_elim (λ here. let yes = keeps x here in cc) (λ later. any-filter_kept test kept xs keeps later)
          (or-cases (test x) (list_any test xs) h)
    ] refl

-- what passes before it is changed passes after
pub any-map : {X Y : Type 0} (old : X → Bool) (new : Y → Bool) (change : X → Y) (xs : List X) →
    ((x : X) → old x ≡ true → new (change x) ≡ true) → list_any old xs ≡ true → list_any new (map change xs) ≡ true
any-map old new change [] keeps h = h
any-map old new change (x ∷ xs) keeps h =
    ⊎_elim
    (λ here. or-left (new (change x)) (list_any new (map change xs)) (keeps x here))
    (λ later. or-right (new (change x)) (list_any new (map change xs)) (any-map old new change xs keeps later))
    (or-cases (old x) (list_any old xs) h)

pub any-append_left : {X : Type 0} (test : X → Bool) (xs ys : List X) → list_any test xs ≡ true →
    list_any test (xs ++ ys) ≡ true
any-append_left test [] ys h = cc
any-append_left test (x ∷ xs) ys h =
    ⊎_elim (λ here. or-left (test x) (list_any test (xs ++ ys)) here)
    (λ later. or-right (test x) (list_any test (xs ++ ys)) (any-append_left test xs ys later))
    (or-cases (test x) (list_any test xs) h)

pub any-append_right : {X : Type 0} (test : X → Bool) (xs ys : List X) → list_any test ys ≡ true →
    list_any test (xs ++ ys) ≡ true
any-append_right test [] ys h = h
any-append_right test (x ∷ xs) ys h = or-right (test x) (list_any test (xs ++ ys)) (any-append_right test xs ys h)

-- where not all pass, one does not
pub one-fails : (test : ℕ → Bool) (xs : List ℕ) → list_all test xs ≡ false →
    (x : ℕ) × (list_any (λ y. y == x) xs ≡ true) × (test x ≡ false)
one-fails test [] h = cc
one-fails test (x ∷ xs) h =
    elim (test x) as (λ b. test x ≡ b → (b && list_all test xs) ≡ false →
    (y : ℕ) × (list_any (λ z. z == y) (x ∷ xs) ≡ true) × (test y ≡ false)) [
      | true ↦ λ e k. let rest = one-fails test xs k in
          (rest.0, or-right (x == rest.0) (list_any (λ z. z == rest.0) xs) rest.1, rest.2)
      | false ↦ λ e k. (x, or-left (x == x) (list_any (λ z. z == x) xs) (eqb-refl x), e)
    ] refl h

-- where none is found, none passes
pub find-none : {X : Type 0} (test : X → Bool) (xs : List X) → find test xs ≡ None → list_any test xs ≡ true → ⊥
find-none test [] h any = cc
find-none {X} test (x ∷ xs) h any =
    elim (test x) as (λ b. cond b (Some x) (find test xs) ≡ None → (b || list_any test xs) ≡ true →
    ⊥) [ true ↦ λ k a. cc | false ↦ λ k a. find-none test xs k a ] h any
