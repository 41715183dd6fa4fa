-- Lists by page: what a write leaves at each page, and how many items pass a test after it.
use Rattle.std.proofs.Common.{◌≡◌, ℕ, zero, suc, ◌+◌, ◌≤◌, ◌<◌, List, [], ◌∷◌, Bool, true, false, cond, ◌⊎◌, inl, inr}
use Rattle.std.proofs.Common.{⊎_elim, get_or, set, length, refl, ap, arith}
use Rattle.std.specs.List.{count_by}
use Rattle.std.proofs.lemmas.Bool.{cases_lt}
use Rattle.std.proofs.lemmas.List.{set_past}
use Rattle.std.proofs.lemmas.List.Sums.{sum_by-set}

-- after a write a place has what it had, or it is the place written
pub get_or-set_cases : {X : Type 0} (xs : List X) (i j : ℕ) (v d : X) →
    (get_or (set xs i v) j d ≡ get_or xs j d) ⊎ ((j ≡ i) × (get_or (set xs i v) j d ≡ v))
get_or-set_cases [] i j v d = inl refl
get_or-set_cases (x ∷ xs) zero zero v d = inr (refl, refl)
get_or-set_cases (x ∷ xs) zero (suc j) v d = inl refl
get_or-set_cases (x ∷ xs) (suc i) zero v d = inl refl
get_or-set_cases (x ∷ xs) (suc i) (suc j) v d =
    ⊎_elim (λ same. inl same) (λ here. inr (ap suc here.0, here.1)) (get_or-set_cases xs i j v d)

abbrev one : Bool → ℕ
one b = cond b 1 0

one-most : (b : Bool) → one b ≤ 1
one-most true = omega arith
one-most false = omega arith

one-none : (b : Bool) → b ≡ false → one b ≡ 0
one-none true h = cc
one-none false h = refl

one-some : (b : Bool) → b ≡ true → one b ≡ 1
one-some true h = refl
one-some false h = cc

-- an item that passes, where the default doesn't, stands at a place of the list
pub place-within : {X : Type 0} (test : X → Bool) (xs : List X) (i : ℕ) (d : X) → test d ≡ false →
    test (get_or xs i d) ≡ true → i < length xs
place-within test [] i d past passes = cc
place-within test (x ∷ xs) zero d past passes = omega arith
place-within test (x ∷ xs) (suc i) d past passes = omega (arith, place-within test xs i d past passes)

-- a write adds at most one to those that pass
pub count_by-set_up : {X : Type 0} (test : X → Bool) (xs : List X) (i : ℕ) (v : X) →
    count_by test (set xs i v) ≤ count_by test xs + 1
count_by-set_up test xs i v =
    ⊎_elim
    (λ lt. omega (arith, sum_by-set (λ x. one (test x)) xs i v v lt, one-most (test v)))
    (λ past. let same : count_by test (set xs i v) ≡ count_by test xs = ap (count_by test) (set_past xs i v past) in
    omega arith)
    (cases_lt i (length xs))

-- a write of an item that doesn't pass adds none
pub count_by-set_down : {X : Type 0} (test : X → Bool) (xs : List X) (i : ℕ) (v : X) → test v ≡ false →
    count_by test (set xs i v) ≤ count_by test xs
count_by-set_down test xs i v fails =
    let none = one-none (test v) fails in
    ⊎_elim
    (λ lt. omega (arith, sum_by-set (λ x. one (test x)) xs i v v lt))
    (λ past. let same : count_by test (set xs i v) ≡ count_by test xs = ap (count_by test) (set_past xs i v past) in
    omega arith)
    (cases_lt i (length xs))

-- over one that passes it takes one away
pub count_by-set_gone : {X : Type 0} (test : X → Bool) (xs : List X) (i : ℕ) (v d : X) → test v ≡ false →
    test d ≡ false → test (get_or xs i d) ≡ true → count_by test (set xs i v) + 1 ≡ count_by test xs
count_by-set_gone test xs i v d fails past passes =
    let none = one-none (test v) fails in
    let some = one-some (test (get_or xs i d)) passes in
    omega (arith, sum_by-set (λ x. one (test x)) xs i v d (place-within test xs i d past passes))
