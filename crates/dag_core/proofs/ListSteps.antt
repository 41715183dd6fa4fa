-- Lists of numbers that grow by one: filters, sums and searches of a range.
use Rattle.std.proofs.Common.{◌≡◌, ◌<◌, ◌+◌, ℕ, Bool, true, false, ◌&&◌, ◌||◌, cond, List, [], ◌∷◌, ◌++◌, get_or}
use Rattle.std.proofs.Common.{filter, sum_by, refl, sym, ap, ◌∙◌, arith, zero-add}
use Rattle.std.specs.List.{range_with_len, list_any}
use Rattle.std.proofs.lemmas.List.{map-id}
use Rattle.std.proofs.lemmas.List.Elements.{filter-append}
use Rattle.std.proofs.lemmas.List.Folds.{Any-from_list_any, list_any-append, list_any_at}
use Rattle.std.proofs.lemmas.List.FromFn.{get_or-range_with_len, length-range_with_len, map-range_with_len_more}
use Rattle.std.proofs.lemmas.List.Sums.{sum_by-append}

pub range_more : (n : ℕ) → range_with_len 0 (n + 1) ≡ range_with_len 0 n ++ n ∷ []
range_more n =
    sym (map-id (range_with_len 0 (n + 1)))
    ∙ (map-range_with_len_more (λ k. k) 0 n n (zero-add n)
    ∙ ap (λ xs. xs ++ n ∷ []) (map-id (range_with_len 0 n)))

or_none : (b : Bool) → (b || false) ≡ b
or_none true = refl
or_none false = refl

-- a search of one more number
pub list_any-more : (test : ℕ → Bool) (n : ℕ) →
    list_any test (range_with_len 0 (n + 1)) ≡ (list_any test (range_with_len 0 n) || test n)
list_any-more test n =
    ap (list_any test) (range_more n)
    ∙ (list_any-append test (range_with_len 0 n) (n ∷ [])
    ∙ ap (λ b. list_any test (range_with_len 0 n) || b) (or_none (test n)))

-- a sum over the numbers that pass a test, of one more number
pub sum_of_filter-more : (weight : ℕ → ℕ) (test : ℕ → Bool) (n : ℕ) →
    sum_by weight (filter test (range_with_len 0 (n + 1))) ≡ sum_by weight (filter test (range_with_len 0 n)) + cond
    (test n) (weight n) 0
sum_of_filter-more weight test n =
    ap (λ xs. sum_by weight (filter test xs)) (range_more n)
    ∙ (ap (sum_by weight) (filter-append test (range_with_len 0 n) (n ∷ []))
    ∙ (sum_by-append weight (filter test (range_with_len 0 n)) (filter test (n ∷ []))
    ∙ ap (λ k. sum_by weight (filter test (range_with_len 0 n)) + k) (of_one (test n))))
  where
    of_one : (b : Bool) → sum_by weight (cond b (n ∷ []) []) ≡ cond b (weight n) 0
    of_one true = zero-add (weight n)
    of_one false = refl

-- a search of what a filter leaves
pub list_any-filter : {X : Type 0} (test keep : X → Bool) (xs : List X) →
    list_any test (filter keep xs) ≡ list_any (λ x. keep x && test x) xs
list_any-filter {X} test keep [] = refl
list_any-filter {X} test keep (x ∷ xs) =
    at (keep x) (filter keep xs) ∙ ap (λ rest. (keep x && test x) || rest) (list_any-filter test keep xs)
  where
    at : (b : Bool) (rest : List X) → list_any test (cond b (x ∷ rest) rest) ≡ ((b && test x) || list_any test rest)
    at true rest = refl
    at false rest = refl

-- a test passes at a number of a range
pub range_any : (test : ℕ → Bool) (n k : ℕ) → k < n → test k ≡ true → list_any test (range_with_len 0 n) ≡ true
range_any test n k below passes =
    let len = length-range_with_len 0 n in
    let here : get_or (range_with_len 0 n) k 0 ≡ k = get_or-range_with_len 0 n k 0 below ∙ zero-add k in
    list_any_at test (range_with_len 0 n) k 0 (omega arith) (ap test here ∙ passes)

-- a number of a range at which a test passes
pub record Passes (test : ℕ → Bool) (n : ℕ) : Type 0 where
  pub number : ℕ
  pub below : number < n
  pub passes : test number ≡ true

pub range_found : (test : ℕ → Bool) (n : ℕ) → list_any test (range_with_len 0 n) ≡ true → Passes test n
range_found test n any =
    let found = Any-from_list_any test (range_with_len 0 n) any in
    let len = length-range_with_len 0 n in
    let below : found.0 < n = omega (arith, found.2) in
    let here : found.1 ≡ found.0 = sym found.3 ∙ (get_or-range_with_len 0 n found.0 found.1 below ∙ zero-add found.0) in
    record { number = found.0; below = below; passes = ap test (sym here) ∙ found.4 }

pub same_bools : (a b : Bool) → (a ≡ true → b ≡ true) → (b ≡ true → a ≡ true) → a ≡ b
same_bools true true to from = refl
same_bools false false to from = refl
same_bools true false to from = sym (to refl)
same_bools false true to from = from refl
