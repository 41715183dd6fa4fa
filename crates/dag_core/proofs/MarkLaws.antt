-- Marked numbers: filters of a range, what is in them, and that they ascend.
use Rattle.std.proofs.Common.{◌≡◌, ◌==◌, ◌<◌, ◌≤◌, ◌+◌, ℕ, zero, suc, Bool, true, false, ◌&&◌, cond, List, [], ◌∷◌}
use Rattle.std.proofs.Common.{◌++◌, length, get_or, filter, Result, Ok, Err, MatchResult, is_ok, ap, sym, ◌∙◌, refl}
use Rattle.std.proofs.Common.{arith, subst, inl, inr, append-nil}
use Rattle.std.specs.List.{range_with_len}
use Rattle.std.specs.List.Sorted.{IsBinarySearchResult, IsStrictlyIncreasing}
use Rattle.std.specs.Ordering.{nat_cmp}
use Rattle.std.proofs.lemmas.Bool.{and_parts, and_from, cases_lt}
use Rattle.std.proofs.lemmas.Bool.Decides.{nat_tests}
use Rattle.std.proofs.lemmas.List.Elements.{filter-append, All-from_get_or}
use Rattle.std.proofs.lemmas.List.Folds.{list_any_at, list_any_none}
use Rattle.std.proofs.lemmas.List.FromFn.{get_or-range_with_len, length-range_with_len}
use Rattle.std.proofs.lemmas.List.Kept.{AllPairs-from_increasing, IsStrictlyIncreasing-filter}
use Rattle.std.proofs.lemmas.List.Sorted.{searched}
use Rattle.dag_core.specs.PageSets.{has_page}
use Rattle.dag_core.specs.Internal.Marks.{is_marked, marked_of}
use Rattle.dag_core.proofs.ListSteps.{list_any-filter, range_any, range_found, range_more}

-- ---- filters of a range

-- one more number
pub filter_more : (f : ℕ → Bool) (n : ℕ) →
    filter f (range_with_len 0 (n + 1)) ≡ filter f (range_with_len 0 n) ++ cond (f n) (n ∷ []) []
filter_more f n = ap (filter f) (range_more n) ∙ filter-append f (range_with_len 0 n) (n ∷ [])

pub filter_same : (f g : ℕ → Bool) (n : ℕ) → ((k : ℕ) → k < n → f k ≡ g k) →
    filter f (range_with_len 0 n) ≡ filter g (range_with_len 0 n)
filter_same f g zero same = refl
filter_same f g (suc n) same =
    let e : suc n ≡ n + 1 = omega arith in
    subst (λ m. filter f (range_with_len 0 m) ≡ filter g (range_with_len 0 m)) (sym e) (filter_more f n
    ∙ (ap (λ xs. xs ++ cond (f n) (n ∷ []) []) (filter_same f g n (λ k below. same k (omega arith)))
    ∙ (ap (λ b. filter g (range_with_len 0 n) ++ cond b (n ∷ []) []) (same n (omega arith))
    ∙ sym (filter_more g n))))

-- a loop's step, where the next number passes and where it doesn't
pub filter_step : (f : ℕ → Bool) (n : ℕ) (xs : List ℕ) → xs ≡ filter f (range_with_len 0 n) → f n ≡ true →
    xs ++ n ∷ [] ≡ filter f (range_with_len 0 (n + 1))
filter_step f n xs before passes =
    ap (λ ys. ys ++ n ∷ []) before
    ∙ (ap (λ b. filter f (range_with_len 0 n) ++ cond b (n ∷ []) []) (sym passes)
    ∙ sym (filter_more f n))

pub filter_skip : (f : ℕ → Bool) (n : ℕ) (xs : List ℕ) → xs ≡ filter f (range_with_len 0 n) → f n ≡ false →
    xs ≡ filter f (range_with_len 0 (n + 1))
filter_skip f n xs before fails =
    before
    ∙ (sym (append-nil (filter f (range_with_len 0 n)))
    ∙ (ap (λ b. filter f (range_with_len 0 n) ++ cond b (n ∷ []) []) (sym fails)
    ∙ sym (filter_more f n)))

same_number : (p : ℕ) → (p == p) ≡ true
same_number p = grind (arith, nat_tests)

is_same : (q p : ℕ) → (q == p) ≡ true → q ≡ p
is_same q p same = grind (arith, nat_tests)

-- what is in a filter of a range
pub filter_has : (f : ℕ → Bool) (n p : ℕ) → p < n → f p ≡ true → has_page (filter f (range_with_len 0 n)) p ≡ true
filter_has f n p below passes =
    list_any-filter (λ q. q == p) f (range_with_len 0 n)
    ∙ range_any (λ q. f q && q == p) n p below (and_from (f p) (p == p) passes (same_number p))

pub filter_from : (f : ℕ → Bool) (n p : ℕ) → has_page (filter f (range_with_len 0 n)) p ≡ true → (p < n) × (f p ≡ true)
filter_from f n p has =
    let found = range_found (λ q. f q && q == p) n (sym (list_any-filter (λ q. q == p) f (range_with_len 0 n)) ∙ has) in
    let both = and_parts (f found.number) (found.number == p) found.passes in
    let same = is_same found.number p both.1 in
    (subst (λ q. q < n) same found.below, subst (λ q. f q ≡ true) same both.0)

range_ascends : (n : ℕ) → IsStrictlyIncreasing (range_with_len 0 n)
range_ascends n = λ k next.
    let count = length-range_with_len 0 n in
    let here = get_or-range_with_len 0 n k 0 (omega arith) in
    let there = get_or-range_with_len 0 n (k + 1) 0 (omega arith) in
    omega arith

pub filter_ascends : (f : ℕ → Bool) (n : ℕ) → IsStrictlyIncreasing (filter f (range_with_len 0 n))
filter_ascends f n = IsStrictlyIncreasing-filter f (range_with_len 0 n) (range_ascends n)

-- ---- marks

-- the marked numbers, where each mark is a function's value
pub marked_is : (f : ℕ → Bool) (marks : List Bool) (n : ℕ) → length marks ≡ n → ((k : ℕ) → is_marked marks k ≡ f k) →
    marked_of marks ≡ filter f (range_with_len 0 n)
marked_is f marks n count each =
    ap (λ m. filter (is_marked marks) (range_with_len 0 m)) count ∙
    filter_same (is_marked marks) f n (λ k below. each k)

-- ---- a search of pages that ascend

rising : (pages : List ℕ) → IsStrictlyIncreasing pages → (i j : ℕ) → i ≤ j → j < length pages →
    get_or pages i 0 ≤ get_or pages j 0
rising pages ascend i j before below = elim (cases_lt i j) [
  | inl less ↦ let lt = AllPairs-from_increasing pages ascend i j 0 less below in omega arith
  | inr not_less ↦ let e : i ≡ j = omega arith in rw e (omega arith)
]

pub has_page-searched : (pages : List ℕ) (page : ℕ) (r : Result ℕ ℕ) → IsStrictlyIncreasing pages →
    IsBinarySearchResult (λ y. nat_cmp y page) pages r → is_ok r ≡ has_page pages page
has_page-searched pages page r ascend search = told r (searched pages page r search (rising pages ascend))
  where
    apart : (k i : ℕ) → k < length pages → ((k : ℕ) → k < i → get_or pages k 0 < page) →
        ((k : ℕ) → i ≤ k → k < length pages → page < get_or pages k 0) → (get_or pages k 0 == page) ≡ false
    apart k i within below above = elim (cases_lt k i) [
      | inl lt ↦ let less = below k lt in grind (arith, nat_tests)
      | inr ge ↦ let more = above k ge within in grind (arith, nat_tests)
    ]

    told : (r : Result ℕ ℕ) → MatchResult r (λ i. (i < length pages) × (get_or pages i 0 ≡ page))
        (λ i. (i ≤ length pages) × ((k : ℕ) → k < i → get_or pages k 0 < page) ×
        ((k : ℕ) → i ≤ k → k < length pages → page < get_or pages k 0)) → is_ok r ≡ has_page pages page
    told (Ok i) found =
        sym (list_any_at (λ q. q == page) pages i 0 found.0 (let same = found.1 in grind (arith, nat_tests)))
    told (Err i) gap =
        sym (list_any_none (λ q. q == page) pages
        (All-from_get_or (λ q. (q == page) ≡ false) pages 0 (λ k within. apart k i within gap.1 gap.2)))
