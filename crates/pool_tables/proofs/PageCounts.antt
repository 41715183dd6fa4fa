-- How many numbers of a range pass a test, also once the test changes at one of them.
use Rattle.std.proofs.Common.{◌≡◌, ◌≢◌, ℕ, zero, suc, ◌+◌, ◌<◌, ◌≤◌, ◌==◌, nat_le, List, [], ◌∷◌, Bool, true, false}
use Rattle.std.proofs.Common.{not, cond, ◌||◌, ◌&&◌, ⊎_elim, refl, ap, ◌∙◌, arith, eq-eqb}
use Rattle.std.specs.List.{count_by, list_any, range_with_len}
use Rattle.std.proofs.lemmas.Bool.{cases_eq}
use Rattle.std.proofs.lemmas.List.Sums.{sum_by-cons}
use Rattle.journal.specs.Layout.{ascends_from}
use Rattle.pool_rules.specs.Numbers.{is_among}
use Rattle.pool_rules.proofs.Tests.{and-both}
use Rattle.pool_tables.specs.Changes.{times}
use Rattle.pool_tables.proofs.Apart.{ne-eqb}
use Rattle.pool_tables.proofs.AscendingNumbers.{low-among}

abbrev pub one : Bool → ℕ
one b = cond b 1 0

count-cons : (test : ℕ → Bool) (number : ℕ) (numbers : List ℕ) →
    count_by test (number ∷ numbers) ≡ one (test number) + count_by test numbers
count-cons test number numbers = sum_by-cons (λ n. one (test n)) number numbers

count-more : (test : ℕ → Bool) (a n : ℕ) →
    count_by test (range_with_len a (suc n)) ≡ one (test a) + count_by test (range_with_len (a + 1) n)
count-more test a n = count-cons test a (range_with_len (a + 1) n)

-- tests that agree on the range count as many
pub count-same : (f g : ℕ → Bool) (a n : ℕ) → ((q : ℕ) → a ≤ q → g q ≡ f q) →
    count_by g (range_with_len a n) ≡ count_by f (range_with_len a n)
count-same f g a zero same = refl
count-same f g a (suc n) same =
    let here : one (g a) ≡ one (f a) = ap one (same a (omega arith)) in
    let rest = count-same f g (a + 1) n (λ q le. same q (omega (arith, le))) in
    omega (arith, here, rest, count-more f a n, count-more g a n)

-- tests that agree on all numbers but one, which is in the range
pub count-changed : (f g : ℕ → Bool) (a n page : ℕ) → a ≤ page → page < a + n →
    ((q : ℕ) → q ≢ page → g q ≡ f q) →
    count_by g (range_with_len a n) + one (f page) ≡ count_by f (range_with_len a n) + one (g page)
count-changed f g a zero page from below same = absurd (omega (arith, from, below))
count-changed f g a (suc n) page from below same =
    ⊎_elim
    (λ here.
    let f_here : one (f a) ≡ one (f page) = ap (λ q. one (f q)) here in
    let g_here : one (g a) ≡ one (g page) = ap (λ q. one (g q)) here in
    let rest = count-same f g (a + 1) n (λ q le. same q (λ e. omega (arith, here, le, e))) in
    omega (arith, f_here, g_here, rest, count-more f a n, count-more g a n))
    (λ other.
    let here : one (g a) ≡ one (f a) = ap one (same a other) in
    let rest = count-changed f g (a + 1) n page (omega (arith, from, other)) (omega (arith, below)) same in
    omega (arith, here, rest, count-more f a n, count-more g a n))
    (cases_eq a page)

-- one number of the range that passes is counted
pub count-least : (f : ℕ → Bool) (a n page : ℕ) → a ≤ page → page < a + n →
    one (f page) ≤ count_by f (range_with_len a n)
count-least f a n page from below =
    let g = λ (q : ℕ). f q && not (q == page) in
    let none : one (g page) ≡ 0 = ap one (ap (λ b. f page && not b) (eq-eqb page page refl) ∙ and-false (f page)) in
    let changed = count-changed f g a n page from below (λ q other.
    ap (λ b. f q && not b) (ne-eqb q page other) ∙ and-true (f q)) in
    omega (arith, none, changed)
  where
    and-false : (b : Bool) → (b && false) ≡ false
    and-false true = refl
    and-false false = refl

    and-true : (b : Bool) → (b && true) ≡ b
    and-true true = refl
    and-true false = refl

pub count-none : (test : ℕ → Bool) (numbers : List ℕ) → (count_by test numbers == 0) ≡ not (list_any test numbers)
count-none test [] = refl
count-none test (n ∷ numbers) =
    ap (λ m. m == 0) (count-cons test n numbers)
    ∙ none-more (test n) (count_by test numbers) (list_any test numbers) (count-none test numbers)
  where
    none-more : (b : Bool) (count : ℕ) (any : Bool) → (count == 0) ≡ not any → (one b + count == 0) ≡ not (b || any)
    none-more true count any same = ne-eqb (1 + count) 0 (λ e. omega (arith, e))
    none-more false count any same = let e : 0 + count ≡ count = omega arith in ap (λ m. m == 0) e ∙ same

-- numbers before which none passes
pub any-from : (test : ℕ → Bool) (a k n : ℕ) → ((q : ℕ) → q < a + k → test q ≡ false) →
    list_any test (range_with_len a (k + n)) ≡ list_any test (range_with_len (a + k) n)
any-from test a zero n fails =
    let none : 0 + n ≡ n = omega arith in
    let e : a ≡ a + 0 = omega arith in
    ap (λ m. list_any test (range_with_len a m)) none ∙ ap (λ m. list_any test (range_with_len m n)) e
any-from test a (suc k) n fails =
    let e : a + 1 + k ≡ a + suc k = omega arith in
    let more : suc k + n ≡ suc (k + n) = omega arith in
    ap (λ m. list_any test (range_with_len a m)) more
    ∙ (ap (λ b. b || list_any test (range_with_len (a + 1) (k + n))) (fails a (omega arith))
    ∙ (any-from test (a + 1) k n (λ q lt. fails q (omega (arith, lt)))
    ∙ ap (λ m. list_any test (range_with_len m n)) e))

-- a number is at most once among numbers that ascend
pub times-ascending : (low : ℕ) (numbers : List ℕ) (number : ℕ) → ascends_from low numbers ≡ true →
    times numbers number ≡ one (is_among numbers number)
times-ascending low [] number up = refl
times-ascending low (n ∷ numbers) number up =
    let parts = and-both (nat_le low n) (ascends_from (n + 1) numbers) up in
    let rest = times-ascending (n + 1) numbers number parts.1 in
    let more = count-cons (λ m. m == number) n numbers in
    ⊎_elim
    (λ here.
    let head : one (n == number) ≡ 1 = ap one (eq-eqb n number here) in
    let whole : one ((n == number) || is_among numbers number) ≡ 1 =
    ap (λ b. one (b || is_among numbers number)) (eq-eqb n number here) in
    let none : one (is_among numbers number) ≡ 0 =
    ap one (no-more n number numbers here parts.1 (is_among numbers number) refl) in
    omega (arith, more, rest, head, whole, none))
    (λ other.
    let head : one (n == number) ≡ 0 = ap one (ne-eqb n number other) in
    let whole : one ((n == number) || is_among numbers number) ≡ one (is_among numbers number) =
    ap (λ b. one (b || is_among numbers number)) (ne-eqb n number other) in
    omega (arith, more, rest, head, whole))
    (cases_eq n number)
  where
    no-more : (n number : ℕ) (numbers : List ℕ) → n ≡ number → ascends_from (n + 1) numbers ≡ true → (b : Bool) →
        is_among numbers number ≡ b → is_among numbers number ≡ false
    no-more n number numbers here up true among =
        absurd (omega (arith, here, low-among (n + 1) numbers number up among))
    no-more n number numbers here up false absent = absent
