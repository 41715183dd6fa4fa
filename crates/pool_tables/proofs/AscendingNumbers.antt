-- Numbers that ascend: what a binary search finds among them, and which are after a place.
use Rattle.std.proofs.Common.{◌≡◌, ◌≢◌, ℕ, zero, suc, ◌+◌, ◌<◌, ◌≤◌, ◌==◌, nat_le, List, [], ◌∷◌, true, false, ⊎_elim}
use Rattle.std.proofs.Common.{Result, Ok, Err, length, get_or, drop, refl, sym, subst, arith, eq-eqb}
use Rattle.std.specs.List.Sorted.{IsBinarySearchResult}
use Rattle.std.specs.Ordering.{nat_cmp}
use Rattle.std.specs.Result.{MatchResult, is_ok}
use Rattle.std.proofs.lemmas.Bool.{cases_lt}
use Rattle.std.proofs.lemmas.Bool.Decides.{nat_tests}
use Rattle.std.proofs.lemmas.List.Sorted.{searched}
use Rattle.journal.specs.Layout.{ascends, ascends_from}
use Rattle.pool_rules.specs.Numbers.{is_among}
use Rattle.pool_rules.proofs.Tests.{and-both, or-cases, or-left, or-right, same-eqb}
use Rattle.pool_tables.proofs.Apart.{ne-eqb}

from-low : (low : ℕ) (numbers : List ℕ) (i : ℕ) → ascends_from low numbers ≡ true → i < length numbers →
    low ≤ get_or numbers i 0
from-low low [] i up within = absurd (omega (arith, within))
from-low low (n ∷ numbers) zero up within =
    grind (arith, nat_tests, (and-both (nat_le low n) (ascends_from (n + 1) numbers) up).0)
from-low low (n ∷ numbers) (suc i) up within =
    let parts = and-both (nat_le low n) (ascends_from (n + 1) numbers) up in
    let above : low ≤ n = grind (arith, nat_tests, parts.0) in
    omega (arith, above, from-low (n + 1) numbers i parts.1 (omega (arith, within)))

rising : (low : ℕ) (numbers : List ℕ) → ascends_from low numbers ≡ true → (i j : ℕ) → i ≤ j → j < length numbers →
    get_or numbers i 0 ≤ get_or numbers j 0
rising low [] up i j le within = absurd (omega (arith, within))
rising low (n ∷ numbers) up zero zero le within = omega arith
rising low (n ∷ numbers) up zero (suc j) le within =
    let parts = and-both (nat_le low n) (ascends_from (n + 1) numbers) up in
    omega (arith, from-low (n + 1) numbers j parts.1 (omega (arith, within)))
rising low (n ∷ numbers) up (suc i) zero le within = absurd (omega (arith, le))
rising low (n ∷ numbers) up (suc i) (suc j) le within =
    let parts = and-both (nat_le low n) (ascends_from (n + 1) numbers) up in
    rising (n + 1) numbers parts.1 i j (omega (arith, le)) (omega (arith, within))

-- a number at a place is among the numbers
pub among-at : (numbers : List ℕ) (i number : ℕ) → i < length numbers → get_or numbers i 0 ≡ number →
    is_among numbers number ≡ true
among-at [] i number within here = absurd (omega (arith, within))
among-at (n ∷ numbers) zero number within here = or-left (n == number) (is_among numbers number) (eq-eqb n number here)
among-at (n ∷ numbers) (suc i) number within here =
    or-right (n == number) (is_among numbers number) (among-at numbers i number (omega (arith, within)) here)

-- a number that is at no place is not among the numbers
pub not-among : (numbers : List ℕ) (number : ℕ) → ((i : ℕ) → i < length numbers → get_or numbers i 0 ≢ number) →
    is_among numbers number ≡ false
not-among [] number apart = refl
not-among (n ∷ numbers) number apart =
    let here : n ≢ number = apart 0 (omega arith) in
    rw (ne-eqb n number here) (not-among numbers number (λ i within. apart (suc i) (omega (arith, within))))

-- a binary search tells whether a number is among numbers that ascend
pub among-searched : (numbers : List ℕ) (number : ℕ) (r : Result ℕ ℕ) → ascends numbers ≡ true →
    IsBinarySearchResult (λ y. nat_cmp y number) numbers r → is_ok r ≡ is_among numbers number
among-searched numbers number r up search = told r (searched numbers number r search (rising 0 numbers up))
  where
    told : (r : Result ℕ ℕ) → MatchResult r (λ i. (i < length numbers) × (get_or numbers i 0 ≡ number))
        (λ i. (i ≤ length numbers) × ((k : ℕ) → k < i → get_or numbers k 0 < number)
        × ((k : ℕ) → i ≤ k → k < length numbers → number < get_or numbers k 0)) → is_ok r ≡ is_among numbers number
    told (Ok i) h = sym (among-at numbers i number h.0 h.1)
    told (Err i) h =
        sym (not-among numbers number (λ k within e.
        ⊎_elim (λ lt. omega (arith, h.1 k lt, e)) (λ ge. omega (arith, h.2 k ge within, e)) (cases_lt k i)))

-- numbers that ascend from a lowest one on are not below it
pub low-among : (low : ℕ) (numbers : List ℕ) (q : ℕ) → ascends_from low numbers ≡ true → is_among numbers q ≡ true →
    low ≤ q
low-among low [] q up among = cc
low-among low (n ∷ numbers) q up among =
    let parts = and-both (nat_le low n) (ascends_from (n + 1) numbers) up in
    let above : low ≤ n = grind (arith, nat_tests, parts.0) in
    ⊎_elim
    (λ here. omega (arith, above, same-eqb n q here))
    (λ later. omega (arith, above, low-among (n + 1) numbers q parts.1 later))
    (or-cases (n == q) (is_among numbers q) among)

-- the numbers after a place are greater than the one at it
pub after-place : (low : ℕ) (numbers : List ℕ) (k q : ℕ) → ascends_from low numbers ≡ true → k < length numbers →
    is_among (drop (k + 1) numbers) q ≡ true → get_or numbers k 0 < q
after-place low [] k q up within among = absurd (omega (arith, within))
after-place low (n ∷ numbers) zero q up within among =
    let parts = and-both (nat_le low n) (ascends_from (n + 1) numbers) up in
    omega (arith, low-among (n + 1) numbers q parts.1 among)
after-place low (n ∷ numbers) (suc k) q up within among =
    let parts = and-both (nat_le low n) (ascends_from (n + 1) numbers) up in
    let e : suc k + 1 ≡ suc (k + 1) = omega arith in
    let later : is_among (drop (k + 1) numbers) q ≡ true =
    subst (λ m. is_among (drop m (n ∷ numbers)) q ≡ true) e among in
    after-place (n + 1) numbers k q parts.1 (omega (arith, within)) later
