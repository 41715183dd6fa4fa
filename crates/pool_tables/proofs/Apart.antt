-- Lists in which no number is twice: what is left of them without a number, and that they are short.
use Rattle.std.proofs.Common.{◌≡◌, ◌≢◌, ℕ, zero, suc, ◌+◌, ◌<◌, ◌≤◌, ◌==◌, List, [], ◌∷◌, ◌++◌, Bool, true, false, ◌||◌}
use Rattle.std.proofs.Common.{⊎_elim, length, refl, sym, ap, ◌∙◌, subst, arith, eq-eqb}
use Rattle.std.specs.List.{AllByRecursion}
use Rattle.std.proofs.lemmas.Bool.{cases_eq}
use Rattle.std.proofs.lemmas.Bool.Decides.{nat_tests}
use Rattle.pool_rules.specs.Numbers.{is_among}
use Rattle.pool_rules.proofs.Tests.{or-cases, same-eqb}
use Rattle.pool_tables.specs.ListedPages.{without}
use Rattle.pool_tables.specs.Internal.Links.{Lacks, AreApart}

pub ne-eqb : (a b : ℕ) → a ≢ b → (a == b) ≡ false
ne-eqb a b h = grind (arith, nat_tests)

pub or-none : (a b : Bool) → (a || b) ≡ false → (a ≡ false) × (b ≡ false)
or-none true b h = cc
or-none false b h = (refl, h)

-- what is not among the numbers is none of them
pub Lacks-from_among : (numbers : List ℕ) (number : ℕ) → is_among numbers number ≡ false → Lacks numbers number
Lacks-from_among [] number h = tt
Lacks-from_among (n ∷ numbers) number h =
    let parts = or-none (n == number) (is_among numbers number) h in
    (λ e. let yes = eq-eqb n number e in cc, Lacks-from_among numbers number parts.1)

pub among-from_lacks : (numbers : List ℕ) (number : ℕ) → Lacks numbers number → is_among numbers number ≡ false
among-from_lacks [] number h = refl
among-from_lacks (n ∷ numbers) number h = rw (ne-eqb n number h.0) (among-from_lacks numbers number h.1)

-- one of the numbers has what all have
pub all-among : (P : ℕ → Type 0) (numbers : List ℕ) (number : ℕ) → AllByRecursion P numbers →
    is_among numbers number ≡ true → P number
all-among P [] number all h = cc
all-among P (n ∷ numbers) number all h =
    ⊎_elim
    (λ here. subst P (same-eqb n number here) all.0)
    (λ later. all-among P numbers number all.1 later)
    (or-cases (n == number) (is_among numbers number) h)

-- ---- without a number

pub without-head : (number : ℕ) (numbers : List ℕ) → without number (number ∷ numbers) ≡ without number numbers
without-head number numbers = rw (eq-eqb number number refl) refl

pub without-other : (number n : ℕ) (numbers : List ℕ) → n ≢ number →
    without number (n ∷ numbers) ≡ n ∷ without number numbers
without-other number n numbers ne = rw (ne-eqb n number ne) refl

pub without-lacking : (number : ℕ) (numbers : List ℕ) → Lacks numbers number → without number numbers ≡ numbers
without-lacking number [] h = refl
without-lacking number (n ∷ numbers) h =
    without-other number n numbers h.0 ∙ ap (λ rest. n ∷ rest) (without-lacking number numbers h.1)

-- what all numbers have, those that are left have
pub all-without : (P : ℕ → Type 0) (number : ℕ) (numbers : List ℕ) → AllByRecursion P numbers →
    AllByRecursion P (without number numbers)
all-without P number [] h = tt
all-without P number (n ∷ numbers) h =
    ⊎_elim
    (λ same. rw (eq-eqb n number same) (all-without P number numbers h.1))
    (λ ne. rw (ne-eqb n number ne) (h.0, all-without P number numbers h.1))
    (cases_eq n number)

-- the number is none of those that are left
pub Lacks-without_same : (number : ℕ) (numbers : List ℕ) → Lacks (without number numbers) number
Lacks-without_same number [] = tt
Lacks-without_same number (n ∷ numbers) =
    ⊎_elim
    (λ same. rw (eq-eqb n number same) (Lacks-without_same number numbers))
    (λ ne. rw (ne-eqb n number ne) (ne, Lacks-without_same number numbers))
    (cases_eq n number)

pub AreApart-without : (number : ℕ) (numbers : List ℕ) → AreApart numbers → AreApart (without number numbers)
AreApart-without number [] h = tt
AreApart-without number (n ∷ numbers) h =
    ⊎_elim
    (λ same. rw (eq-eqb n number same) (AreApart-without number numbers h.1))
    (λ ne. rw (ne-eqb n number ne) (all-without (λ m. m ≢ n) number numbers h.0, AreApart-without number numbers h.1))
    (cases_eq n number)

-- at most one number is left out
pub length-without : (number : ℕ) (numbers : List ℕ) → AreApart numbers →
    length numbers ≤ length (without number numbers) + 1
length-without number [] h = omega arith
length-without number (n ∷ numbers) h =
    ⊎_elim
    (λ same. let lacks : Lacks numbers number = subst (λ m. Lacks numbers m) same h.0 in
    rw (eq-eqb n number same, without-lacking number numbers lacks) (omega arith))
    (λ ne. rw (ne-eqb n number ne) (omega (arith, length-without number numbers h.1)))
    (cases_eq n number)

-- ---- with a number more

pub all-push : (P : ℕ → Type 0) (numbers : List ℕ) (number : ℕ) → AllByRecursion P numbers → P number →
    AllByRecursion P (numbers ++ number ∷ [])
all-push P [] number h p = (p, tt)
all-push P (n ∷ numbers) number h p = (h.0, all-push P numbers number h.1 p)

pub AreApart-push : (numbers : List ℕ) (number : ℕ) → AreApart numbers → Lacks numbers number →
    AreApart (numbers ++ number ∷ [])
AreApart-push [] number h lacks = (tt, tt)
AreApart-push (n ∷ numbers) number h lacks =
    (all-push (λ m. m ≢ n) numbers number h.0 (λ e. lacks.0 (sym e)), AreApart-push numbers number h.1 lacks.1)

-- ---- how many there can be

below-but_last : (n : ℕ) (numbers : List ℕ) → AllByRecursion (λ m. m < suc n) numbers → Lacks numbers n →
    AllByRecursion (λ m. m < n) numbers
below-but_last n [] h lacks = tt
below-but_last n (m ∷ numbers) h lacks = (omega (arith, h.0, lacks.0), below-but_last n numbers h.1 lacks.1)

-- numbers below n, none twice, are at most n
pub length-apart : (n : ℕ) (numbers : List ℕ) → AreApart numbers → AllByRecursion (λ m. m < n) numbers →
    length numbers ≤ n
length-apart zero [] h below = omega arith
length-apart zero (m ∷ numbers) h below = omega (arith, below.0)
length-apart (suc n) numbers h below =
    let rest = without n numbers in
    let few = length-apart n rest (AreApart-without n numbers h)
    (below-but_last n rest (all-without (λ m. m < suc n) n numbers below) (Lacks-without_same n numbers)) in
    omega (arith, few, length-without n numbers h)
