-- Sums of whole numbers over lists of numbers: of two weights, over what a test keeps, and over members taken in turn.
use Rattle.std.proofs.Common.{◌≡◌, ◌==◌, ◌<◌, ◌≤◌, ◌+◌, ◌∙◌, ◌++◌, ◌∷◌, [], ap, sym, refl, subst, filter, ℕ, zero, suc}
use Rattle.std.proofs.Common.{ℤ, pos, ◌+ℤ◌, Bool, true, false, List, ◌⊎◌, inl, inr, arith, cond}
use Rattle.std.proofs.lemmas.Int.{ints}
use Rattle.std.specs.List.{range_with_len}
use Rattle.std.proofs.lemmas.Bool.{cases_lt}
use Rattle.std.proofs.lemmas.Bool.Decides.{nat_tests}
use Rattle.dag_core.proofs.ListSteps.{range_more}

-- what the items weigh together
abbrev pub weigh : {X : Type 0} → (X → ℤ) → List X → ℤ
weigh weight [] = pos 0
weigh weight (x ∷ xs) = weight x +ℤ weigh weight xs

-- the weight where the test passes, and nothing elsewhere
abbrev pub if_so : Bool → ℤ → ℤ
if_so test weight = cond test weight (pos 0)

plus_nothing : (w : ℤ) → pos 0 +ℤ w ≡ w
plus_nothing w = omega (arith, ints)

grouped : (w a b : ℤ) → w +ℤ (a +ℤ b) ≡ (w +ℤ a) +ℤ b
grouped w a b = omega (arith, ints)

pub weigh-append : {X : Type 0} (weight : X → ℤ) (xs ys : List X) →
    weigh weight (xs ++ ys) ≡ weigh weight xs +ℤ weigh weight ys
weigh-append weight [] ys = sym (plus_nothing (weigh weight ys))
weigh-append weight (x ∷ xs) ys =
    ap (λ w. weight x +ℤ w) (weigh-append weight xs ys) ∙ grouped (weight x) (weigh weight xs) (weigh weight ys)

-- over a filter
kept_first : {X : Type 0} (weight : X → ℤ) (test : X → Bool) (x : X) (xs : List X) (b : Bool) → test x ≡ b →
    weigh weight (filter test xs) ≡ weigh (λ y. if_so (test y) (weight y)) xs →
    weigh weight (cond b (x ∷ filter test xs) (filter test xs)) ≡ if_so b (weight x) +ℤ weigh (λ y. if_so (test y)
    (weight y)) xs
kept_first weight test x xs true is rest = ap (λ w. weight x +ℤ w) rest
kept_first weight test x xs false is rest = rest ∙ sym (plus_nothing (weigh (λ y. if_so (test y) (weight y)) xs))

pub weigh-filter : {X : Type 0} (weight : X → ℤ) (test : X → Bool) (xs : List X) →
    weigh weight (filter test xs) ≡ weigh (λ x. if_so (test x) (weight x)) xs
weigh-filter weight test [] = refl
weigh-filter weight test (x ∷ xs) = kept_first weight test x xs (test x) refl (weigh-filter weight test xs)

-- two weights at once
both_sums : (a b c d : ℤ) → (a +ℤ b) +ℤ (c +ℤ d) ≡ (a +ℤ c) +ℤ (b +ℤ d)
both_sums a b c d = omega (arith, ints)

pub weigh-plus : {X : Type 0} (weight other : X → ℤ) (xs : List X) →
    weigh (λ x. weight x +ℤ other x) xs ≡ weigh weight xs +ℤ weigh other xs
weigh-plus weight other [] = refl
weigh-plus weight other (x ∷ xs) =
    ap (λ w. (weight x +ℤ other x) +ℤ w) (weigh-plus weight other xs)
    ∙ both_sums (weight x) (other x) (weigh weight xs) (weigh other xs)

-- no weight
pub weigh-nothing : {X : Type 0} (xs : List X) → weigh (λ (x : X). pos 0) xs ≡ pos 0
weigh-nothing [] = refl
weigh-nothing (x ∷ xs) = plus_nothing (weigh (λ y. pos 0) xs) ∙ weigh-nothing xs

-- a test that does not depend on the item
pub weigh-if_so : {X : Type 0} (weight : X → ℤ) (test : Bool) (xs : List X) →
    weigh (λ x. if_so test (weight x)) xs ≡ if_so test (weigh weight xs)
weigh-if_so weight true xs = refl
weigh-if_so weight false xs = weigh-nothing xs

-- ---- over the numbers below n

pub weigh-more : (weight : ℕ → ℤ) (n : ℕ) → weigh weight (range_with_len 0 (n + 1)) ≡ weigh weight
    (range_with_len 0 n) +ℤ weight n
weigh-more weight n =
    ap (weigh weight) (range_more n) ∙ (weigh-append weight (range_with_len 0 n) (n ∷ []) ∙ last (weigh weight
    (range_with_len 0 n)) (weight n)) where
      last : (a w : ℤ) → a +ℤ (w +ℤ pos 0) ≡ a +ℤ w
      last a w = omega (arith, ints)

pub weigh-alike : (weight other : ℕ → ℤ) (n : ℕ) → ((k : ℕ) → k < n → weight k ≡ other k) →
    weigh weight (range_with_len 0 n) ≡ weigh other (range_with_len 0 n)
weigh-alike weight other zero same = refl
weigh-alike weight other (suc n) same =
    let next : n + 1 ≡ suc n = omega arith in
    subst (λ m. weigh weight (range_with_len 0 m) ≡ weigh other (range_with_len 0 m)) next
    (weigh-more weight n
    ∙ (ap (λ w. w +ℤ weight n) (weigh-alike weight other n (λ k below. same k (omega arith)))
    ∙ (ap (λ w. weigh other (range_with_len 0 n) +ℤ w) (same n (omega arith)) ∙ sym (weigh-more other n))))

-- one number alone has a weight
not_here : (m k : ℕ) → (m ≡ k → ⊥) → (m == k) ≡ false
not_here m k other = grind (arith, nat_tests)

here : (m : ℕ) → (m == m) ≡ true
here m = grind (arith, nat_tests)

pub weigh-none : (m n : ℕ) (w : ℤ) → n ≤ m → weigh (λ k. if_so (m == k) w) (range_with_len 0 n) ≡ pos 0
weigh-none m n w beyond =
    weigh-alike (λ k. if_so (m == k) w) (λ k. pos 0) n
    (λ k below. ap (λ b. if_so b w) (not_here m k (λ same. omega arith)))
    ∙ weigh-nothing (range_with_len 0 n)

no_more : (a : ℤ) → a +ℤ pos 0 ≡ a
no_more a = omega (arith, ints)

one_more : (m n : ℕ) (w : ℤ) → (m < n → weigh (λ k. if_so (m == k) w) (range_with_len 0 n) ≡ w) → (m < n) ⊎ (n ≤ m) →
    m < n + 1 →
    weigh (λ k. if_so (m == k) w) (range_with_len 0 n) +ℤ if_so (m == n) w ≡ w
one_more m n w sum (inl before) below =
    ap (λ b. weigh (λ k. if_so (m == k) w) (range_with_len 0 n) +ℤ if_so b w) (not_here m n (λ same. omega arith))
    ∙ (no_more (weigh (λ k. if_so (m == k) w) (range_with_len 0 n)) ∙ sum before)
one_more m n w sum (inr from) below =
    let same : m ≡ n = omega arith in
    ap (λ a. a +ℤ if_so (m == n) w) (weigh-none m n w from)
    ∙ (plus_nothing (if_so (m == n) w) ∙ ap (λ b. if_so b w) (subst (λ k. (m == k) ≡ true) same (here m)))

pub weigh-one : (m n : ℕ) (w : ℤ) → m < n → weigh (λ k. if_so (m == k) w) (range_with_len 0 n) ≡ w
weigh-one m zero w below = absurd (omega arith)
weigh-one m (suc n) w below =
    let next : n + 1 ≡ suc n = omega arith in
    subst (λ k. weigh (λ k. if_so (m == k) w) (range_with_len 0 k) ≡ w) next
    (weigh-more (λ k. if_so (m == k) w) n ∙ one_more m n w (weigh-one m n w) (cases_lt m n) (omega arith))
