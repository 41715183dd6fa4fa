-- Chains of corners: what is on them, and walks along them.
use Rattle.std.proofs.Common.{◌≡◌, ◌≢◌, inl, inr, ℕ, zero, suc, ◌+◌, ◌-◌, ◌<◌, ◌≤◌, Bool, true, false, not}
use Rattle.std.proofs.Common.{cond, eqb}
use Rattle.std.proofs.Common.{List, [], ◌∷◌, ◌++◌, length, set, get_or, All, sum_by, refl, sym, ap, ◌∙◌}
use Rattle.std.proofs.Common.{subst}
use Rattle.std.proofs.Common.{arith}
use Rattle.std.specs.List.{list_any}
use Rattle.std.specs.Prelude.{nat_le}
use Rattle.std.proofs.lemmas.Bool.{cases_Bool}
use Rattle.std.proofs.lemmas.Bool.Decides.{nat_tests}
use Rattle.std.proofs.lemmas.List.{append_assoc, get_or-set_other, get_or-set_same}
use Rattle.std.proofs.lemmas.List.Elements.{All-cons, All-head, All-nil, All-tail, All-weaker}
use Rattle.std.proofs.lemmas.List.Sums.{sum_by-cons}
use Rattle.rim_collapse.specs.Internal.Chains.{sum_at, walk}

clash : (x : Bool) → x ≡ true → x ≡ false → ⊥
clash x h k = cc

pub equal_from : (n m : ℕ) → eqb n m ≡ true → n ≡ m
equal_from n m h = grind (arith, nat_tests)

pub equal_is : (n m : ℕ) → n ≡ m → eqb n m ≡ true
equal_is n m h = grind (arith, nat_tests)

pub differ_from : (n m : ℕ) → eqb n m ≡ false → n ≢ m
differ_from n m h = grind (arith, nat_tests)

pub differ_is : (n m : ℕ) → n ≢ m → eqb n m ≡ false
differ_is n m h = grind (arith, nat_tests)

-- ---- sums over the places of a number

abbrev pub bit : Bool → ℕ
bit b = cond b 1 0

pub sum_at-push : (f : ℕ → ℕ) (p i : ℕ) (numbers : List ℕ) (n : ℕ) →
    sum_at f p i (numbers ++ n ∷ []) ≡ sum_at f p i numbers + cond (eqb n p) (f (i + length numbers)) 0
sum_at-push f p i [] n =
    let is : i + 0 ≡ i = omega arith in
    subst (λ k. cond (eqb n p) (f i) 0 + 0 ≡ 0 + cond (eqb n p) (f k) 0) (sym is) (omega arith)
sum_at-push f p i (m ∷ numbers) n =
    let is : i + 1 + length numbers ≡ i + suc (length numbers) = omega arith in
    let rest = subst
    (λ k. sum_at f p (i + 1) (numbers ++ n ∷ []) ≡ sum_at f p (i + 1) numbers + cond (eqb n p) (f k) 0) is
    (sum_at-push f p (i + 1) numbers n) in
    omega (arith, rest)

-- a function that is 0 at each place
pub sum_at-zero : (f : ℕ → ℕ) (p i : ℕ) (numbers : List ℕ) →
    ((k : ℕ) → k < length numbers → get_or numbers k 0 ≡ p → f (i + k) ≡ 0) → sum_at f p i numbers ≡ 0
sum_at-zero f p i [] none = refl
sum_at-zero f p i (n ∷ numbers) none =
    let rest : sum_at f p (i + 1) numbers ≡ 0 =
    sum_at-zero f p (i + 1) numbers (λ k within at.
    let is : i + 1 + k ≡ i + suc k = omega arith in ap f is ∙ none (suc k) (omega arith) at) in
    elim (cases_Bool (eqb n p)) [
      | inl here ↦
          (let is : i + 0 ≡ i = omega arith in
          let first : f i ≡ 0 = ap f (sym is) ∙ none 0 (omega arith) (equal_from n p here) in
          rw here (omega (arith, first, rest)))
      | inr other ↦ rw other (omega (arith, rest))
    ]

-- its value at one place is part of the sum
pub sum_at-least : (f : ℕ → ℕ) (p i : ℕ) (numbers : List ℕ) (k : ℕ) → k < length numbers → get_or numbers k 0 ≡ p →
    f (i + k) ≤ sum_at f p i numbers
sum_at-least f p i [] k within at = absurd (omega arith)
sum_at-least f p i (n ∷ numbers) zero within at =
    let is : i + 0 ≡ i = omega arith in
    rw (is, equal_is n p at) (omega arith)
sum_at-least f p i (n ∷ numbers) (suc k) within at =
    let is : i + 1 + k ≡ i + suc k = omega arith in
    let rest = subst (λ j. f j ≤ sum_at f p (i + 1) numbers) is
    (sum_at-least f p (i + 1) numbers k (omega arith) at) in
    omega (arith, rest)

-- each place is counted at most once
sum_at-once : (l p i : ℕ) (numbers : List ℕ) → sum_at (λ c. bit (eqb c l)) p i numbers ≤ 1
sum_at-once l p i [] = omega arith
sum_at-once l p i (n ∷ numbers) =
    elim (cases_Bool (eqb i l)) [
      | inl here ↦
          (let rest = sum_at-zero (λ c. bit (eqb c l)) p (i + 1) numbers (λ k within at.
          let at_l = equal_from i l here in
          rw (differ_is (i + 1 + k) l (omega arith)) refl) in
          rw here (by (eqb n p) (sum_at (λ c. bit (eqb c l)) p (i + 1) numbers) rest))
      | inr other ↦ rw other (later (eqb n p) (sum_at (λ c. bit (eqb c l)) p (i + 1) numbers)
          (sum_at-once l p (i + 1) numbers))
    ]
  where
    by : (b : Bool) (m : ℕ) → m ≡ 0 → cond b 1 0 + m ≤ 1
    by true m h = omega arith
    by false m h = omega arith

    later : (b : Bool) (m : ℕ) → m ≤ 1 → cond b 0 0 + m ≤ 1
    later true m h = omega arith
    later false m h = omega arith

pub sum_at-count : (p i : ℕ) (numbers : List ℕ) → sum_at (λ c. 1) p i numbers ≤ length numbers
sum_at-count p i [] = omega arith
sum_at-count p i (n ∷ numbers) = by (eqb n p) (sum_at (λ c. 1) p (i + 1) numbers) (sum_at-count p (i + 1) numbers)
  where
    by : (b : Bool) (m : ℕ) → m ≤ length numbers → cond b 1 0 + m ≤ suc (length numbers)
    by true m h = omega arith
    by false m h = omega arith

-- ---- what is on a chain

pub none-from_zero : {X : Type 0} (q : X → Bool) (xs : List X) → sum_by (λ x. bit (q x)) xs ≡ 0 →
    All (λ x. q x ≡ false) xs
none-from_zero q [] h = All-nil (λ x. q x ≡ false)
none-from_zero {X = X} q (x ∷ xs) h =
    let is = sum_by-cons (λ y. bit (q y)) x xs in
    elim (cases_Bool (q x)) [
      | inl passes ↦ (let one : bit (q x) ≡ 1 = rw passes refl in absurd (omega (arith, is, h, one)))
      | inr fails ↦ All-cons (λ y. q y ≡ false) x xs fails
          (none-from_zero q xs (let none : bit (q x) ≡ 0 = rw fails refl in omega (arith, is, h, none)))
    ]

pub zero-from_none : {X : Type 0} (q : X → Bool) (xs : List X) → list_any q xs ≡ false → sum_by (λ x. bit (q x)) xs ≡ 0
zero-from_none q [] h = refl
zero-from_none q (x ∷ xs) h =
    elim (cases_Bool (q x)) [
      | inl passes ↦ absurd (clash (list_any q (x ∷ xs)) (rw passes refl) h)
      | inr fails ↦
          (let rest : list_any q xs ≡ false = rw fails at h in
          let none : bit (q x) ≡ 0 = rw fails refl in
          omega (arith, sum_by-cons (λ y. bit (q y)) x xs, none, zero-from_none q xs rest))
    ]

-- so many corners are on it
pub length-sum : {X : Type 0} (xs : List X) → sum_by (λ (x : X). 1) xs ≡ length xs
length-sum [] = refl
length-sum {X = X} (x ∷ xs) = let is = sum_by-cons (λ (y : X). 1) x xs in omega (arith, is, length-sum xs)

abbrev pub IsLinkedAt : ℕ → List ℕ → List ℕ → Type 0
IsLinkedAt p numbers corners = (f : ℕ → ℕ) → sum_by f corners ≡ sum_at f p 0 numbers

pub chain-count : (p : ℕ) (numbers corners : List ℕ) → IsLinkedAt p numbers corners → length corners ≤ length numbers
chain-count p numbers corners linked =
    let is = sym (length-sum corners) ∙ linked (λ c. 1) in
    omega (arith, is, sum_at-count p 0 numbers)

pub chain-none : (p : ℕ) (numbers corners : List ℕ) (q : ℕ → Bool) → IsLinkedAt p numbers corners →
    ((k : ℕ) → k < length numbers → get_or numbers k 0 ≡ p → q k ≡ false) → All (λ c. q c ≡ false) corners
chain-none p numbers corners q linked none =
    none-from_zero q corners (linked (λ c. bit (q c)) ∙
    sum_at-zero (λ c. bit (q c)) p 0 numbers (λ k within at.
    let is : 0 + k ≡ k = omega arith in rw (is, none k within at) refl))

pub chain-has : (p : ℕ) (numbers corners : List ℕ) (q : ℕ → Bool) (k : ℕ) → IsLinkedAt p numbers corners →
    k < length numbers → get_or numbers k 0 ≡ p → q k ≡ true → list_any q corners ≡ true
chain-has p numbers corners q k linked within at passes =
    elim (cases_Bool (list_any q corners)) [
      | inl has ↦ has
      | inr hasnt ↦
          (let zero_sum = sym (linked (λ c. bit (q c))) ∙ zero-from_none q corners hasnt in
          let is : 0 + k ≡ k = omega arith in
          let one : bit (q k) ≡ 1 = rw passes refl in
          let least = subst (λ j. bit (q j) ≤ sum_at (λ c. bit (q c)) p 0 numbers) is
          (sum_at-least (λ c. bit (q c)) p 0 numbers k within at) in
          absurd (omega (arith, zero_sum, one, least)))
    ]

-- each is in range
pub chain-below : (p : ℕ) (numbers corners : List ℕ) → IsLinkedAt p numbers corners →
    All (λ c. c < length numbers) corners
chain-below p numbers corners linked =
    All-weaker (λ c. nat_le (length numbers) c ≡ false) (λ c. c < length numbers)
    (λ c h. below c h) corners
    (chain-none p numbers corners (λ c. nat_le (length numbers) c) linked (λ k within at. above k within))
  where
    below : (c : ℕ) → nat_le (length numbers) c ≡ false → c < length numbers
    below c h = grind (arith, nat_tests)

    above : (k : ℕ) → k < length numbers → nat_le (length numbers) k ≡ false
    above k h = grind (arith, nat_tests)

-- each is a place of p
pub chain-at : (p : ℕ) (numbers corners : List ℕ) → IsLinkedAt p numbers corners →
    All (λ c. get_or numbers c 0 ≡ p) corners
chain-at p numbers corners linked =
    All-weaker (λ c. not (eqb (get_or numbers c 0) p) ≡ false) (λ c. get_or numbers c 0 ≡ p)
    (λ c h. equal_from (get_or numbers c 0) p (twice (eqb (get_or numbers c 0) p) h)) corners
    (chain-none p numbers corners (λ c. not (eqb (get_or numbers c 0) p)) linked
    (λ k within at. rw (equal_is (get_or numbers k 0) p at) refl))
  where
    twice : (b : Bool) → not b ≡ false → b ≡ true
    twice true h = refl
    twice false h = absurd (cc)

-- ---- walks

pub length-walk : (nexts : List ℕ) (n s : ℕ) → length (walk nexts n s) ≡ n
length-walk nexts zero s = refl
length-walk nexts (suc n) s = omega (arith, length-walk nexts n (get_or nexts s 0))

-- one corner more was walked to
pub walk-more : (nexts corners pushed whole : List ℕ) (count i c : ℕ) → i < count →
    corners ++ walk nexts (count - i) c ≡ whole → pushed ≡ corners ++ c ∷ [] →
    pushed ++ walk nexts (count - (i + 1)) (get_or nexts c 0) ≡ whole
walk-more nexts corners pushed whole count i c less before push =
    let is : count - i ≡ suc (count - (i + 1)) = omega arith in
    ap (λ l. l ++ walk nexts (count - (i + 1)) (get_or nexts c 0)) push ∙
    append_assoc corners (c ∷ []) (walk nexts (count - (i + 1)) (get_or nexts c 0)) ∙
    ap (λ n. corners ++ walk nexts n c) (sym is) ∙ before

pub walk-below : (nexts corners whole : List ℕ) (count i c n : ℕ) → i < count →
    corners ++ walk nexts (count - i) c ≡ whole → All (λ d. d < n) whole → c < n
walk-below nexts corners whole count i c n less before all =
    let is : count - i ≡ suc (count - (i + 1)) = omega arith in
    at_seam corners (subst (All (λ d. d < n)) (sym (ap (λ m. corners ++ walk nexts m c) (sym is) ∙ before)) all)
  where
    at_seam : (some : List ℕ) → All (λ d. d < n) (some ++ c ∷ walk nexts (count - (i + 1)) (get_or nexts c 0)) → c < n
    at_seam [] each = All-head (λ d. d < n) c (walk nexts (count - (i + 1)) (get_or nexts c 0)) each
    at_seam (d ∷ some) each =
        at_seam some
        (All-tail (λ d. d < n) d (some ++ c ∷ walk nexts (count - (i + 1)) (get_or nexts c 0)) each)

-- a walk doesn't see a link that it doesn't take
pub walk-set : (nexts : List ℕ) (c x n s : ℕ) → All (λ d. eqb d c ≡ false) (walk nexts n s) →
    walk (set nexts c x) n s ≡ walk nexts n s
walk-set nexts c x zero s apart = refl
walk-set nexts c x (suc n) s apart =
    let rest = walk nexts n (get_or nexts s 0) in
    let here : get_or (set nexts c x) s 0 ≡ get_or nexts s 0 =
    get_or-set_other nexts c s x 0 (differ_from s c (All-head (λ d. eqb d c ≡ false) s rest apart)) in
    ap (λ t. s ∷ walk (set nexts c x) n t) here ∙
    ap (λ l. s ∷ l) (walk-set nexts c x n (get_or nexts s 0) (All-tail (λ d. eqb d c ≡ false) s rest apart))

-- where the last corner of the walk is linked to t, the walk goes on from there
pub walk-joined : (nexts : List ℕ) (l t m n s : ℕ) → l < length nexts → get_or (walk nexts (suc n) s) n 0 ≡ l →
    ((k : ℕ) → k < n → eqb (get_or (walk nexts (suc n) s) k 0) l ≡ false) →
    walk (set nexts l t) (suc (n + m)) s ≡ walk nexts (suc n) s ++ walk (set nexts l t) m t
walk-joined nexts l t m zero s within is apart =
    let here : get_or (set nexts l t) s 0 ≡ t =
    ap (λ j. get_or (set nexts l t) j 0) is ∙ get_or-set_same nexts l t 0 within in
    let none : 0 + m ≡ m = omega arith in
    ap (λ k. s ∷ walk (set nexts l t) k (get_or (set nexts l t) s 0)) none ∙
    ap (λ c. s ∷ walk (set nexts l t) m c) here
walk-joined nexts l t m (suc n) s within is apart =
    let here : get_or (set nexts l t) s 0 ≡ get_or nexts s 0 =
    get_or-set_other nexts l s t 0 (differ_from s l (apart 0 (omega arith))) in
    let next : suc n + m ≡ suc (n + m) = omega arith in
    ap (λ k. s ∷ walk (set nexts l t) k (get_or (set nexts l t) s 0)) next ∙
    ap (λ c. s ∷ walk (set nexts l t) (suc (n + m)) c) here ∙
    ap (λ w. s ∷ w) (walk-joined nexts l t m n (get_or nexts s 0) within is
    (λ k below. apart (suc k) (omega arith)))

-- ---- the last corner of a chain is on it once

sum-least : (f : ℕ → ℕ) (xs : List ℕ) (k : ℕ) → k < length xs → f (get_or xs k 0) ≤ sum_by f xs
sum-least f [] k within = absurd (omega arith)
sum-least f (x ∷ xs) zero within = omega (arith, sum_by-cons f x xs)
sum-least f (x ∷ xs) (suc k) within = omega (arith, sum_by-cons f x xs, sum-least f xs k (omega arith))

sum-two : (f : ℕ → ℕ) (xs : List ℕ) (j k : ℕ) → j < k → k < length xs →
    f (get_or xs j 0) + f (get_or xs k 0) ≤ sum_by f xs
sum-two f [] j k less within = absurd (omega arith)
sum-two f (x ∷ xs) j zero less within = absurd (omega arith)
sum-two f (x ∷ xs) zero (suc k) less within =
    omega (arith, sum_by-cons f x xs, sum-least f xs k (omega arith))
sum-two f (x ∷ xs) (suc j) (suc k) less within =
    omega (arith, sum_by-cons f x xs, sum-two f xs j k (omega arith) (omega arith))

pub chain-once : (p : ℕ) (numbers corners : List ℕ) (j k : ℕ) → IsLinkedAt p numbers corners → j < k →
    k < length corners → eqb (get_or corners j 0) (get_or corners k 0) ≡ false
chain-once p numbers corners j k linked less within =
    elim (cases_Bool (eqb (get_or corners j 0) (get_or corners k 0))) [
      | inl same ↦
          (let l = get_or corners k 0 in
          let f : ℕ → ℕ = λ c. bit (eqb c l) in
          let two = sum-two f corners j k less within in
          let first : f (get_or corners j 0) ≡ 1 = rw same refl in
          let last : f l ≡ 1 = rw (equal_is l l refl) refl in
          let most = sum_at-once l p 0 numbers in
          absurd (omega (arith, two, first, last, most, linked f)))
      | inr other ↦ other
    ]
