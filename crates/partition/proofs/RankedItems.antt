-- Items sorted by key and number are a ranking.
use Rattle.std.proofs.Common.{◌≡◌, ℕ, ◌+◌, ◌<◌, true, false, ◌&&◌, ◌||◌, ◌==◌, nat_lt, List, [], ◌∷◌, length, get_or}
use Rattle.std.proofs.Common.{map, All, IsPermutation, IsSorted, refl, sym, ap, ◌∙◌, subst, arith, ◌⊎◌, inl, inr}
use Rattle.std.proofs.Common.{slice_index, zero-add}
use Rattle.std.specs.List.{enumerate_from, range_with_len, swap}
use Rattle.std.specs.Ordering.{is_lt, nat_cmp, ordering_then}
use Rattle.std.specs.Cmp.{IsTotalOrder}
use Rattle.std.specs.declared.cmp.Ordering.{Ordering}
use Rattle.std.proofs.lemmas.Bool.{cases_eq}
use Rattle.std.proofs.lemmas.Bool.Decides.{nat_tests}
use Rattle.std.proofs.lemmas.Cmp.{then_total, on_total, nat_cmp_total}
use Rattle.std.proofs.lemmas.List.{length-map, get_or-map}
use Rattle.std.proofs.lemmas.List.Edits.{swapped_from_swap, length-swap}
use Rattle.std.proofs.lemmas.List.FromFn.{length-range_with_len, get_or-range_with_len, length-enumerate_from}
use Rattle.std.proofs.lemmas.List.FromFn.{get_or-enumerate_from}
use Rattle.std.proofs.lemmas.List.Sorted.{ranks_by, sorted_far, IsPermutation-map, IsPermutation-keeps, All-permutation}
use Rattle.partition.specs.declared.ranking.Keyed.{Keyed}
use Rattle.partition.specs.Growing.{ranks_before}
use Rattle.partition.specs.Internal.Ranking.{IsRanking}

-- ---- a list in another order has no number twice if it had none

abbrev IsOneToOne : List ℕ → Type 0
IsOneToOne xs = (i j : ℕ) → i < length xs → j < length xs → get_or xs i 0 ≡ get_or xs j 0 → i ≡ j

swapped_one_to_one : (f g : ℕ → ℕ) (n a b : ℕ) → a < n → b < n → (g a ≡ f b) × (g b ≡ f a) ×
    ((m : ℕ) → (m ≡ a → ⊥) → (m ≡ b → ⊥) → g m ≡ f m) →
    ((i j : ℕ) → i < n → j < n → f i ≡ f j → i ≡ j) → (i j : ℕ) → i < n → j < n → g i ≡ g j →
    (i ≡ a) ⊎ (i ≡ a → ⊥) → (i ≡ b) ⊎ (i ≡ b → ⊥) → (j ≡ a) ⊎ (j ≡ a → ⊥) → (j ≡ b) ⊎ (j ≡ b → ⊥) → i ≡ j
swapped_one_to_one f g n a b ha hb w one i j hi hj e (inl ia) ib (inl ja) jb = omega arith
swapped_one_to_one f g n a b ha hb w one i j hi hj e (inl ia) ib (inr ja) (inl jb) =
    let same : b ≡ a = one b a hb ha (sym w.0 ∙ (ap g (sym ia) ∙ (e ∙ (ap g jb ∙ w.1)))) in omega arith
swapped_one_to_one f g n a b ha hb w one i j hi hj e (inl ia) ib (inr ja) (inr jb) =
    absurd (jb (sym (one b j hb hj (sym w.0 ∙ (ap g (sym ia) ∙ (e ∙ w.2 j ja jb))))))
swapped_one_to_one f g n a b ha hb w one i j hi hj e (inr ia) (inl ib) (inl ja) jb =
    let same : a ≡ b = one a b ha hb (sym w.1 ∙ (ap g (sym ib) ∙ (e ∙ (ap g ja ∙ w.0)))) in omega arith
swapped_one_to_one f g n a b ha hb w one i j hi hj e (inr ia) (inl ib) (inr ja) (inl jb) = omega arith
swapped_one_to_one f g n a b ha hb w one i j hi hj e (inr ia) (inl ib) (inr ja) (inr jb) =
    absurd (ja (sym (one a j ha hj (sym w.1 ∙ (ap g (sym ib) ∙ (e ∙ w.2 j ja jb))))))
swapped_one_to_one f g n a b ha hb w one i j hi hj e (inr ia) (inr ib) (inl ja) jb =
    absurd (ib (one i b hi hb (sym (w.2 i ia ib) ∙ (e ∙ (ap g ja ∙ w.0)))))
swapped_one_to_one f g n a b ha hb w one i j hi hj e (inr ia) (inr ib) (inr ja) (inl jb) =
    absurd (ia (one i a hi ha (sym (w.2 i ia ib) ∙ (e ∙ (ap g jb ∙ w.1)))))
swapped_one_to_one f g n a b ha hb w one i j hi hj e (inr ia) (inr ib) (inr ja) (inr jb) =
    one i j hi hj (sym (w.2 i ia ib) ∙ (e ∙ w.2 j ja jb))

one_to_one_after : (xs ys : List ℕ) → IsPermutation xs ys → IsOneToOne xs → IsOneToOne ys
one_to_one_after xs ys h start =
    IsPermutation-keeps xs IsOneToOne start (λ l a b ha hb one i j hi hj e.
    let len = length-swap l a b in
    swapped_one_to_one (λ i. get_or l i 0) (λ i. get_or (swap l a b) i 0) (length l) a b ha hb
    (swapped_from_swap l (swap l a b) a b 0 ha hb refl) one
    i j (omega arith) (omega arith) e (cases_eq i a) (cases_eq i b) (cases_eq j a) (cases_eq j b)) ys h

range_one_to_one : (n : ℕ) → IsOneToOne (range_with_len 0 n)
range_one_to_one n i j hi hj e =
    let len = length-range_with_len 0 n in
    omega (arith, get_or-range_with_len 0 n i 0 (omega arith), get_or-range_with_len 0 n j 0 (omega arith))

-- ---- items with their keys

abbrev keyed : ℕ × ℕ → Keyed
keyed p = record { key = p.1; number = p.0 }

abbrev pub keyed_cmp : Keyed → Keyed → Ordering
keyed_cmp x y = ordering_then (nat_cmp x.key y.key) (nat_cmp x.number y.number)

keyed_cmp_total : IsTotalOrder keyed_cmp
keyed_cmp_total =
    then_total (on_total (λ (x : Keyed). x.key) nat_cmp_total) (on_total (λ (x : Keyed). x.number) nat_cmp_total)

numbers_of_keyed : (a : ℕ) (keys : List ℕ) →
    map (λ (x : Keyed). x.number) (map keyed (enumerate_from a keys)) ≡ range_with_len a (length keys)
numbers_of_keyed a [] = refl
numbers_of_keyed a (k ∷ keys) = ap (λ xs. a ∷ xs) (numbers_of_keyed (a + 1) keys)

abbrev none : Keyed
none = record { key = 0; number = 0 }

-- an item has the key of its number
abbrev HasItsKey : List ℕ → Keyed → Type 0
HasItsKey keys x = x.key ≡ slice_index keys x.number

keys_of_keyed : (keys : List ℕ) → All (HasItsKey keys) (map keyed (enumerate_from 0 keys))
keys_of_keyed keys k d h =
    let inside : k < length (enumerate_from 0 keys) = omega (arith, length-map (enumerate_from 0 keys) keyed) in
    let is : get_or (map keyed (enumerate_from 0 keys)) k d ≡ keyed (0 + k, get_or keys k 0) =
    get_or-map keyed (enumerate_from 0 keys) k (0, 0) d inside
    ∙ ap keyed (get_or-enumerate_from 0 keys k (0, 0) (omega (arith, length-enumerate_from 0 keys))) in
    subst (HasItsKey keys) (sym is) (ap (slice_index keys) (sym (zero-add k)))

lexical : (a b m n : ℕ) → is_lt (ordering_then (nat_cmp b a) (nat_cmp n m)) ≡ false → (m ≡ n → ⊥) →
    (nat_lt a b || (a == b && nat_lt m n)) ≡ true
lexical a b m n e apart = grind (arith, nat_tests)

before_from_cmp : (keys : List ℕ) (x y : Keyed) → HasItsKey keys x → HasItsKey keys y → is_lt (keyed_cmp y x) ≡ false →
    (x.number ≡ y.number → ⊥) →
    ranks_before (slice_index keys) x.number y.number ≡ true
before_from_cmp keys x y hx hy e apart =
    let P : ℕ → Type 0 =
    λ k. (nat_lt k (slice_index keys y.number) || (k == slice_index keys y.number && nat_lt x.number y.number)) ≡
    true in
    let Q : ℕ → Type 0 = λ k. (nat_lt x.key k || (x.key == k && nat_lt x.number y.number)) ≡ true in
    subst P hx (subst Q hy (lexical x.key y.key x.number y.number e apart))

pub ranking_from_sorted : (keys : List ℕ) (sorted : List Keyed) →
    IsPermutation (map keyed (enumerate_from 0 keys)) sorted → IsSorted keyed_cmp sorted →
    IsRanking keys (map (λ (x : Keyed). x.number) sorted)
ranking_from_sorted keys sorted h s =
    let all : IsPermutation (range_with_len 0 (length keys)) (map (λ (x : Keyed). x.number) sorted) =
    let P : List ℕ → Type 0 = λ xs. IsPermutation xs (map (λ (x : Keyed). x.number) sorted) in
    subst P (numbers_of_keyed 0 keys) (IsPermutation-map (λ (x : Keyed). x.number)
    (map keyed (enumerate_from 0 keys)) sorted h) in
    let own : All (HasItsKey keys) sorted =
    All-permutation (HasItsKey keys) (map keyed (enumerate_from 0 keys)) sorted h (keys_of_keyed keys) in
    let one : IsOneToOne (map (λ (x : Keyed). x.number) sorted) =
    one_to_one_after (range_with_len 0 (length keys)) (map (λ (x : Keyed). x.number) sorted) all
    (range_one_to_one (length keys)) in
    record {
      all = all;
      ascends = λ i j l m.
          let len : length (map (λ (x : Keyed). x.number) sorted) ≡ length sorted =
          length-map sorted (λ (x : Keyed). x.number) in
          let x : Keyed = get_or sorted i none in
          let y : Keyed = get_or sorted j none in
          let at_i : get_or (map (λ (x : Keyed). x.number) sorted) i 0 ≡ (get_or sorted i none).number =
          get_or-map (λ (x : Keyed). x.number) sorted i none 0 (omega arith) in
          let at_j : get_or (map (λ (x : Keyed). x.number) sorted) j 0 ≡ (get_or sorted j none).number =
          get_or-map (λ (x : Keyed). x.number) sorted j none 0 (omega arith) in
          let apart : (get_or sorted i none).number ≡ (get_or sorted j none).number → ⊥ =
          λ e. let same = one i j (omega arith) m (at_i ∙ (e ∙ sym at_j)) in absurd (omega arith) in
          let P : ℕ → Type 0 =
          λ k. ranks_before (slice_index keys) k (get_or (map (λ (x : Keyed). x.number) sorted) j 0) ≡ true in
          let Q : ℕ → Type 0 = λ k. ranks_before (slice_index keys) (get_or sorted i none).number k ≡ true in
          subst P (sym at_i) (subst Q (sym at_j) (before_from_cmp keys x y (own i none (omega arith))
          (own j none (omega arith))
          (sorted_far (λ x y. is_lt (keyed_cmp x y)) (ranks_by keyed_cmp_total (λ (x : Keyed). x)) sorted s i j none
          (omega arith) (omega arith)) apart));
    }
