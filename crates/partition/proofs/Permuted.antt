-- A list that has each number below n once is these numbers in another order, and so is what each number names.
use Rattle.std.proofs.Common.{◌≡◌, ◌<◌, ◌+◌, inl, inr, ℕ, zero, suc, Bool, eqb, cond, List, [], ◌∷◌, ◌++◌, length}
use Rattle.std.proofs.Common.{get_or, map, count_by, IsPermutation, refl, sym, ap, ◌∙◌, subst, arith, append-nil}
use Rattle.std.proofs.Common.{append_assoc, true}
use Rattle.std.specs.List.{concat, flat_map, range_with_len, slice_index_or}
use Rattle.std.proofs.lemmas.Bool.{cases_eq, ne_eqb}
use Rattle.std.proofs.lemmas.List.{map-id}
use Rattle.std.proofs.lemmas.List.Concat.{flat_map-append, flat_map_single}
use Rattle.std.proofs.lemmas.List.Sorted.{IsPermutation-append_comm, IsPermutation-append_left}
use Rattle.std.proofs.lemmas.List.Sorted.{IsPermutation-append_right, IsPermutation-middle, IsPermutation-refl}
use Rattle.std.proofs.lemmas.List.Sorted.{IsPermutation-sym, IsPermutation-trans, length_permutation}
use Rattle.std.proofs.lemmas.List.Sorted.{sum_by-IsPermutation}
use Rattle.std.proofs.lemmas.List.Sums.{sum_by-cons}
use Rattle.partition.specs.Batches.{pick}
use Rattle.partition.specs.Growing.{is_grown}
use Rattle.partition.proofs.BatchLists.{range_more}
use Rattle.partition.proofs.Determined.{IsGrown, is_grown-is}
use Rattle.partition.proofs.OnePlace.{placed_once}

-- ---- lists of numbers

-- the list before and after a number that it has
record Parts (xs : List ℕ) (x : ℕ) : Type 0 where
  pub front : List ℕ
  pub back : List ℕ
  pub is : xs ≡ front ++ x ∷ back

parts_at : (xs : List ℕ) (x : ℕ) → 0 < count_by (λ y. eqb y x) xs → Parts xs x
parts_at [] x h = absurd (omega arith)
parts_at (y ∷ ys) x h =
    elim (cases_eq y x) [
      | inl same ↦ record { front = []; back = ys; is = ap (λ z. z ∷ ys) same }
      | inr other ↦
          let weight : ℕ → ℕ = λ z. cond (eqb z x) 1 0 in
          let here : weight y ≡ 0 = ap (λ b. cond b 1 0) (ne_eqb y x other) in
          let all : count_by (λ z. eqb z x) (y ∷ ys) ≡ weight y + count_by (λ z. eqb z x) ys =
          sum_by-cons weight y ys in
          let rest : Parts ys x = parts_at ys x (omega (arith, all, here)) in
          record { front = y ∷ rest.front; back = rest.back; is = ap (λ zs. y ∷ zs) rest.is }
    ]

-- the list has each number below n once
abbrev EachOnce : ℕ → List ℕ → Type 0
EachOnce n xs = (item : ℕ) → item < n → count_by (λ y. eqb y item) xs ≡ 1

-- without the greatest number it has each lesser one once
once_without : (m : ℕ) (xs rest : List ℕ) → IsPermutation xs (m ∷ rest) → EachOnce (suc m) xs → EachOnce m rest
once_without m xs rest moved once item h =
    let weight : ℕ → ℕ = λ y. cond (eqb y item) 1 0 in
    let here : weight m ≡ 0 = ap (λ b. cond b 1 0) (ne_eqb m item (λ e. absurd (omega (arith, e)))) in
    let all : count_by (λ y. eqb y item) (m ∷ rest) ≡ weight m + count_by (λ y. eqb y item) rest =
    sum_by-cons weight m rest in
    let same : count_by (λ y. eqb y item) (m ∷ rest) ≡ count_by (λ y. eqb y item) xs =
    sum_by-IsPermutation weight xs (m ∷ rest) moved in
    omega (arith, here, all, same, once item (omega arith))

-- ---- what the numbers of a list name, joined

-- a middle part goes to the end
middle_last : {X : Type 0} (a b c : List X) → IsPermutation (a ++ (b ++ c)) ((a ++ c) ++ b)
middle_last a b c =
    subst (IsPermutation (a ++ (b ++ c))) (sym (append_assoc a c b))
    (IsPermutation-append_right a (b ++ c) (c ++ b) (IsPermutation-append_comm b c))

last_number : {X : Type 0} (f : ℕ → List X) (m : ℕ) →
    flat_map f (range_with_len 0 (suc m)) ≡ flat_map f (range_with_len 0 m) ++ f m
last_number f m =
    let next : suc m ≡ m + 1 = omega arith in
    ap (λ n. flat_map f (range_with_len 0 n)) next
    ∙ (ap (flat_map f) (range_more m)
    ∙ (flat_map-append f (range_with_len 0 m) (m ∷ [])
    ∙ ap (λ ys. flat_map f (range_with_len 0 m) ++ ys) (append-nil (f m))))

pub named_permuted : {X : Type 0} (f : ℕ → List X) (n : ℕ) (xs : List ℕ) → length xs ≡ n → EachOnce n xs →
    IsPermutation (flat_map f xs) (flat_map f (range_with_len 0 n))
named_permuted f zero [] len once = IsPermutation-refl []
named_permuted f zero (x ∷ xs) len once = absurd (omega (arith, len))
named_permuted {X} f (suc m) xs len once =
    let p : Parts xs m = parts_at xs m (omega (arith, once m (omega arith))) in
    let rest : List ℕ = p.front ++ p.back in
    let moved : IsPermutation xs (m ∷ rest) =
    subst (λ zs. IsPermutation zs (m ∷ rest)) (sym p.is) (IsPermutation-middle p.front m p.back) in
    let shorter : length rest ≡ m = omega (arith, len, length_permutation xs (m ∷ rest) moved) in
    let below : IsPermutation (flat_map f rest) (flat_map f (range_with_len 0 m)) =
    named_permuted f m rest shorter (once_without m xs rest moved once) in
    let split : flat_map f xs ≡ flat_map f p.front ++ (f m ++ flat_map f p.back) =
    ap (flat_map f) p.is ∙ flat_map-append f p.front (m ∷ p.back) in
    let last : IsPermutation (flat_map f xs) ((flat_map f p.front ++ flat_map f p.back) ++ f m) =
    subst (λ zs. IsPermutation zs ((flat_map f p.front ++ flat_map f p.back) ++ f m)) (sym split)
    (middle_last (flat_map f p.front) (f m) (flat_map f p.back)) in
    let joined : (flat_map f p.front ++ flat_map f p.back) ++ f m ≡ flat_map f rest ++ f m =
    ap (λ ys. ys ++ f m) (sym (flat_map-append f p.front p.back)) in
    let P : List X → Type 0 = λ ys. IsPermutation (flat_map f xs) ys in
    let Q : List X → Type 0 = λ ys. IsPermutation (flat_map f rest ++ f m) ys in
    IsPermutation-trans (flat_map f xs) (flat_map f rest ++ f m) (flat_map f (range_with_len 0 (suc m)))
    (subst P joined last)
    (subst Q (sym (last_number f m)) (IsPermutation-append_left (f m) (flat_map f rest)
    (flat_map f (range_with_len 0 m)) below))

-- ---- a grown order

-- what the numbers name in a grown order
pub named_in_order : {X : Type 0} (f : ℕ → List X) (n size : ℕ) (key : ℕ → ℕ) (near : ℕ → ℕ → Bool) (order : List ℕ) →
    is_grown n key near size order ≡ true → IsPermutation (flat_map f (range_with_len 0 n)) (flat_map f order)
named_in_order f n size key near order h =
    let is : IsGrown n key near size order = is_grown-is n key near size order h in
    IsPermutation-sym (flat_map f order) (flat_map f (range_with_len 0 n))
    (named_permuted f n order is.whole (λ item below. placed_once n key near size order is item below))

single_is : (xs : List ℕ) → flat_map (λ x. x ∷ []) xs ≡ xs
single_is xs = flat_map_single (λ x. x) xs ∙ map-id xs

pub grown_permutation : (n size : ℕ) (key : ℕ → ℕ) (near : ℕ → ℕ → Bool) (order : List ℕ) →
    is_grown n key near size order ≡ true → IsPermutation (range_with_len 0 n) order
grown_permutation n size key near order h =
    let P : List ℕ → Type 0 = λ xs. IsPermutation xs order in
    let Q : List ℕ → Type 0 = λ xs. IsPermutation (flat_map (λ x. x ∷ []) (range_with_len 0 n)) xs in
    subst P (single_is (range_with_len 0 n))
    (subst Q (single_is order) (named_in_order (λ x. x ∷ []) n size key near order h))

-- ---- batches joined

pub named_by_batch : {X : Type 0} (f : ℕ → List X) (batches : List (List ℕ)) →
    flat_map f (concat batches) ≡ flat_map (λ batch. flat_map f batch) batches
named_by_batch f [] = refl
named_by_batch f (b ∷ bs) = flat_map-append f b (concat bs) ∙ ap (λ ys. flat_map f b ++ ys) (named_by_batch f bs)

flat_map_of_map : {X Y : Type 0} (f : Y → List X) (g : ℕ → Y) (xs : List ℕ) →
    flat_map (λ x. f (g x)) xs ≡ flat_map f (map g xs)
flat_map_of_map f g [] = refl
flat_map_of_map f g (x ∷ xs) = ap (λ ys. f (g x) ++ ys) (flat_map_of_map f g xs)

flat_map_same : {X Y : Type 0} (f g : Y → List X) → ((y : Y) → f y ≡ g y) → (ys : List Y) →
    flat_map f ys ≡ flat_map g ys
flat_map_same f g same [] = refl
flat_map_same f g same (y ∷ ys) =
    ap (λ zs. f y ++ zs) (flat_map_same f g same ys) ∙ ap (λ zs. zs ++ flat_map g ys) (same y)

-- a list is what its positions name
positions_from : {X : Type 0} (items : List X) (other : X) (all : List X) (a : ℕ) →
    ((k : ℕ) → k < length items → get_or all (a + k) other ≡ get_or items k other) →
    map (λ k. get_or all k other) (range_with_len a (length items)) ≡ items
positions_from [] other all a at = refl
positions_from (x ∷ items) other all a at =
    let here : a + 0 ≡ a = omega arith in
    let first : get_or all a other ≡ x = ap (λ k. get_or all k other) (sym here) ∙ at 0 (omega arith) in
    ap (λ y. y ∷ map (λ k. get_or all k other) (range_with_len (a + 1) (length items))) first
    ∙ ap (λ ys. x ∷ ys) (positions_from items other all (a + 1) (λ k h.
    let next : a + 1 + k ≡ a + suc k = omega arith in
    ap (λ j. get_or all j other) next ∙ at (suc k) (omega arith)))

positions : {X : Type 0} (items : List X) (other : X) →
    map (λ k. get_or items k other) (range_with_len 0 (length items)) ≡ items
positions items other = positions_from items other items 0 (λ k h. ap (λ j. get_or items j other) (zero_plus k))
  where
    zero_plus : (k : ℕ) → 0 + k ≡ k
    zero_plus k = omega arith

-- the lists that the batches pick, joined, are all of them joined
pub lists_permuted : {X : Type 0} (lists : List (List X)) (n : ℕ) → length lists ≡ n →
    (size : ℕ) (key : ℕ → ℕ) (near : ℕ → ℕ → Bool) (batches : List (List ℕ)) →
    is_grown n key near size (concat batches) ≡ true →
    IsPermutation (flat_map (λ list. list) lists)
    (flat_map (λ batch. flat_map (λ list. list) (pick lists [] batch)) batches)
lists_permuted {X} lists n len size key near batches h =
    let f : ℕ → List X = λ k. slice_index_or lists k [] in
    let all : flat_map f (range_with_len 0 n) ≡ flat_map (λ list. list) lists =
    flat_map_of_map (λ (list : List X). list) f (range_with_len 0 n)
    ∙ (ap (λ m. flat_map (λ list. list) (map f (range_with_len 0 m))) (sym len) ∙
    ap (flat_map (λ list. list)) (positions lists [])) in
    let each : flat_map f (concat batches) ≡ flat_map (λ batch. flat_map (λ list. list) (pick lists [] batch)) batches =
    named_by_batch f batches
    ∙ flat_map_same (λ batch. flat_map f batch) (λ batch. flat_map (λ list. list) (pick lists [] batch))
    (λ batch. flat_map_of_map (λ (list : List X). list) f batch) batches in
    let P : List X → Type 0 =
    λ xs. IsPermutation xs (flat_map (λ batch. flat_map (λ list. list) (pick lists [] batch)) batches) in
    let Q : List X → Type 0 = λ ys. IsPermutation (flat_map f (range_with_len 0 n)) ys in
    subst P all (subst Q each (named_in_order f n size key near (concat batches) h))

-- the items that the batches pick are all of them
pub items_permuted : {X : Type 0} (items : List X) (other : X) (n : ℕ) → length items ≡ n →
    (size : ℕ) (key : ℕ → ℕ) (near : ℕ → ℕ → Bool) (batches : List (List ℕ)) →
    is_grown n key near size (concat batches) ≡ true → IsPermutation items (flat_map (pick items other) batches)
items_permuted {X} items other n len size key near batches h =
    let g : ℕ → X = λ k. slice_index_or items k other in
    let f : ℕ → List X = λ k. g k ∷ [] in
    let all : flat_map f (range_with_len 0 n) ≡ items =
    flat_map_single g (range_with_len 0 n) ∙ (ap (λ m. map g (range_with_len 0 m)) (sym len) ∙ positions items other) in
    let each : flat_map f (concat batches) ≡ flat_map (pick items other) batches =
    named_by_batch f batches ∙ flat_map_same (λ batch. flat_map f batch) (pick items other)
    (λ batch. flat_map_single g batch) batches in
    let P : List X → Type 0 = λ xs. IsPermutation xs (flat_map (pick items other) batches) in
    let Q : List X → Type 0 = λ ys. IsPermutation (flat_map f (range_with_len 0 n)) ys in
    subst P all (subst Q each (named_in_order f n size key near (concat batches) h))
