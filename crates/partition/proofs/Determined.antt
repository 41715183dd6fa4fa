-- The growing rule determines the order.
use Rattle.std.proofs.Common.{◌≡◌, ◌<◌, ◌≤◌, ◌+◌, ◌*◌, ◌/◌, inl, inr, ℕ, zero, suc, Bool, true, false, ◌&&◌, ◌||◌, eqb}
use Rattle.std.proofs.Common.{ltb, cond, List, length, get_or, take, drop, refl, sym, ap, ◌∙◌, arith}
use Rattle.std.specs.List.{list_all, range_with_len}
use Rattle.std.proofs.lemmas.Bool.{and_parts, or_cases, eqb-true, ltb-true}
use Rattle.std.proofs.lemmas.List.{take_all, take_more_same}
use Rattle.partition.specs.Growing.{goes_before, is_chosen, is_grown, is_next, ranks_before, touches}
use Rattle.partition.proofs.Members.{list_all-at}
use Rattle.partition.proofs.Nexts.{IsNext, is_next-is}

-- a grown order is whole, and each place is chosen
pub record IsGrown (n : ℕ) (key : ℕ → ℕ) (near : ℕ → ℕ → Bool) (size : ℕ) (order : List ℕ) : Type 0 where
  pub whole : length order ≡ n
  pub chosen : (place : ℕ) → place < n → is_chosen n key near size order place ≡ true

pub is_grown-is : (n : ℕ) (key : ℕ → ℕ) (near : ℕ → ℕ → Bool) (size : ℕ) (order : List ℕ) →
    is_grown n key near size order ≡ true → IsGrown n key near size order
unfolding is_grown
is_grown-is n key near size order h =
    let parts = and_parts (eqb (length order) n) (list_all (is_chosen n key near size order) (range_with_len 0 n)) h in
    record {
      whole = eqb-true (length order) n parts.0;
      chosen =
          λ place below. list_all-at (is_chosen n key near size order) 0 n parts.1 place (omega arith) (omega arith);
    }

-- of two items only one ranks before the other
ranks_apart : (key : ℕ → ℕ) (i j : ℕ) → ranks_before key i j ≡ true → ranks_before key j i ≡ true → ⊥
ranks_apart key i j h g =
    elim (or_cases (ltb (key i) (key j)) (eqb (key i) (key j) && ltb i j) h) [
      | inl lesser ↦
          let before = ltb-true (key i) (key j) lesser in
          elim (or_cases (ltb (key j) (key i)) (eqb (key j) (key i) && ltb j i) g) [
            | inl greater ↦ absurd (omega (arith, ltb-true (key j) (key i) greater))
            | inr same ↦
                absurd (omega (arith, eqb-true (key j) (key i) (and_parts (eqb (key j) (key i)) (ltb j i) same).0))
          ]
      | inr same ↦
          let parts = and_parts (eqb (key i) (key j)) (ltb i j) same in
          let equal = eqb-true (key i) (key j) parts.0 in
          let less = ltb-true i j parts.1 in
          elim (or_cases (ltb (key j) (key i)) (eqb (key j) (key i) && ltb j i) g) [
            | inl greater ↦ absurd (omega (arith, ltb-true (key j) (key i) greater))
            | inr other ↦ absurd (omega (arith, ltb-true j i (and_parts (eqb (key j) (key i)) (ltb j i) other).1))
          ]
    ]

-- the same for what goes before, by whether either is a neighbour
apart_by : (near_i near_j before after : Bool) → (before ≡ true → after ≡ true → ⊥) →
    cond near_j (near_i && before) (near_i || before) ≡ true →
    cond near_i (near_j && after) (near_j || after) ≡ true → ⊥
apart_by true true before after apart h g = apart h g
apart_by true false before after apart h g = cc
apart_by false true before after apart h g = cc
apart_by false false before after apart h g = apart h g

goes_apart : (key : ℕ → ℕ) (near : ℕ → ℕ → Bool) (batch : List ℕ) (i j : ℕ) → goes_before key near batch i j ≡ true →
    goes_before key near batch j i ≡ true → ⊥
goes_apart key near batch i j h g =
    apart_by (touches near batch i) (touches near batch j) (ranks_before key i j) (ranks_before key j i)
    (ranks_apart key i j) h g

-- there is one next item
one_next : (n : ℕ) (key : ℕ → ℕ) (near : ℕ → ℕ → Bool) (placed batch : List ℕ) (i j : ℕ) →
    is_next n key near placed batch i ≡ true → is_next n key near placed batch j ≡ true → i ≡ j
one_next n key near placed batch i j h g =
    let first : IsNext n key near placed batch i = is_next-is n key near placed batch i h in
    let second : IsNext n key near placed batch j = is_next-is n key near placed batch j g in
    elim (first.first j second.below second.left) [
      | inl same ↦ same
      | inr before ↦ elim (second.first i first.below first.left) [
        | inl same ↦ sym same
        | inr after ↦ absurd (goes_apart key near batch i j before after)
      ]
    ]

-- the first items are the same
same_front : (n : ℕ) (key : ℕ → ℕ) (near : ℕ → ℕ → Bool) (size : ℕ) (order other : List ℕ) →
    IsGrown n key near size order → IsGrown n key near size other →
    (place : ℕ) → place ≤ n → take place order ≡ take place other
same_front n key near size order other is is_other zero h = refl
same_front n key near size order other is is_other (suc place) h =
    let front : take place order ≡ take place other =
    same_front n key near size order other is is_other place (omega arith) in
    let chosen_other : is_next n key near (take place order) (drop (place / size * size) (take place order))
    (get_or other place 0) ≡ true =
    ap (λ front. is_next n key near front (drop (place / size * size) front) (get_or other place 0)) front ∙
    is_other.chosen place (omega arith) in
    let here : get_or order place 0 ≡ get_or other place 0 =
    one_next n key near (take place order) (drop (place / size * size) (take place order)) (get_or order place 0)
    (get_or other place 0)
    (is.chosen place (omega arith)) chosen_other in
    let more : take (place + 1) order ≡ take (place + 1) other =
    take_more_same order other place 0 (omega (arith, is.whole)) (omega (arith, is_other.whole)) front here in
    let next : place + 1 ≡ suc place = omega arith in
    ap (λ k. take k order) (sym next) ∙ more ∙ ap (λ k. take k other) next

-- two grown orders of the same items are equal
pub grown_orders_equal : (n size : ℕ) (key : ℕ → ℕ) (near : ℕ → ℕ → Bool) (order other : List ℕ) →
    is_grown n key near size order ≡ true → is_grown n key near size other ≡ true → order ≡ other
grown_orders_equal n size key near order other h g =
    let is : IsGrown n key near size order = is_grown-is n key near size order h in
    let is_other : IsGrown n key near size other = is_grown-is n key near size other g in
    sym (take_all n order (omega (arith, is.whole))) ∙
    same_front n key near size order other is is_other n (omega arith)
    ∙ take_all n other (omega (arith, is_other.whole))
