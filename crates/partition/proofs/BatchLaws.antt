-- Batches of items: they are determined, have each item once, and are full but the last.
use Rattle.std.proofs.Common.{◌≡◌, ◌<◌, ◌≤◌, ◌+◌, ◌*◌, inl, inr, ℕ, zero, suc, List, [], ◌∷◌, length, slice_index, All}
use Rattle.std.proofs.Common.{true, sym, ap, ◌∙◌, subst, arith}
use Rattle.std.specs.List.{concat}
use Rattle.std.proofs.lemmas.Bool.{cases_lt}
use Rattle.std.proofs.lemmas.List.{get_or_default, get_or-append-add, get_or_append_left, length-append}
use Rattle.std.proofs.Math.Nat.{mul-le-mul_left}
use Rattle.geom_core.specs.declared.points.Pt.{Pt}
use Rattle.partition.specs.Batches.{AreBatches, AreFullButLast}
use Rattle.partition.specs.Growing.{batches_of, is_grown}
use Rattle.partition.specs.Neighbours.{are_neighbours}
use Rattle.partition.proofs.Always.{always_grows}
use Rattle.partition.proofs.BatchLists.{concat-batches_of}
use Rattle.partition.proofs.Chunks.{batch_begins, batch_full, batch_most, batch_some, length-batches}
use Rattle.partition.proofs.Determined.{IsGrown, grown_orders_equal, is_grown-is}
use Rattle.partition.proofs.OnePlace.{next_at}

-- ---- the batches are determined

pub batches_exist : (keys : List ℕ) (edges : List (List (Pt × Pt))) (size : ℕ) → 0 < size → (batches : List (List ℕ)) ×
    AreBatches keys edges size batches
batches_exist keys edges size some =
    let grown = always_grows (length keys) size (slice_index keys) (are_neighbours edges) in
    let order : List ℕ = grown.0 in
    let joined : concat (batches_of size order) ≡ order = concat-batches_of size order some in
    let P : List ℕ → Type 0 = λ xs. is_grown (length keys) (slice_index keys) (are_neighbours edges) size xs ≡ true in
    (batches_of size order, record { grown = subst P (sym joined) grown.1; split = ap (batches_of size) (sym joined) })

pub batches_equal : (keys : List ℕ) (edges : List (List (Pt × Pt))) (size : ℕ) (batches other : List (List ℕ)) →
    AreBatches keys edges size batches → AreBatches keys edges size other → batches ≡ other
batches_equal keys edges size batches other b o =
    let same : concat batches ≡ concat other =
    grown_orders_equal (length keys) size (slice_index keys) (are_neighbours edges) (concat batches)
    (concat other) b.grown o.grown in
    b.split ∙ (ap (batches_of size) same ∙ sym o.split)

-- ---- how many they are, and how long

pub full_of_order : (size : ℕ) (order : List ℕ) → 0 < size → AreFullButLast size (length order) (batches_of size order)
full_of_order size order some = record {
  batch_count = length-batches size order;
  not_empty = λ k d h. rw (get_or_default (batches_of size order) k d [] h) (batch_some size order some k h);
  size_limit = λ k d h. rw (get_or_default (batches_of size order) k d [] h) (batch_most size order some k h);
  full = batch_full size order some;
}

pub full_of_items : (keys : List ℕ) (edges : List (List (Pt × Pt))) (size : ℕ) (batches : List (List ℕ)) → 0 < size →
    AreBatches keys edges size batches → AreFullButLast size (length keys) batches
full_of_items keys edges size batches some b =
    let grown : IsGrown (length keys) (slice_index keys) (are_neighbours edges) size (concat batches) =
    is_grown-is (length keys) (slice_index keys) (are_neighbours edges) size (concat batches) b.grown in
    let P : ℕ → Type 0 = λ n. AreFullButLast size n (batches_of size (concat batches)) in
    let Q : List (List ℕ) → Type 0 = λ bs. AreFullButLast size (length keys) bs in
    subst Q (sym b.split) (subst P grown.whole (full_of_order size (concat batches) some))

pub no_more_batches : (size total : ℕ) (batches : List (List ℕ)) → 0 < size → AreFullButLast size total batches →
    length batches ≤ total
no_more_batches size total batches some full =
    elim (cases_lt total (length batches)) [
      | inl more ↦
          let begins : total * size < total = batch_begins size total total some (omega (arith, full.batch_count)) in
          let least : total * 1 ≤ total * size = mul-le-mul_left total some in
          absurd (omega arith)
      | inr none ↦ none
    ]

-- ---- which items they have

abbrev AreBelow : ℕ → List ℕ → Type 0
AreBelow n xs = All (λ number. number < n) xs

order_below : (n size : ℕ) (keys : List ℕ) (edges : List (List (Pt × Pt))) (order : List ℕ) →
    IsGrown n (slice_index keys) (are_neighbours edges) size order → AreBelow n order
order_below n size keys edges order is k d h =
    rw (get_or_default order k d 0 h)
    (next_at n (slice_index keys) (are_neighbours edges) size order is k (omega (arith, is.whole))).below

parts_below : (n : ℕ) (batches : List (List ℕ)) → AreBelow n (concat batches) → All (λ batch. AreBelow n batch) batches
parts_below n [] all k d h = absurd (omega arith)
parts_below n (b ∷ bs) all zero d h = λ j e below.
    rw (← get_or_append_left b (concat bs) e j below) (all j e (omega (arith, length-append b (concat bs))))
parts_below n (b ∷ bs) all (suc k) d h =
    parts_below n bs (λ j e below. rw (← get_or-append-add b (concat bs) j e)
    (all (length b + j) e (omega (arith, length-append b (concat bs))))) k d (omega arith)

pub numbers_below : (keys : List ℕ) (edges : List (List (Pt × Pt))) (size : ℕ) (batches : List (List ℕ)) →
    AreBatches keys edges size batches →
    All (λ batch. AreBelow (length keys) batch) batches
numbers_below keys edges size batches b =
    parts_below (length keys) batches
    (order_below (length keys) size keys edges (concat batches)
    (is_grown-is (length keys) (slice_index keys) (are_neighbours edges) size (concat batches) b.grown))
