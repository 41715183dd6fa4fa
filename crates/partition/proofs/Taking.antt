-- The beginning, what stays when the next item is taken from the frontier, and the end.
use Rattle.std.proofs.Common.{◌≡◌, ◌<◌, ◌+◌, inl, inr, ℕ, zero, suc, Bool, true, false, cond, eqb, List, [], length}
use Rattle.std.proofs.Common.{get_or, replicate, count_by, All, Contains, refl, arith}
use Rattle.std.specs.List.{list_all, range_with_len}
use Rattle.std.proofs.lemmas.Bool.{and_from, eq-eqb}
use Rattle.std.proofs.lemmas.List.{get_or-replicate, length-replicate}
use Rattle.std.proofs.lemmas.List.Elements.{All-contains, Contains-get_or}
use Rattle.std.proofs.lemmas.List.Sums.{sum_by-cons}
use Rattle.partition.specs.Internal.Frontiers.{AreCursors, HasLesser, HasLeastOf, Keeps, KeepsLeft}
use Rattle.partition.specs.Growing.{is_chosen, is_grown}
use Rattle.partition.specs.Internal.Growths.{Grows, IsPlacedBelow, SomeLeft, Touches, batch_of}
use Rattle.partition.specs.Internal.EdgesOfItem.{EdgeHasItem}
use Rattle.partition.specs.Internal.SharedEdges.{IsSharedEdge}
use Rattle.partition.proofs.Marks.{some_left}
use Rattle.partition.proofs.Members.{list_all-from}

pub count_by-none : (n : ℕ) → count_by (λ b. b) (replicate n false) ≡ 0
count_by-none zero = refl
count_by-none (suc n) =
    let first : count_by (λ b. b) (replicate (suc n) false) ≡ 0 + count_by (λ b. b) (replicate n false) =
    sum_by-cons (λ b. cond b 1 0) false (replicate n false) in
    omega (arith, first, count_by-none n)

-- nothing is placed
pub Grows-none : (shared : List (List ℕ)) (size count : ℕ) (cursors : List ℕ) →
    AreCursors shared (replicate count false) cursors →
    Grows shared size (replicate count false) [] 0 cursors []
Grows-none shared size count cursors passed = record {
  marks = λ item h. get_or-replicate count item false true (omega (arith, length-replicate count false));
  counted = count_by-none count;
  below = λ item h. absurd (omega arith);
  passed = passed;
  queued = λ item is. absurd (omega (arith, is.1));
  grown = λ place h. absurd (omega arith);
}

-- what is queued is in range
pub queued_below : (shared : List (List ℕ)) (size : ℕ) (placed : List Bool) (order : List ℕ) (least : ℕ)
    (cursors queue : List ℕ) →
    All (IsSharedEdge (length placed)) shared → Grows shared size placed order least cursors queue →
    All (λ item. item < length placed) queue
queued_below shared size placed order least cursors queue sound grows k d h =
    let is : Touches shared (batch_of size order) (get_or queue k d) =
    grows.queued (get_or queue k d) (Contains-get_or queue k d h) in
    All-contains (λ item. item < length placed) (get_or shared is.edge []) (get_or queue k d)
    (sound is.edge [] is.with_item.0).below is.with_item.1

-- while the order isn't whole, an item is left
pub left_of_order : (shared : List (List ℕ)) (size : ℕ) (placed : List Bool) (order : List ℕ) (least : ℕ)
    (cursors queue : List ℕ) →
    Grows shared size placed order least cursors queue → length order < length placed → SomeLeft placed
left_of_order shared size placed order least cursors queue grows h = some_left placed (omega (arith, grows.counted))

-- the queue may lose what it has
pub Grows-taken : (shared : List (List ℕ)) (size : ℕ) (placed : List Bool) (order : List ℕ) (least : ℕ)
    (cursors queue : List ℕ) (least' : ℕ) (queue' : List ℕ) →
    Grows shared size placed order least cursors queue → Keeps queue' queue → IsPlacedBelow placed least' →
    Grows shared size placed order least' cursors queue'
Grows-taken shared size placed order least cursors queue least' queue' grows keeps below = record {
  marks = grows.marks;
  counted = grows.counted;
  below = below;
  passed = grows.passed;
  queued = λ item is. grows.queued item (keeps item is);
  grown = grows.grown;
}

-- a shared edge that doesn't have the item that was taken keeps its least item queued
pub ready-taken : (shared : List (List ℕ)) (batch : List ℕ) (placed : List Bool) (item : ℕ) (queue queue' : List ℕ) →
    ((edge member : ℕ) → Contains batch member → EdgeHasItem shared edge member →
    HasLeastOf (get_or shared edge []) placed queue) →
    KeepsLeft placed item queue queue' →
    (edge member : ℕ) → Contains batch member → EdgeHasItem shared edge member →
    (Contains (get_or shared edge []) item → ⊥) →
    HasLeastOf (get_or shared edge []) placed queue'
ready-taken shared batch placed item queue queue' ready keeps edge member in_batch holds apart other among left =
    let has : HasLesser (get_or shared edge []) placed queue other =
    ready edge member in_batch holds other among left in
    record {
      lesser = has.lesser;
      queued = elim (keeps has.lesser has.queued has.left) [
        | inl same ↦ absurd (apart (rw same at has.among))
        | inr kept ↦ kept
      ];
      among = has.among;
      left = has.left;
      le = has.le;
    }

-- a whole order in which each place is chosen is grown
pub is_grown-from : (n : ℕ) (key : ℕ → ℕ) (near : ℕ → ℕ → Bool) (size : ℕ) (order : List ℕ) → length order ≡ n →
    ((place : ℕ) → place < n → is_chosen n key near size order place ≡ true) → is_grown n key near size order ≡ true
unfolding is_grown
is_grown-from n key near size order whole chosen =
    and_from (eqb (length order) n) (list_all (is_chosen n key near size order) (range_with_len 0 n))
    (eq-eqb (length order) n whole)
    (list_all-from (is_chosen n key near size order) 0 n (λ place above below. chosen place (omega arith)))
