-- The walk along an item's chain of edges: of which shared edges the least item is queued so far.
use Rattle.std.proofs.Common.{◌≡◌, ◌<◌, ◌≤◌, inl, inr, ℕ, suc, List, Bool, [], Option, Some, None, length, get_or}
use Rattle.std.proofs.Common.{Contains, sym, ap, ◌∙◌, arith}
use Rattle.std.proofs.lemmas.Bool.{cases_lt}
use Rattle.std.proofs.lemmas.List.{get_or_default}
use Rattle.partition.specs.declared.edges_of_item.ItemEdge.{ItemEdge}
use Rattle.partition.specs.declared.edges_of_item.EdgesOfItem.{EdgesOfItem}
use Rattle.partition.specs.Internal.Frontiers.{HasLeastOf, HasLeastOfEach, HasLesser, Keeps}
use Rattle.partition.specs.Internal.EdgesOfItem.{ListsEdges, IsLastBefore, EdgeHasItem}

-- of the item's edges from `end` on the least items are queued, and `next` is the entry before
pub record IsWalk (shared : List (List ℕ)) (count : ℕ) (edges_of_item : EdgesOfItem) (item : ℕ) (placed : List Bool)
    (queue : List ℕ) (next : Option ℕ) : Type 0 where
  pub holds : ListsEdges shared count edges_of_item
  pub end : ℕ
  pub within : end ≤ length holds.items
  pub before : IsLastBefore holds.items item end next
  pub entered : (p : ℕ) (d : ItemEdge) → end ≤ p → p < length holds.items → get_or holds.items p 0 ≡ item →
      HasLeastOf (get_or shared (get_or edges_of_item.item_edges.items p d).edge []) placed queue

-- how much of the chain is left
abbrev pub left_of : Option ℕ → ℕ
left_of None = 0
left_of (Some p) = suc p

-- the queue only grows
pub HasLeastOf-keeps : (edge : List ℕ) (placed : List Bool) (old new : List ℕ) → Keeps old new →
    HasLeastOf edge placed old → HasLeastOf edge placed new
HasLeastOf-keeps edge placed old new keeps entered item is left =
    let has : HasLesser edge placed old item = entered item is left in
    record {
      lesser = has.lesser;
      queued = keeps has.lesser has.queued;
      among = has.among;
      left = has.left;
      le = has.le;
    }

-- at the item's last entry nothing is queued yet
pub IsWalk-starts : (shared : List (List ℕ)) (count : ℕ) (edges_of_item : EdgesOfItem) (item : ℕ) (placed : List Bool)
    (queue : List ℕ) →
    ListsEdges shared count edges_of_item → item < count →
    IsWalk shared count edges_of_item item placed queue (get_or edges_of_item.last.items item None)
IsWalk-starts shared count edges_of_item item placed queue holds below = record {
  holds = holds;
  end = length holds.items;
  within = omega arith;
  before = holds.lasts item below;
  entered = λ p d past h at. absurd (omega arith);
}

-- where the entry is, and which shared edge it names
pub IsWalk-item_edge : (shared : List (List ℕ)) (count : ℕ) (edges_of_item : EdgesOfItem) (item : ℕ)
    (placed : List Bool) (queue : List ℕ) (place : ℕ) (d : ItemEdge) →
    IsWalk shared count edges_of_item item placed queue (Some place) →
    (place < length edges_of_item.item_edges.items) ×
    EdgeHasItem shared (get_or edges_of_item.item_edges.items place d).edge item
IsWalk-item_edge shared count edges_of_item item placed queue place d walk =
    let below : place < length walk.holds.items = omega (arith, walk.before.0, walk.within) in
    let is : get_or walk.holds.items place 0 ≡ item = walk.before.1 in
    (omega (arith, walk.holds.whole), rw is at (walk.holds.sound place d below))

-- the entry's edge has its least item queued, and the entry before it comes next
pub IsWalk-more : (shared : List (List ℕ)) (count : ℕ) (edges_of_item : EdgesOfItem) (item : ℕ) (placed : List Bool)
    (old new : List ℕ) (place : ℕ) (item_edge : ItemEdge) →
    IsWalk shared count edges_of_item item placed old (Some place) →
    item_edge ≡ get_or edges_of_item.item_edges.items place item_edge →
    HasLeastOf (get_or shared item_edge.edge []) placed new → Keeps old new →
    IsWalk shared count edges_of_item item placed new item_edge.previous
IsWalk-more shared count edges_of_item item placed old new place item_edge walk is here keeps =
    let below : place < length walk.holds.items = omega (arith, walk.before.0, walk.within) in
    let at_place : get_or walk.holds.items place 0 ≡ item = walk.before.1 in
    record {
      holds = walk.holds;
      end = place;
      within = omega arith;
      before = rw (← is) at (rw at_place at (walk.holds.previous place item_edge below));
      entered = λ p d past h at. elim (cases_lt p walk.end) [
        | inl before ↦ elim (cases_lt place p) [
          | inl after ↦ absurd (walk.before.2 p after before at)
          | inr not_after ↦
              let same : p ≡ place = omega arith in
              let item_edge_is : item_edge ≡ get_or edges_of_item.item_edges.items p d =
              is ∙ get_or_default edges_of_item.item_edges.items place item_edge d (omega (arith, walk.holds.whole)) ∙
              ap (λ q. get_or edges_of_item.item_edges.items q d) (sym same) in
              rw (← item_edge_is) here
        ]
        | inr after ↦ HasLeastOf-keeps (get_or shared (get_or edges_of_item.item_edges.items p d).edge []) placed old
            new keeps (walk.entered p d after h at)
      ];
    }

-- the measure falls
pub left_of-smaller : (shared : List (List ℕ)) (count : ℕ) (edges_of_item : EdgesOfItem) (item : ℕ) (placed : List Bool)
    (queue : List ℕ) (place : ℕ) (item_edge : ItemEdge) →
    IsWalk shared count edges_of_item item placed queue (Some place) →
    item_edge ≡ get_or edges_of_item.item_edges.items place item_edge → left_of item_edge.previous < suc place
left_of-smaller shared count edges_of_item item placed queue place item_edge walk is =
    let below : place < length walk.holds.items = omega (arith, walk.before.0, walk.within) in
    by_case item_edge.previous (get_or walk.holds.items place 0)
    (rw (← is) at (walk.holds.previous place item_edge below))
  where
    by_case : (o : Option ℕ) (item : ℕ) → IsLastBefore walk.holds.items item place o → left_of o < suc place
    by_case None item last = omega arith
    by_case (Some p) item last = omega (arith, last.0)

-- at the end of the chain each shared edge that has the item has its least item queued
pub IsWalk-ends : (shared : List (List ℕ)) (count : ℕ) (edges_of_item : EdgesOfItem) (item : ℕ) (placed : List Bool)
    (queue : List ℕ) →
    IsWalk shared count edges_of_item item placed queue None → HasLeastOfEach shared placed queue item
IsWalk-ends shared count edges_of_item item placed queue walk edge holds =
    let among : Contains (get_or shared edge []) item = holds.1 in
    let at_edge : get_or (get_or shared edge []) among.0 0 ≡ item =
    get_or_default (get_or shared edge []) among.0 0 item among.1 ∙ among.2 in
    let item_edges = walk.holds.complete edge among.0 holds.0 among.1 (inl holds.0) in
    let d : ItemEdge = record { edge = edge; previous = None } in
    elim (cases_lt item_edges.0 walk.end) [
      | inl before ↦ absurd (walk.before item_edges.0 before (item_edges.2 ∙ at_edge))
      | inr after ↦ rw item_edges.3 at (walk.entered item_edges.0 d after item_edges.1 (item_edges.2 ∙ at_edge))
    ]
