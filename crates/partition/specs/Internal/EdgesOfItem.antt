-- Which shared edges an item has: for each item a chain of its edges, from the last one back.
use Rattle.std.specs.Prelude.{◌≡◌, ◌≢◌, ◌<◌, ◌⊎◌, ℕ, List, [], Option, Some, None, length, slice_index, slice_index_or}
use Rattle.std.specs.Prelude.{Contains}
use Rattle.partition.specs.declared.edges_of_item.ItemEdge.{ItemEdge}
use Rattle.partition.specs.declared.edges_of_item.EdgesOfItem.{EdgesOfItem}

-- the greatest position below `end` that has the item, if there is one
abbrev pub IsLastBefore : List ℕ → ℕ → ℕ → Option ℕ → Type 0
IsLastBefore items item end None = (q : ℕ) → q < end → slice_index items q ≢ item
IsLastBefore items item end (Some p) =
    (p < end) × (slice_index items p ≡ item) × ((q : ℕ) → p < q → q < end → slice_index items q ≢ item)

-- the item has the shared edge: some entry of the item names the edge
abbrev pub HasItemEdge : List ℕ → List ItemEdge → ℕ → ℕ → Type 0
HasItemEdge items item_edges item edge =
    (p : ℕ) × (p < length items) × (slice_index items p ≡ item) ×
    ((d : ItemEdge) → (slice_index_or item_edges p d).edge ≡ edge)

-- the shared edge of this number has the item
abbrev pub EdgeHasItem : List (List ℕ) → ℕ → ℕ → Type 0
EdgeHasItem shared edge item = (edge < length shared) × Contains (slice_index_or shared edge []) item

-- position `at` of this shared edge is before position `upto` of the shared edge `end`
abbrev pub IsDone : ℕ → ℕ → ℕ → ℕ → Type 0
IsDone end upto edge at = (edge < end) ⊎ ((edge ≡ end) × (at < upto))

-- of the shared edges before `end`, and of the first `upto` items of that one, each item's edges are listed:
-- `last` has each item's last entry
pub record ListsEdgesUpTo (shared : List (List ℕ)) (count end upto : ℕ) (last : List (Option ℕ))
    (item_edges : List ItemEdge) : Type 0 where
  pub items : List ℕ
  pub counted : length last ≡ count
  pub whole : length items ≡ length item_edges
  pub lasts : (i : ℕ) → i < count → IsLastBefore items i (length items) (slice_index_or last i None)
  pub previous : (p : ℕ) (d : ItemEdge) → p < length items →
      IsLastBefore items (slice_index items p) p (slice_index_or item_edges p d).previous
  pub sound : (p : ℕ) (d : ItemEdge) → p < length items →
      EdgeHasItem shared (slice_index_or item_edges p d).edge (slice_index items p)
  pub complete : (edge at : ℕ) → edge < length shared → at < length (slice_index_or shared edge []) →
      IsDone end upto edge at →
      HasItemEdge items item_edges (slice_index (slice_index_or shared edge []) at) edge

-- each item's shared edges are listed
abbrev pub ListsEdges : List (List ℕ) → ℕ → EdgesOfItem → Type 0
ListsEdges shared count h = ListsEdgesUpTo shared count (length shared) 0 h.last.items h.item_edges.items
