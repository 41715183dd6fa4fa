-- Shared edges: each is the list of the items that have it, ascending; any two of these are neighbours. All are
-- kept in one flat list.
use Rattle.std.specs.Prelude.{ℕ, ◌+◌, ◌-◌, ◌<◌, ◌≤◌, Bool, ◌&&◌, List, length, map, slice_index, slice_range, All}
use Rattle.std.specs.List.{list_any, range_with_len}
use Rattle.std.specs.List.Sorted.{IsNonDecreasing}
use Rattle.partition.specs.Growing.{is_in}

-- some shared edge has both items
abbrev pub are_adjacent : List (List ℕ) → ℕ → ℕ → Bool
are_adjacent shared i j = list_any (λ edge. is_in edge i && is_in edge j) shared

-- the items of a shared edge: below the limit, ascending
pub record IsSharedEdge (limit : ℕ) (edge : List ℕ) : Type 0 where
  pub ascends : IsNonDecreasing edge
  pub below : All (λ item. item < limit) edge

-- the shared edge of this number: the items from its start to the next start
abbrev pub shared_edge_at : List ℕ → List ℕ → ℕ → List ℕ
shared_edge_at items starts edge = slice_range items (slice_index starts edge) (slice_index starts (edge + 1))

-- the shared edges whose items follow one another in `items`; the last start is where the last one ends
abbrev pub shared_edges_of : List ℕ → List ℕ → List (List ℕ)
shared_edges_of items starts = map (shared_edge_at items starts) (range_with_len 0 (length starts - 1))

-- starts that ascend, none of them beyond the items
pub record AreStarts (items starts : List ℕ) : Type 0 where
  pub ascend : IsNonDecreasing starts
  pub within : All (λ start. start ≤ length items) starts
