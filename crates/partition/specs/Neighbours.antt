-- Neighbours: two items, as triangles or clusters, that have an edge in common, in either direction. An edge
-- from a point to itself is an edge like any other.
use Rattle.std.specs.Prelude.{ℕ, Bool, ◌&&◌, ◌||◌, List, [], slice_index_or}
use Rattle.std.specs.List.{list_any}
use Rattle.geom_core.specs.declared.points.Pt.{Pt}
use Rattle.geom_core.specs.EdgeSum.{same_point}

-- the edges join the same two points, in the same direction or in opposite ones
unfoldable pub same_edge : Pt × Pt → Pt × Pt → Bool
same_edge e f = (same_point e.0 f.0 && same_point e.1 f.1) || (same_point e.0 f.1 && same_point e.1 f.0)

-- some edge is in both lists
unfoldable pub share_edge : List (Pt × Pt) → List (Pt × Pt) → Bool
share_edge edges others = list_any (λ e. list_any (same_edge e) others) edges

-- items number i and j are neighbours, where each item is the list of its edges
abbrev pub are_neighbours : List (List (Pt × Pt)) → ℕ → ℕ → Bool
are_neighbours items i j = share_edge (slice_index_or items i []) (slice_index_or items j [])
