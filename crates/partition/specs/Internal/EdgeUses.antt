-- Edge uses: the edges of items without their direction, each with the rank of the item that it belongs to, and
-- with a key.
use Rattle.std.specs.Prelude.{◌≡◌, ℕ, ◌+◌, ◌-◌, ◌≤◌, ◌<◌, Bool, true, not, ◌&&◌, ◌||◌, ◌==◌, pos, List, [], ◌∷◌, ◌++◌}
use Rattle.std.specs.Prelude.{length, map, filter, slice_index_or, if◌then◌else◌}
use Rattle.std.specs.List.{list_any, range_with_len}
use Rattle.std.specs.Ordering.{is_le}
use Rattle.geom_core.specs.declared.points.Pt.{Pt}
use Rattle.geom_core.specs.Order.{point_cmp}
use Rattle.geom_core.specs.Boxes.{low_of}
use Rattle.geom_core.specs.EdgeSum.{same_point}
use Rattle.half_mesh.specs.declared.edges.Edge.{Edge}
use Rattle.partition.specs.declared.edge_uses.EdgeUse.{EdgeUse}
use Rattle.partition.specs.Morton.{morton_of}

-- the edge between two points, the first of them in the order of points first
unfoldable pub edge_of : Pt × Pt → Edge
edge_of e = if is_le (point_cmp e.0 e.1) then record { u = e.0; v = e.1 } else record { u = e.1; v = e.0 }

-- the key of an edge: the Morton key of the low corner of its box
abbrev pub edge_key : Edge → ℕ
edge_key e = morton_of (low_of e.u e.v)

-- the edge use of an item of this rank on this edge
abbrev pub use_of : ℕ → Pt × Pt → EdgeUse
use_of rank e = record { key = edge_key (edge_of e); edge = edge_of e; rank = rank }

-- the edge uses of an item that has this rank and these edges
abbrev pub uses_of : ℕ → List (Pt × Pt) → List EdgeUse
uses_of rank edges = map (use_of rank) edges

-- an edge use has the key of its edge
abbrev pub HasEdgeKey : EdgeUse → Type 0
HasEdgeKey edge_use = edge_use.key ≡ edge_key edge_use.edge

-- an edge use with its edge's key, of an item whose rank is below count
pub record IsUseBelow (count : ℕ) (edge_use : EdgeUse) : Type 0 where
  pub key : HasEdgeKey edge_use
  pub rank : edge_use.rank < count

-- the edge uses of items, the first of which has this rank: each item is the list of its edges
abbrev pub uses_from : ℕ → List (List (Pt × Pt)) → List EdgeUse
uses_from rank [] = []
uses_from rank (edges ∷ items) = uses_of rank edges ++ uses_from (rank + 1) items

-- the items in the order of these numbers
abbrev pub in_order : List (List (Pt × Pt)) → List ℕ → List (List (Pt × Pt))
in_order items order = map (λ number. slice_index_or items number []) order

-- both edge uses lie on one edge
unfoldable pub on_one_edge : EdgeUse → EdgeUse → Bool
on_one_edge s t = same_point s.edge.u t.edge.u && same_point s.edge.v t.edge.v

-- some edge use of the item i and some edge use of the item j lie on one edge
abbrev pub are_adjacent_in : List EdgeUse → ℕ → ℕ → Bool
are_adjacent_in uses i j = list_any (λ s. s.rank == i && list_any (λ t. t.rank == j && on_one_edge s t) uses) uses

-- an edge use that no rule asks for, at the origin
abbrev pub no_use : EdgeUse
no_use =
    let origin : Pt = record { x = pos 0; y = pos 0; z = pos 0 } in record
    { key = 0; edge = record { u = origin; v = origin }; rank = 0 }

-- the edge use at this place, if there is one
abbrev pub use_at : List EdgeUse → ℕ → EdgeUse
use_at uses place = slice_index_or uses place no_use

-- the edge use at this place is the first one on its edge
abbrev pub begins_edge : List EdgeUse → ℕ → Bool
begins_edge uses place = place == 0 || not (on_one_edge (use_at uses (place - 1)) (use_at uses place))

-- where each edge begins, and last the number of edge uses
abbrev pub edge_starts : List EdgeUse → List ℕ
edge_starts uses = filter (begins_edge uses) (range_with_len 0 (length uses)) ++ length uses ∷ []

-- uses of one edge follow one another, and ascend by rank
pub record AreInOrder (uses : List EdgeUse) : Type 0 where
  pub grouped : (a p b : ℕ) → a ≤ p → p ≤ b → b < length uses → on_one_edge (use_at uses a) (use_at uses b) ≡ true →
      on_one_edge (use_at uses a) (use_at uses p) ≡ true
  pub ascend : (a b : ℕ) → a ≤ b → b < length uses → on_one_edge (use_at uses a) (use_at uses b) ≡ true →
      (use_at uses a).rank ≤ (use_at uses b).rank
