-- Worked examples of batches, clusters and groups, computed by the checker.
use Rattle.std.proofs.Common.{◌≡◌, ◌<◌, ◌≤◌, ◌+◌, ℕ, zero, suc, ◌∷◌, [], List, pos, true, length, get_or, refl, ap}
use Rattle.std.proofs.Common.{arith}
use Rattle.std.proofs.lemmas.Bool.{false≢true}
use Rattle.std.specs.List.{concat}
use Rattle.geom_core.specs.declared.points.Pt.{Pt}
use Rattle.geom_core.specs.declared.triangles.Tri.{Tri}
use Rattle.geom_core.specs.Boxes.{low_of}
use Rattle.geom_core.specs.EdgeSum.{same_point, edges_of}
use Rattle.half_mesh.specs.declared.edges.Edge.{Edge}
use Rattle.partition.specs.declared.shapes.ClusterShape.{ClusterShape}
use Rattle.partition.specs.Batches.{AreBatches, AreFullButLast, pick}
use Rattle.partition.specs.Clusters.{AreClusters}
use Rattle.partition.specs.Groups.{AreGroups, IsGridEdge, IsGridShape, rim_edges}
use Rattle.partition.specs.Growing.{batches_of, is_grown, is_in, is_next}
use Rattle.partition.specs.Morton.{cell_of, interleave, morton_of}
use Rattle.partition.specs.Neighbours.{same_edge, share_edge}
use Rattle.partition.specs.OneBatch.{IsInOneBatch}

abbrev point : ℕ → Pt
point x = record { x = pos x; y = pos 0; z = pos 0 }

abbrev at : ℕ → ℕ → Pt
at x y = record { x = pos x; y = pos y; z = pos 0 }

abbrev edge : ℕ → ℕ → Edge
edge u v = record { u = point u; v = point v }

only : {X : Type 0} (k : ℕ) (x d : X) → k < 1 → get_or (x ∷ []) k d ≡ x
only zero x d h = refl
only (suc k) x d h = absurd (omega arith)

-- ---- batches

-- Three items that share no edge, by two: the least key first.
abbrev apart : List (List (Pt × Pt))
apart = [] ∷ [] ∷ [] ∷ []

pub batches_by_key : AreBatches (5 ∷ 3 ∷ 4 ∷ []) apart 2 ((1 ∷ 2 ∷ []) ∷ (0 ∷ []) ∷ [])
unfolding is_grown is_next share_edge same_edge same_point batches_of
batches_by_key = record { grown = refl; split = refl }

pub batches_not_by_number : AreBatches (5 ∷ 3 ∷ 4 ∷ []) apart 2 ((0 ∷ 1 ∷ []) ∷ (2 ∷ []) ∷ []) → ⊥
unfolding is_grown is_next share_edge same_edge same_point
batches_not_by_number b = absurd (false≢true b.grown)

-- the order is right, but the first batch isn't full
pub batches_not_short : AreBatches (5 ∷ 3 ∷ 4 ∷ []) apart 2 ((1 ∷ []) ∷ (2 ∷ 0 ∷ []) ∷ []) → ⊥
unfolding batches_of
batches_not_short b =
    let first : 1 ≡ 2 = ap (λ bs. length (get_or bs 0 [])) b.split in
    absurd (omega (arith, first))

-- Items 0 and 2 share an edge: 2 comes before 1, which has a lesser key.
pub batches_by_edge : AreBatches (1 ∷ 2 ∷ 3 ∷ []) (((point 0, point 8) ∷ []) ∷ [] ∷ ((point 8, point 0) ∷ []) ∷ []) 8
    ((0 ∷ 2 ∷ 1 ∷ []) ∷ [])
unfolding is_grown is_next share_edge same_edge same_point batches_of
batches_by_edge = record { grown = refl; split = refl }

-- With one item a batch the second batch begins empty, so 1 comes before 2.
pub batches_end : AreBatches (1 ∷ 2 ∷ 3 ∷ []) (((point 0, point 8) ∷ []) ∷ [] ∷ ((point 8, point 0) ∷ []) ∷ []) 1
    ((0 ∷ []) ∷ (1 ∷ []) ∷ (2 ∷ []) ∷ [])
unfolding is_grown is_next share_edge same_edge same_point batches_of
batches_end = record { grown = refl; split = refl }

pub pick_in_order : pick {X = ℕ} (7 ∷ 8 ∷ 9 ∷ []) 1 (2 ∷ 0 ∷ 5 ∷ 0 ∷ []) ≡ 9 ∷ 7 ∷ 1 ∷ 7 ∷ []
pick_in_order = refl

-- how many batches, none empty, none too long, and only the last one short
pub full-count : AreFullButLast 2 5 ((0 ∷ 1 ∷ []) ∷ (2 ∷ 3 ∷ []) ∷ []) → ⊥
full-count f = let count : 2 ≡ 3 = f.batch_count in absurd (omega (arith, count))

pub full-no_more : AreFullButLast 2 4 ((0 ∷ 1 ∷ []) ∷ (2 ∷ 3 ∷ []) ∷ (4 ∷ []) ∷ []) → ⊥
full-no_more f = let count : 3 ≡ 2 = f.batch_count in absurd (omega (arith, count))

pub full-empty : AreFullButLast 2 3 ((0 ∷ 1 ∷ []) ∷ [] ∷ []) → ⊥
full-empty f = let some : 0 < 0 = f.not_empty 1 [] (omega arith) in absurd (omega (arith, some))

pub full-long : AreFullButLast 2 3 ((0 ∷ 1 ∷ []) ∷ (2 ∷ 3 ∷ 4 ∷ []) ∷ []) → ⊥
full-long f = let most : 3 ≤ 2 = f.size_limit 1 [] (omega arith) in absurd (omega (arith, most))

pub full-short : AreFullButLast 2 3 ((0 ∷ []) ∷ (1 ∷ 2 ∷ []) ∷ []) → ⊥
full-short f = let first : 1 ≡ 2 = f.full 0 (omega arith) in absurd (omega (arith, first))

-- a batch that is full, and one that has one item less
pub full_batch : AreFullButLast 2 2 ((1 ∷ 0 ∷ []) ∷ [])
full_batch = record {
  batch_count = refl;
  not_empty = λ k d h. rw (only k (1 ∷ 0 ∷ []) d h) (omega arith);
  size_limit = λ k d h. rw (only k (1 ∷ 0 ∷ []) d h) (omega arith);
  full = λ k h. absurd (omega arith);
}

pub last_batch : AreFullButLast 2 1 ((0 ∷ []) ∷ [])
last_batch = record {
  batch_count = refl;
  not_empty = λ k d h. rw (only k (0 ∷ []) d h) (omega arith);
  size_limit = λ k d h. rw (only k (0 ∷ []) d h) (omega arith);
  full = λ k h. absurd (omega arith);
}

-- an item is in a batch, and in no other
pub in_no_batch : IsInOneBatch ((1 ∷ []) ∷ []) 2 → ⊥
in_no_batch b = in_first b.batch b.there b.holds
  where
    in_first : (batch : ℕ) → batch < 1 → is_in (get_or ((1 ∷ []) ∷ []) batch []) 2 ≡ true → ⊥
    in_first zero h e = absurd (false≢true e)
    in_first (suc k) h e = absurd (omega arith)

pub in_two_batches : IsInOneBatch ((1 ∷ []) ∷ (1 ∷ []) ∷ []) 1 → ⊥
in_two_batches b = absurd (omega (arith, b.only 0 (omega arith) refl, b.only 1 (omega arith) refl))

-- ---- clusters

abbrev tri : ℕ → Tri
tri x = record { a = point x; b = point (x + 8); c = record { x = pos x; y = pos 8; z = pos 0 } }

-- Three triangles, of which two share a point alone: by key.
abbrev row : List Tri
row = tri 80 ∷ tri 40 ∷ tri 48 ∷ []

pub clusters_by_key : AreClusters row ((1 ∷ 2 ∷ 0 ∷ []) ∷ [])
unfolding is_grown is_next share_edge same_edge same_point edges_of low_of morton_of cell_of interleave batches_of
clusters_by_key = record { grown = refl; split = refl }

pub clusters_not_by_number : AreClusters row ((0 ∷ 1 ∷ 2 ∷ []) ∷ []) → ⊥
unfolding is_grown is_next share_edge same_edge same_point edges_of low_of morton_of cell_of interleave
clusters_not_by_number c = absurd (false≢true c.grown)

-- The first and the last share an edge: the last comes before the second, which has a lesser key.
abbrev sharing : List Tri
sharing =
    record { a = at 0 0; b = at 8 0; c = at 8 8 } ∷ record { a = at 0 0; b = at 0 8; c = at 0 4 } ∷ record
    { a = at 8 0; b = at 16 0; c = at 8 8 } ∷ []

pub clusters_by_edge : AreClusters sharing ((0 ∷ 2 ∷ 1 ∷ []) ∷ [])
unfolding is_grown is_next share_edge same_edge same_point edges_of low_of morton_of cell_of interleave batches_of
clusters_by_edge = record { grown = refl; split = refl }

-- 128 triangles are one cluster
pub clusters_of_128 : (tris : List Tri) (clusters : List (List ℕ)) → AreClusters tris clusters →
    clusters ≡ batches_of 128 (concat clusters)
clusters_of_128 tris clusters c = c.split

-- ---- groups

abbrev shape : ℕ → Edge → ClusterShape
shape low e = record { low = point low; rim = e ∷ [] }

pub rim_of_shape : rim_edges (record { low = point 0; rim = edge 0 8 ∷ edge 9 3 ∷ [] }) ≡ (point 0, point 8) ∷
    (point 9, point 3) ∷ []
rim_of_shape = refl

-- Three clusters: the first in rank is the last, and shares an edge with the second, which ranks last.
abbrev three : List ClusterShape
three = shape 60 (edge 60 68) ∷ shape 80 (edge 8 0) ∷ shape 40 (edge 0 8) ∷ []

pub groups_by_key_and_rim : AreGroups three ((2 ∷ 1 ∷ 0 ∷ []) ∷ [])
unfolding is_grown is_next share_edge same_edge same_point morton_of cell_of interleave batches_of
groups_by_key_and_rim = record { grown = refl; split = refl }

-- not by key alone, and not by number
pub groups_not_by_key : AreGroups three ((2 ∷ 0 ∷ 1 ∷ []) ∷ []) → ⊥
unfolding is_grown is_next share_edge same_edge same_point morton_of cell_of interleave
groups_not_by_key g = absurd (false≢true g.grown)

pub groups_not_by_number : AreGroups three ((0 ∷ 1 ∷ 2 ∷ []) ∷ []) → ⊥
unfolding is_grown is_next share_edge same_edge same_point morton_of cell_of interleave
groups_not_by_number g = absurd (false≢true g.grown)

-- eight clusters are one group
pub groups_of_8 : (shapes : List ClusterShape) (groups : List (List ℕ)) → AreGroups shapes groups →
    groups ≡ batches_of 8 (concat groups)
groups_of_8 shapes groups g = g.split

-- both ends of each rim edge, and the low corner, are points of a mesh
pub grid_shape : IsGridShape (shape 1048576 (edge 0 1048576))
grid_shape = record { low = refl; rim = λ k d h. rw (only k (edge 0 1048576) d h) (record { u = refl; v = refl }) }

pub grid_shape-low : IsGridShape (shape 1048577 (edge 0 8)) → ⊥
grid_shape-low s = absurd (false≢true s.low)

pub grid_shape-rim : IsGridShape (shape 0 (edge 1048577 8)) → ⊥
grid_shape-rim s = absurd (false≢true (s.rim 0 (edge 0 0) (omega arith)).u)

pub grid_edge-u : IsGridEdge (edge 1048577 8) → ⊥
grid_edge-u e = absurd (false≢true e.u)

pub grid_edge-v : IsGridEdge (edge 8 1048577) → ⊥
grid_edge-v e = absurd (false≢true e.v)
