-- The cut of a DAG: the clusters that are drawn through a lens while these pages are resident.
use Rattle.std.specs.Prelude.{◌≡◌, Bool, false, not, ◌&&◌, ◌||◌, ◌==◌, ℕ, ◌+◌, ◌<◌, List, length, map, filter, flat_map}
use Rattle.std.specs.Prelude.{Option, Some, None, IsTrue, slice_index, slice_index_or}
use Rattle.std.specs.List.{enumerate_from, list_any}
use Rattle.geom_core.specs.declared.triangles.Tagged.{Tagged}
use Rattle.geom_core.specs.declared.triangles.Tri.{Tri}
use Rattle.geom_core.specs.declared.views.Lens.{Lens}
use Rattle.geom_core.specs.Picture.{Item}
use Rattle.dag_core.specs.declared.dags.Dag.{Dag}
use Rattle.dag_core.specs.declared.heads.Heads.{Heads}
use Rattle.dag_core.specs.Coarse.{is_coarse_group}
use Rattle.dag_core.specs.Members.{all_clusters, cluster_at, group_at, home}
use Rattle.dag_core.specs.PageSets.{has_page}
use Rattle.dag_core.specs.TriangleRules.{is_near}
use Rattle.dag_core.specs.Triangles.{source_of}

-- a group is open, so that its members may be drawn: its page is resident, and it is terminal or coarse
unfoldable pub is_open : Heads → Lens → List ℕ → ℕ → Bool
is_open heads lens resident g =
    has_page resident (group_at heads g).page &&
    ((group_at heads g).terminal || is_coarse_group lens (group_at heads g))

-- the maker is an open group
abbrev pub is_maker_open : Heads → Lens → List ℕ → Option ℕ → Bool
is_maker_open heads lens resident None = false
is_maker_open heads lens resident (Some maker) = is_open heads lens resident maker

-- a cluster is in the cut: its home is open, and no open group made it
abbrev pub is_in_cut : Heads → Lens → List ℕ → ℕ → Bool
is_in_cut heads lens resident c =
    is_open heads lens resident (home heads c) && not (is_maker_open heads lens resident (cluster_at heads c).made)

-- the cut, ascending
abbrev pub cut_of : Heads → Lens → List ℕ → List ℕ
cut_of heads lens resident = filter (is_in_cut heads lens resident) (all_clusters heads)

-- the triangles of these clusters under a choice of triangles by cluster, each with its cluster and its place there
abbrev pub cut_items : (ℕ → List Tri) → List ℕ → List Item
cut_items tris cut =
    flat_map (λ c. map (λ (k, t). record { cluster = c; place = k; tri = t }) (enumerate_from 0 (tris c))) cut

-- the same triangles without their numbers
abbrev pub cut_tris : (ℕ → List Tri) → List ℕ → List Tri
cut_tris tris cut = map (λ item. item.tri) (cut_items tris cut)

-- a path of a DAG from a leaf to the end: the first cluster is a leaf, each next one was made by the home of the one
-- before it, and the last one's home is terminal
pub record IsPath (heads : Heads) (path : List ℕ) : Type 0 where
  pub some : 0 < length path
  pub clusters : (k : ℕ) → k < length path → slice_index path k < length heads.clusters
  pub leaf : (cluster_at heads (slice_index path 0)).made ≡ None
  pub made : (k : ℕ) → k + 1 < length path →
      (cluster_at heads (slice_index path (k + 1))).made ≡ Some (home heads (slice_index path k))
  pub end : (k : ℕ) → k + 1 ≡ length path → IsTrue (group_at heads (home heads (slice_index path k))).terminal

-- the list has this cluster
abbrev pub has_cluster : List ℕ → ℕ → Bool
has_cluster clusters c = list_any (λ d. d == c) clusters

-- exactly one cluster of the path is in the cut
pub record MeetsOnce (cut path : List ℕ) : Type 0 where
  pub place : ℕ
  pub within : place < length path
  pub there : IsTrue (has_cluster cut (slice_index path place))
  pub only : (k : ℕ) → k < length path → IsTrue (has_cluster cut (slice_index path k)) → k ≡ place

-- each corner of the triangle is at most this far from the same corner of its source triangle; `other` stands for a
-- source
-- triangle that isn't there
abbrev pub IsNearSource : Dag → ℕ → Tri → Tagged → Type 0
IsNearSource dag most other t = IsTrue (is_near most t.tri (slice_index_or (source_of dag) t.source other))
