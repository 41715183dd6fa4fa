-- The clusters that each group made, one after the other, and an index of them.
use Rattle.std.specs.Prelude.{◌≡◌, ℕ, Some, ◌+◌, ◌<◌, List, [], ◌∷◌, length, drop, slice_index, if◌then◌else◌}
use Rattle.dag_core.specs.declared.cluster_heads.ClusterHead.{ClusterHead}
use Rattle.dag_core.specs.declared.heads.Heads.{Heads}
use Rattle.dag_core.specs.Members.{is_made_by, cluster_at}

-- the first of these clusters that the group made, where they are numbered from c on; the number after them if none
abbrev pub next_in : ℕ → ℕ → List ClusterHead → ℕ
next_in g c [] = c
next_in g c (cluster ∷ clusters) = if is_made_by g cluster then c else next_in g (c + 1) clusters

-- the first cluster from c on that the group made, or the number of clusters
unfoldable pub next_made : List ClusterHead → ℕ → ℕ → ℕ
next_made clusters g c = next_in g c (drop c clusters)

-- the first cluster that each group made, and for each cluster the next one of its maker
pub record MadeLinks : Type 0 where
  pub firsts : List ℕ
  pub nexts : List ℕ

-- the index of these heads
pub record IsMadeIndexOf (heads : Heads) (links : MadeLinks) : Type 0 where
  pub first_count : length links.firsts ≡ length heads.groups
  pub next_count : length links.nexts ≡ length heads.clusters
  pub firsts : (g : ℕ) → g < length heads.groups → slice_index links.firsts g ≡ next_made heads.clusters g 0
  pub nexts : (g c : ℕ) → c < length heads.clusters → (cluster_at heads c).made ≡ Some g →
      slice_index links.nexts c ≡ next_made heads.clusters g (c + 1)
