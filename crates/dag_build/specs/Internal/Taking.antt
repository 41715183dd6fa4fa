-- How clusters are moved out of a level: each by its number, once.
use Rattle.std.specs.Prelude.{◌≡◌, ◌<◌, ◌++◌, ℕ, false, List, length, take, slice_index, slice_index_or}
use Rattle.partition.specs.Growing.{is_in}
use Rattle.dag_build.specs.declared.level_clusters.LevelCluster.{LevelCluster}
use Rattle.dag_build.specs.Grouping.{no_cluster}

-- the clusters whose numbers aren't among those taken are in their places
pub record AreLeft (clusters : List LevelCluster) (taken : List ℕ) (slots : List LevelCluster) : Type 0 where
  pub count : length slots ≡ length clusters
  pub each : (k : ℕ) → k < length clusters → is_in taken k ≡ false →
      slice_index_or slots k no_cluster ≡ slice_index_or clusters k no_cluster

-- each number is neither among those taken nor among the numbers before it
abbrev pub AreFresh : List ℕ → List ℕ → Type 0
AreFresh taken numbers = (i : ℕ) → i < length numbers → is_in (taken ++ take i numbers) (slice_index numbers i) ≡ false
