use Rattle.std.proofs.Common.{◌≡◌, ◌++◌, List, ℕ, length, take}
use Rattle.partition.specs.Batches.{pick}
use Rattle.dag_build.specs.declared.level_clusters.LevelCluster.{LevelCluster}
use Rattle.dag_build.specs.Grouping.{no_cluster}
use Rattle.dag_build.specs.Internal.Taking.{AreFresh, AreLeft}
use Rattle.dag_build.proofs.members.take_members.Given as goal

-- the clusters of the numbers so far have been moved out
abbrev pub invariant-loop-number : goal.invariant-loop-number
invariant-loop-number l = record {
  count : length l.slots.items ≡ length l.fn.slots.items;
  slots : (clusters : List LevelCluster) (taken : List ℕ) → AreLeft clusters taken l.fn.slots.items →
      AreLeft clusters (taken ++ take l.number-index l.numbers) l.slots.items;
  members : (clusters : List LevelCluster) (taken : List ℕ) → AreLeft clusters taken l.fn.slots.items →
      AreFresh taken l.numbers → l.members.items ≡ pick clusters no_cluster (take l.number-index l.numbers);
}
