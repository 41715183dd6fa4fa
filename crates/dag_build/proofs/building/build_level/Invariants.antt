use Rattle.std.proofs.Common.{take}
use Rattle.std.specs.List.{concat}
use Rattle.dag_build.specs.Internal.Taking.{AreLeft}
use Rattle.dag_build.proofs.LevelLaws.{BatchesAre, GroupsSoFar}
use Rattle.dag_build.proofs.building.build_level.Given as goal

-- the batches so far are groups with their outcomes
abbrev pub invariant-loop-place : goal.invariant-loop-place
invariant-loop-place l = record {
  facts : BatchesAre l.fn.clusters.items l.batch-items;
  left : AreLeft l.fn.clusters.items (concat (take l.place l.batch-items)) l.slots.items;
  groups : GroupsSoFar l.fn.clusters.items l.batch-items l.place l.groups.items l.made.items;
}
