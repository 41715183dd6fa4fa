use Rattle.std.proofs.Common.{◌≡◌, ◌-◌, ◌≤◌, ◌<◌, length, Some}
use Rattle.dag_core.specs.Members.{cluster_at}
use Rattle.dag_soundness.proofs.MadeLaws.{made_before}
use Rattle.dag_soundness.proofs.made_index.MadeIndex.made_by.Given as goal

abbrev pub invariant-made : goal.invariant-made
invariant-made l = record {
  made : l.made.items ≡ made_before l.heads l.group l.next;
  within : l.next ≤ length l.heads.clusters;
  maker : l.next < length l.heads.clusters → (cluster_at l.heads l.next).made ≡ Some l.group;
}

abbrev pub decreases-made : goal.decreases-made
decreases-made l = length l.heads.clusters - l.next
