use Rattle.std.proofs.Common.{◌≤◌, length}
use Rattle.dag_soundness.proofs.MadeLaws.{AreLinked}
use Rattle.dag_soundness.proofs.made_index.link.Given as goal

abbrev pub invariant-clusters : goal.invariant-clusters
invariant-clusters l = record {
  within : l.c ≤ length l.clusters;
  links : AreLinked l.clusters l.firsts l.nexts (length l.fn.firsts) l.c;
}

abbrev pub decreases-clusters : goal.decreases-clusters
decreases-clusters l = l.c
