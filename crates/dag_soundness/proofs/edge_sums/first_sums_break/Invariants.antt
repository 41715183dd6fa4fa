use Rattle.dag_core.specs.TriangleRules.{breaks_sums}
use Rattle.dag_core.proofs.PlaceLaws.{NoneBefore}
use Rattle.dag_soundness.proofs.edge_sums.first_sums_break.Given as goal

abbrev pub invariant-groups : goal.invariant-groups
invariant-groups l = NoneBefore (breaks_sums l.dag) l.g
