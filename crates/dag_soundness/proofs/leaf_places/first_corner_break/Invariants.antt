use Rattle.dag_core.specs.TriangleRules.{breaks_corners}
use Rattle.dag_core.proofs.PlaceLaws.{NoneBefore}
use Rattle.dag_soundness.proofs.leaf_places.first_corner_break.Given as goal

abbrev pub invariant-clusters : goal.invariant-clusters
invariant-clusters l = NoneBefore (breaks_corners l.dag) l.c
