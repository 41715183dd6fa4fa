use Rattle.dag_core.specs.TriangleRules.{breaks_source}
use Rattle.dag_core.proofs.PlaceLaws.{NoneBefore}
use Rattle.dag_soundness.proofs.leaf_places.first_source_break.Given as goal

abbrev pub invariant-sources : goal.invariant-sources
invariant-sources l = NoneBefore (breaks_source l.dag) l.source
