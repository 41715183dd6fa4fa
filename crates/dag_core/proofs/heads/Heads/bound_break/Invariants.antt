use Rattle.dag_core.specs.Rules.{breaks_bound}
use Rattle.dag_core.proofs.PlaceLaws.{NoneBefore}
use Rattle.dag_core.proofs.heads.Heads.bound_break.Given as goal

abbrev pub invariant-loop-c : goal.invariant-loop-c
invariant-loop-c l = NoneBefore (breaks_bound l.self) l.c
