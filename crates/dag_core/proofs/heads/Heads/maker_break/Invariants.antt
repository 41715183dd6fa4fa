use Rattle.dag_core.specs.Rules.{breaks_maker}
use Rattle.dag_core.proofs.PlaceLaws.{NoneBefore}
use Rattle.dag_core.proofs.heads.Heads.maker_break.Given as goal

abbrev pub invariant-loop-c : goal.invariant-loop-c
invariant-loop-c l = NoneBefore (breaks_maker l.self) l.c
