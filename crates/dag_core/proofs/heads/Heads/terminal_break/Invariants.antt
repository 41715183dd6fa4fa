use Rattle.dag_core.specs.Rules.{breaks_terminal}
use Rattle.dag_core.proofs.PlaceLaws.{NoneBefore}
use Rattle.dag_core.proofs.heads.Heads.terminal_break.Given as goal

abbrev pub invariant-loop-g : goal.invariant-loop-g
invariant-loop-g l = NoneBefore (breaks_terminal l.self) l.g
