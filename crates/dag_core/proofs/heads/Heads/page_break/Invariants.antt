use Rattle.dag_core.specs.Rules.{breaks_page}
use Rattle.dag_core.proofs.PlaceLaws.{NoneBefore}
use Rattle.dag_core.proofs.heads.Heads.page_break.Given as goal

abbrev pub invariant-loop-p : goal.invariant-loop-p
invariant-loop-p l = NoneBefore (breaks_page l.self) l.p
