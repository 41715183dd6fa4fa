use Rattle.std.proofs.Common.{◌≡◌, length}
use Rattle.dag_core.proofs.ClosingLaws.{IsJudged}
use Rattle.dag_core.proofs.heads.Heads.closed_from.Given as goal

abbrev pub invariant-loop-judged : goal.invariant-loop-judged
invariant-loop-judged l = record {
  count : length l.closed.items ≡ l.self.pages;
  judged : IsJudged l.self l.fn.marks.items l.closed.items l.judged;
}
