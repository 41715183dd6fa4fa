use Rattle.std.proofs.Common.{◌≡◌, length}
use Rattle.dag_core.proofs.ClosingLaws.{IsChainWalk, left_of}
use Rattle.dag_core.proofs.heads.Heads.mark_uppers.Given as goal

abbrev pub invariant-loop-next : goal.invariant-loop-next
invariant-loop-next l = record {
  count : length l.marks.items ≡ length l.initial.marks.items;
  walk : IsChainWalk l.self l.p l.initial.marks.items l.marks.items l.next;
}

abbrev pub decreases-loop-next : goal.decreases-loop-next
decreases-loop-next l = left_of l.next
