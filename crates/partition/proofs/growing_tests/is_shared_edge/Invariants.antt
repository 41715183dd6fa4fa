use Rattle.std.proofs.Common.{ℕ, ◌<◌, ◌≤◌, get_or}
use Rattle.partition.proofs.growing_tests.is_shared_edge.Given as goal

abbrev pub invariant-loop-item : goal.invariant-loop-item
invariant-loop-item l = record {
  rises : (i j : ℕ) → i ≤ j → j < l.item-index → get_or l.items i 0 ≤ get_or l.items j 0;
  past : (k : ℕ) → k < l.item-index → get_or l.items k 0 ≤ l.low;
  below : (k : ℕ) → k < l.item-index → get_or l.items k 0 < l.limit;
}
