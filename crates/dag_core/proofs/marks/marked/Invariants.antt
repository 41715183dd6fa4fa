use Rattle.std.proofs.Common.{◌≡◌, filter}
use Rattle.std.specs.List.{range_with_len}
use Rattle.dag_core.specs.Internal.Marks.{is_marked}
use Rattle.dag_core.proofs.marks.marked.Given as goal

abbrev pub invariant-loop-k : goal.invariant-loop-k
invariant-loop-k l = l.numbers.items ≡ filter (is_marked l.marks) (range_with_len 0 l.k)
