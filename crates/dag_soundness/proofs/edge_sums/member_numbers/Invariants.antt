use Rattle.std.proofs.Common.{◌≡◌}
use Rattle.std.specs.List.{range_with_len}
use Rattle.dag_soundness.proofs.edge_sums.member_numbers.Given as goal

abbrev pub invariant-members : goal.invariant-members
invariant-members l = l.numbers.items ≡ range_with_len l.group.first l.k
