use Rattle.std.proofs.Common.{◌≡◌, ◌+◌, map}
use Rattle.std.specs.List.{range_with_len}
use Rattle.dag_core.specs.Members.{group_at, home}
use Rattle.dag_core.proofs.heads.Heads.push_home.Given as goal

abbrev pub invariant-loop-member : goal.invariant-loop-member
invariant-loop-member l = l.homes.items ≡ map (home l.self) (range_with_len 0 ((group_at l.self l.g).first + l._member))
