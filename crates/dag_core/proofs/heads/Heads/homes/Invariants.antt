use Rattle.std.proofs.Common.{◌≡◌, map}
use Rattle.std.specs.List.{range_with_len}
use Rattle.dag_core.specs.Members.{home}
use Rattle.dag_core.specs.Rules.{members_before}
use Rattle.dag_core.proofs.heads.Heads.homes.Given as goal

abbrev pub invariant-loop-g : goal.invariant-loop-g
invariant-loop-g l = l.homes.items ≡ map (home l.self) (range_with_len 0 (members_before l.self l.g))
