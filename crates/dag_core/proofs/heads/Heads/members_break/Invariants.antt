use Rattle.std.proofs.Common.{◌≡◌}
use Rattle.dag_core.specs.Rules.{breaks_members, members_before}
use Rattle.dag_core.proofs.PlaceLaws.{NoneBefore}
use Rattle.dag_core.proofs.heads.Heads.members_break.Given as goal

abbrev pub invariant-loop-g : goal.invariant-loop-g
invariant-loop-g l =
    record { kept : NoneBefore (breaks_members l.self) l.g; sum : l.before ≡ members_before l.self l.g }
