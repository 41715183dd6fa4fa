use Rattle.std.proofs.Common.{◌≡◌, take}
use Rattle.dag_build.specs.Outcomes.{greatest_error}
use Rattle.dag_build.proofs.outcomes.greatest_error.Given as goal

abbrev pub invariant-loop-member : goal.invariant-loop-member
invariant-loop-member l = l.greatest ≡ greatest_error (take l.member-index l.members)
