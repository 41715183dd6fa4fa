use Rattle.std.proofs.Common.{◌≡◌, take}
use Rattle.dag_build.specs.Outcomes.{points_of}
use Rattle.dag_build.proofs.outcomes.list_points.Given as goal

abbrev pub invariant-loop-member : goal.invariant-loop-member
invariant-loop-member l = l.points.items ≡ points_of (take l.member-index l.members)
