use Rattle.std.proofs.Common.{All, take}
use Rattle.dag_core.specs.TriangleRules.{IsSourcedTriangle}
use Rattle.dag_soundness.proofs.tests.are_all_sourced.Given as goal

abbrev pub invariant-lists : goal.invariant-lists
invariant-lists l = All (All (IsSourcedTriangle l.sources)) (take l.list-index l.lists)
