use Rattle.std.proofs.Common.{All, take}
use Rattle.dag_core.specs.TriangleRules.{IsSourcedTriangle}
use Rattle.dag_soundness.proofs.tests.are_sourced.Given as goal

abbrev pub invariant-tris : goal.invariant-tris
invariant-tris l = All (IsSourcedTriangle l.sources) (take l.t-index l.tris)
