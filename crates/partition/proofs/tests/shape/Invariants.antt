use Rattle.std.proofs.Common.{All}
use Rattle.partition.specs.Groups.{IsGridEdge}
use Rattle.partition.proofs.tests.shape.Given as goal

abbrev pub invariant-loop-u : goal.invariant-loop-u
invariant-loop-u l = All IsGridEdge l.edges.items
