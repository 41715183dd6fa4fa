use Rattle.std.proofs.Common.{All}
use Rattle.partition.specs.Groups.{IsGridEdge}
use Rattle.geode_bench.proofs.first_level.edges_in_grid.Given as goal

abbrev pub invariant-loop-edge : goal.invariant-loop-edge
invariant-loop-edge l = All IsGridEdge l.edges.items
