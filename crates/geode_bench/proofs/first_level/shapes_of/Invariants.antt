use Rattle.std.proofs.Common.{All}
use Rattle.partition.specs.Groups.{IsGridShape}
use Rattle.geode_bench.proofs.first_level.shapes_of.Given as goal

abbrev pub invariant-loop-cluster : goal.invariant-loop-cluster
invariant-loop-cluster l = All IsGridShape l.shapes.items
