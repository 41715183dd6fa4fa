use Rattle.std.proofs.Common.{◌≡◌, length, All}
use Rattle.partition.specs.Groups.{IsGridShape}
use Rattle.partition.proofs.tests.row_of_shapes.Given as goal

abbrev pub invariant-loop-number : goal.invariant-loop-number
invariant-loop-number l = (length l.shapes.items ≡ l.number) × All IsGridShape l.shapes.items
