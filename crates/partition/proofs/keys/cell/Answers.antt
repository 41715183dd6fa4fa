use Rattle.std.proofs.Common.{arith}
use Rattle.std.proofs.lemmas.Int.{ints, to_z-of_z}
use Rattle.partition.specs.Morton.{cell_of}
use Rattle.partition.proofs.keys.cell.Goals as goal

pub returns-clause-cell : goal.returns-clause-cell
unfolding cell_of
returns-clause-cell c = grind (arith, ints, to_z-of_z)
