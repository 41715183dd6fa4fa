use Rattle.std.proofs.Common.{arith}
use Rattle.std.proofs.lemmas.Grind.{common_steps}
use Rattle.shape_gen.specs.Lattice.{offset}
use Rattle.shape_gen.proofs.lattice.offset.Goals as goal

pub returns-clause-offset : goal.returns-clause-offset
unfolding offset
returns-clause-offset c = grind (arith, common_steps)
