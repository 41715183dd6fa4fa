use Rattle.std.proofs.Common.{arith}
use Rattle.std.proofs.lemmas.Grind.{common_steps}
use Rattle.std.proofs.lemmas.Int.{ints}
use Rattle.shape_gen.specs.Lattice.{x_at, y_at, z_at}
use Rattle.shape_gen.proofs.lattice.point_at.Goals as goal

pub returns : goal.returns
unfolding x_at y_at z_at
returns c = grind (arith, common_steps, ints)
