use Rattle.shape_gen.specs.Lattice.{is_on_surface}
use Rattle.shape_gen.proofs.lattice.is_on_surface.Goals as goal
use Rattle.std.proofs.Common.{arith}
use Rattle.std.proofs.lemmas.Grind.{common_steps}

pub returns-then-p-eq0-3 : goal.returns-then-p-eq0-3
unfolding is_on_surface
returns-then-p-eq0-3 c = grind (arith, common_steps)

pub returns-else-p-eq0-3 : goal.returns-else-p-eq0-3
unfolding is_on_surface
returns-else-p-eq0-3 c = grind (arith, common_steps)
