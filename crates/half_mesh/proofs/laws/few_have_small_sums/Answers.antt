use Rattle.half_mesh.proofs.RimLaws.{few_have_small_sums}
use Rattle.half_mesh.proofs.laws.few_have_small_sums.Goals as goal

pub returns : goal.returns
returns c = few_have_small_sums
