use Rattle.partition.proofs.Permuted.{grown_permutation}
use Rattle.partition.proofs.laws.grown_orders_are_permutations.Goals as goal

pub returns : goal.returns
returns c = grown_permutation
