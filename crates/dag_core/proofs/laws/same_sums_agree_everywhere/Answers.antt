use Rattle.dag_core.proofs.SumLaws.{agree_everywhere, sums_agree}
use Rattle.dag_core.proofs.laws.same_sums_agree_everywhere.Goals as goal

pub returns : goal.returns
returns c = record { sums = λ tris others. (sums_agree tris others, agree_everywhere tris others) }
