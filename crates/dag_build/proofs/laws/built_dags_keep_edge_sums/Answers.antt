use Rattle.dag_build.proofs.MadeSums.{edge_sums}
use Rattle.dag_build.proofs.laws.built_dags_keep_edge_sums.Goals as goal

pub returns : goal.returns
returns c = record { sums = edge_sums }
