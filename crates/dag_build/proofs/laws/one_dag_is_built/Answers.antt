use Rattle.dag_build.proofs.OneDag.{one_dag}
use Rattle.dag_build.proofs.laws.one_dag_is_built.Goals as goal

pub returns : goal.returns
returns c = record { dag = one_dag }
