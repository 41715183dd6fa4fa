use Rattle.dag_build.proofs.BuiltDags.{total}
use Rattle.dag_build.proofs.ErrorLaws.{errors}
use Rattle.dag_build.proofs.laws.built_dags_are_small.Goals as goal

pub returns : goal.returns
returns c = record { triangle_limit = total; error_limit = errors }
