use Rattle.dag_build.proofs.BuiltDags.{in_range, rules}
use Rattle.dag_build.proofs.laws.built_dags_are_checked.Goals as goal

pub returns : goal.returns
returns c = record { range = in_range; rules = rules }
