use Rattle.dag_build.proofs.BuiltDags.{laid_out}
use Rattle.dag_build.proofs.laws.built_dags_can_be_laid_out.Goals as goal

pub returns : goal.returns
returns c = record { layout = laid_out }
