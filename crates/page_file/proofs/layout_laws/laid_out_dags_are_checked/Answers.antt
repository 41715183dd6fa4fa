use Rattle.page_file.proofs.LaidRules.{laid_dag}
use Rattle.page_file.proofs.layout_laws.laid_out_dags_are_checked.Goals as goal

pub returns : goal.returns
returns c = record { laid_out = laid_dag }
