use Rattle.dag_core.proofs.OpenLaws.{coarse_grows}
use Rattle.dag_core.proofs.cut_laws.coarse_grows.Goals as goal

pub returns : goal.returns
returns c = record { coarse = coarse_grows }
