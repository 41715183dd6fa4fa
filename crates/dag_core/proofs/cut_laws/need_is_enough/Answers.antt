use Rattle.dag_core.proofs.NeedLaws.{need_is_enough}
use Rattle.dag_core.proofs.cut_laws.need_is_enough.Goals as goal

pub returns : goal.returns
returns c = record { enough = need_is_enough }
