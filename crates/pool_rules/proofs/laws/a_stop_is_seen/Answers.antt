use Rattle.pool_rules.proofs.Stops.{stopped-has_stop}
use Rattle.pool_rules.proofs.laws.a_stop_is_seen.Goals as goal

pub returns : goal.returns
returns c = stopped-has_stop
