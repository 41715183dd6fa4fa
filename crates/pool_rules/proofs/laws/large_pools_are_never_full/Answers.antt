use Rattle.pool_rules.proofs.LargePool.{next_after-not_full}
use Rattle.pool_rules.proofs.laws.large_pools_are_never_full.Goals as goal

pub returns : goal.returns
returns c = next_after-not_full
