use Rattle.pool_rules.proofs.NothingLeft.{settled-nothing, settled-full}
use Rattle.pool_rules.proofs.laws.records_are_settled.Goals as goal

pub returns-clause-nothing : goal.returns-clause-nothing
returns-clause-nothing c = settled-nothing

pub returns-clause-full : goal.returns-clause-full
returns-clause-full c = settled-full
