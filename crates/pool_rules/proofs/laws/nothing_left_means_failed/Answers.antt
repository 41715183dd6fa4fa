use Rattle.pool_rules.proofs.NothingLeft.{settled-pages, settled-missing}
use Rattle.pool_rules.proofs.laws.nothing_left_means_failed.Goals as goal

pub returns-clause-pages : goal.returns-clause-pages
returns-clause-pages c = settled-pages

pub returns-clause-missing : goal.returns-clause-missing
returns-clause-missing c = settled-missing
