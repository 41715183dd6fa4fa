use Rattle.pool_rules.proofs.Wants.{wants-absent, wants-kept}
use Rattle.pool_rules.proofs.laws.wants_last_until_their_load_ends.Goals as goal

pub returns-clause-absent_pages : goal.returns-clause-absent_pages
returns-clause-absent_pages c = wants-absent

pub returns-clause-lasting_wants : goal.returns-clause-lasting_wants
returns-clause-lasting_wants c = wants-kept
