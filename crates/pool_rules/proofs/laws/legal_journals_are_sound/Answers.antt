use Rattle.pool_rules.proofs.Soundness.{IsSound-state_of}
use Rattle.pool_rules.proofs.laws.legal_journals_are_sound.Goals as goal

pub returns : goal.returns
returns c = IsSound-state_of
