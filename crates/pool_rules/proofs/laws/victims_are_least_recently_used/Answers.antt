use Rattle.pool_rules.specs.State.{state_of}
use Rattle.pool_rules.proofs.Stalest.{IsVictim-from_some, HasNoVictim-from_none}
use Rattle.pool_rules.proofs.laws.victims_are_least_recently_used.Goals as goal

pub returns-clause-victim : goal.returns-clause-victim
returns-clause-victim c = λ layout journal page victim h. IsVictim-from_some layout (state_of layout journal) page
    victim h

pub returns-clause-no_candidate : goal.returns-clause-no_candidate
returns-clause-no_candidate c = λ layout journal page h. HasNoVictim-from_none layout (state_of layout journal) page h
