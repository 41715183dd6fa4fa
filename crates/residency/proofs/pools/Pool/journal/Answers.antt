use Rattle.pool_rules.proofs.Soundness.{IsSound-state_of}
use Rattle.residency.proofs.pools.Pool.journal.Goals as goal

pub returns-clause-sound : goal.returns-clause-sound
returns-clause-sound c =
    rw (← c.self.view_is) (IsSound-state_of c.self.inside.layout c.self.inside.journal.items
    c.self.invariant.past.in_bounds c.self.invariant.past.legal)
