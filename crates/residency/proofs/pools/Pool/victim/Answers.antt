use Rattle.residency.proofs.pools.Pool.victim.Goals as goal

pub returns : goal.returns
returns c = rw (← c.self.view_is) (c.victim_for.ensures c.self.inside.journal.items c.self.invariant.past)
