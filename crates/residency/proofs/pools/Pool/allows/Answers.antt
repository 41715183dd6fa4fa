use Rattle.residency.proofs.pools.Pool.allows.Goals as goal

pub returns : goal.returns
returns c = rw (← c.self.view_is) (c.allows.ensures c.self.inside.journal.items c.self.invariant.past)
