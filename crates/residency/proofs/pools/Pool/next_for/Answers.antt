use Rattle.residency.proofs.pools.Pool.next_for.Goals as goal

pub returns : goal.returns
returns c =
    let next = c.next_in.ensures c.self.inside.journal.items c.self.invariant.past in
    rw (← c.self.view_is) (rw c.frame_id.ensures at next)
