use Rattle.std.proofs.Common.{◌∙◌}
use Rattle.pool_rules.proofs.Stops.{stopped-has_stop}
use Rattle.residency.proofs.pools.Pool.is_stopped.Goals as goal

pub returns : goal.returns
returns c =
    let was = c.self.inside in
    rw (← c.self.view_is) (c.self.invariant.past.tables.stopped ∙ stopped-has_stop was.layout was.journal.items)
