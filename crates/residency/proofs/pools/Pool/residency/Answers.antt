use Rattle.std.proofs.Common.{◌∙◌}
use Rattle.pool_rules.specs.State.{state_of}
use Rattle.pool_rules.proofs.Lengths.{HasItemAPage-state_of}
use Rattle.pool_tables.proofs.PageRanges.{residents-same}
use Rattle.residency.proofs.pools.Pool.residency.Goals as goal

pub returns : goal.returns
returns c =
    let was = c.self.inside in
    let same = residents-same was.layout (state_of was.layout was.journal.items) was.tables.pages
    (HasItemAPage-state_of was.layout was.journal.items) c.self.invariant.past.tables.pages.pages in
    rw (← c.self.view_is) (c.of.ensures ∙ (c.in_ok-residents.ensures ∙ same))
