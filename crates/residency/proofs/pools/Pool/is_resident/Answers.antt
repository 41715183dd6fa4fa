use Rattle.std.proofs.Common.{◌∙◌, ap}
use Rattle.pool_rules.specs.State.{state_of}
use Rattle.pool_tables.specs.declared.page_record.PageRecord.{PageRecord}
use Rattle.pool_tables.proofs.PoolPages.{resident-at}
use Rattle.residency.proofs.pools.Pool.is_resident.Goals as goal

pub returns : goal.returns
returns c =
    let was = c.self.inside in
    rw (← c.self.view_is) (ap (λ (r : PageRecord). r.resident) c.get.ensures
    ∙ resident-at was.layout (state_of was.layout was.journal.items) was.tables.pages
    c.self.invariant.past.tables.pages.pages c.args.page)
