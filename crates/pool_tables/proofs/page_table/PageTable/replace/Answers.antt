use Rattle.std.proofs.Common.{◌≡◌, ◌<◌, length, arith}
use Rattle.pool_tables.specs.PageRecords.{record_at}
use Rattle.pool_tables.proofs.UseOrder.{held-same, held-alike, IsUseOrder-kept}
use Rattle.pool_tables.proofs.page_table.PageTable.replace.Goals as goal

pub invariant_of-self : goal.invariant_of-self
invariant_of-self c =
    let table = c.self.inside in
    let records = table.records.items in
    let page = c.args.page in
    let r = c.args.new in
    let lt : page < length records = rw (← c.self.view_is) at c.requires.page_range in
    let resident : r.resident ≡ (record_at records page).resident = rw (← c.self.view_is) at c.requires.resident in
    let loader : r.loader ≡ (record_at records page).loader = rw (← c.self.view_is) at c.requires.loader in
    let last_used : r.last_used ≡ (record_at records page).last_used = rw (← c.self.view_is) at c.requires.last_used in
    let same = held-same records page r lt (held-alike r (record_at records page) resident loader) in (
      IsUseOrder-kept table.roots records table.order page r lt c.self.invariant.0 resident last_used,
      omega
          (arith, same, c.self.invariant.1),
    )
