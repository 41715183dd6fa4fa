use Rattle.std.proofs.Common.{◌≡◌, ◌<◌, false, Some, None, is_some, length, ap, refl, arith}
use Rattle.std.proofs.lemmas.List.{get_or_read}
use Rattle.pool_tables.specs.PageRecords.{no_record, record_at}
use Rattle.pool_tables.specs.declared.page_record.PageRecord.{PageRecord}
use Rattle.pool_tables.proofs.UseOrder.{held-more, held-loading, held-neither, IsUseOrder-kept}
use Rattle.pool_tables.proofs.page_table.PageTable.begin_load.Goals as goal

pub invariant_of-self : goal.invariant_of-self
invariant_of-self c =
    let table = c.self.inside in
    let records = table.records.items in
    let page = c.args.page in
    let absent : (record_at records page).resident ≡ false = rw (← c.self.view_is) at c.requires.absent in
    let idle : (record_at records page).loader ≡ None = rw (← c.self.view_is) at c.requires.idle in
    let lt : page < length records = rw (← c.self.view_is) at c.requires.page_range in
    let read : c.index-record.result.now ≡ record_at records page =
    get_or_read records page _ lt c.index-record.ensures no_record in
    let r : PageRecord = record c.index-record.result.now { loader = Some c.args.maker } in
    let more = held-more records page r lt (held-neither (record_at records page) absent (ap is_some idle))
    (held-loading r refl) in (
      IsUseOrder-kept table.roots records table.order page r lt c.self.invariant.0
          (ap (λ (x : PageRecord). x.resident) read) (ap (λ (x : PageRecord). x.last_used) read),
      omega
          (arith, more, c.self.invariant.1),
    )
