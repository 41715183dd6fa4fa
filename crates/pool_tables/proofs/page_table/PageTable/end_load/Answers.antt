use Rattle.std.proofs.Common.{◌≡◌, true, false, None, is_some, ap, ◌∙◌, refl, arith}
use Rattle.std.proofs.lemmas.List.{get_or_read}
use Rattle.pool_tables.specs.PageRecords.{no_record, record_at}
use Rattle.pool_tables.specs.declared.page_record.PageRecord.{PageRecord}
use Rattle.pool_tables.proofs.UseOrder.{loading-below, held-less, held-loading, held-neither, IsUseOrder-kept}
use Rattle.pool_tables.proofs.page_table.PageTable.end_load.Goals as goal

pub invariant_of-self : goal.invariant_of-self
invariant_of-self c =
    let table = c.self.inside in
    let records = table.records.items in
    let page = c.args.page in
    let absent : (record_at records page).resident ≡ false = rw (← c.self.view_is) at c.requires.absent in
    let loading : is_some (record_at records page).loader ≡ true = rw (← c.self.view_is) at c.requires.loading in
    let lt = loading-below records page loading in
    let read : c.index-record.result.now ≡ record_at records page =
    get_or_read records page _ lt c.index-record.ensures no_record in
    let r : PageRecord = record c.index-record.result.now { loader = None; load_ended_at = c.args.count } in
    let absent_too : r.resident ≡ false = ap (λ (x : PageRecord). x.resident) read ∙ absent in
    let less = held-less records page r lt (held-loading (record_at records page) loading)
    (held-neither r absent_too refl) in (
      IsUseOrder-kept table.roots records table.order page r lt c.self.invariant.0
          (ap (λ (x : PageRecord). x.resident) read) (ap (λ (x : PageRecord). x.last_used) read),
      omega
          (arith, less, c.self.invariant.1),
    )
