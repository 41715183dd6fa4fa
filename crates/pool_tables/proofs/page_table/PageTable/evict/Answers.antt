use Rattle.std.proofs.Common.{◌≡◌, true, false, None, is_some, ap, ◌∙◌, refl, arith}
use Rattle.std.proofs.lemmas.List.{get_or_read}
use Rattle.pool_tables.specs.PageRecords.{no_record, record_at}
use Rattle.pool_tables.specs.declared.page_record.PageRecord.{PageRecord}
use Rattle.pool_tables.proofs.UseOrder.{resident-below, held-less, held-resident, held-neither, IsUseOrder-evict}
use Rattle.pool_tables.proofs.page_table.PageTable.evict.Goals as goal

pub invariant_of-self : goal.invariant_of-self
invariant_of-self c =
    let table = c.self.inside in
    let records = table.records.items in
    let page = c.args.page in
    let resident : (record_at records page).resident ≡ true = rw (← c.self.view_is) at c.requires.resident in
    let idle : (record_at records page).loader ≡ None = rw (← c.self.view_is) at c.requires.idle in
    let lt = resident-below records page resident in
    let read : c.index-record.result.now ≡ record_at records page =
    get_or_read records page _ lt c.index-record.ensures no_record in
    let r : PageRecord = record c.index-record.result.now { resident = false } in
    let idle_too : is_some r.loader ≡ false = ap (λ (x : PageRecord). is_some x.loader) read ∙ ap is_some idle in
    let less = held-less records page r lt (held-resident (record_at records page) resident)
    (held-neither r refl idle_too) in (
      rw c.remove.ensures.left (IsUseOrder-evict table.roots records table.order page r lt c.self.invariant.0 refl),
      omega (arith, less, c.self.invariant.1),
    )
