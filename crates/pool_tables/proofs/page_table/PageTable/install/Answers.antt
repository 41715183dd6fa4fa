use Rattle.std.proofs.Common.{◌≡◌, ℕ, ◌<◌, ◌≤◌, ◌&&◌, nat_lt, not, true, false, None, is_some, sym, ap, ◌∙◌, refl}
use Rattle.std.proofs.Common.{arith}
use Rattle.pool_rules.specs.Numbers.{is_among}
use Rattle.pool_tables.specs.PageRecords.{record_at}
use Rattle.pool_tables.specs.declared.page_record.PageRecord.{PageRecord}
use Rattle.pool_tables.proofs.UseOrder.{loading-below, held-same, held-loading, IsUseOrder-install}
use Rattle.pool_tables.proofs.page_table.PageTable.install.Goals as goal

pub invariant_of-self : goal.invariant_of-self
invariant_of-self c =
    let table = c.self.inside in
    let records = table.records.items in
    let page = c.args.page in
    let absent : (record_at records page).resident ≡ false = rw (← c.self.view_is) at c.requires.absent in
    let loading : is_some (record_at records page).loader ≡ true = rw (← c.self.view_is) at c.requires.loading in
    let no_root : table.roots ≤ page = rw (← c.self.view_is) at c.requires.no_root in
    let later : (q : ℕ) → (record_at records q).last_used < c.args.count = rw (← c.self.view_is) at c.requires.later in
    let lt = loading-below records page loading in
    let r : PageRecord = record c.index-record.result.now {
      resident = true;
      loader = None;
      last_used = c.args.count;
      installed_at = c.args.count;
      load_ended_at = c.args.count;
    } in
    let unlisted : is_among table.order.pages page ≡ false = c.self.invariant.0.listed page
    ∙ ap (λ b. b && not (nat_lt page table.roots)) absent in
    let same = held-same records page r lt (sym (held-loading (record_at records page) loading)) in (
      rw c.push.ensures (IsUseOrder-install table.roots records table.order page r lt c.self.invariant.0 unlisted
          no_root
          refl later),
      omega (arith, same, c.self.invariant.1),
    )
