use Rattle.std.proofs.Common.{◌≡◌, ℕ, ◌≢◌, ◌&&◌, nat_lt, not, true, ap, ◌∙◌, arith}
use Rattle.std.proofs.lemmas.List.{get_or_read}
use Rattle.pool_rules.specs.Numbers.{is_among}
use Rattle.pool_tables.specs.PageRecords.{no_record, record_at, is_record_held, IsUsedBefore}
use Rattle.pool_tables.specs.declared.page_record.PageRecord.{PageRecord}
use Rattle.pool_tables.proofs.UseOrder.{above-roots, resident-below, held-same, IsUseOrder-use, IsUseOrder-use_root}
use Rattle.pool_tables.proofs.page_table.PageTable.use_page.Goals as goal

pub invariant_of-self : goal.invariant_of-self
invariant_of-self c =
    let table = c.self.inside in
    let records = table.records.items in
    let page = c.args.page in
    let resident : (record_at records page).resident ≡ true = rw (← c.self.view_is) at c.requires.resident in
    let later : (q : ℕ) → q ≢ page → IsUsedBefore c.args.count page q (record_at records q).last_used =
    rw (← c.self.view_is) at c.requires.later in
    let lt = resident-below records page resident in
    let read : c.index-record.result.now ≡ record_at records page =
    get_or_read records page _ lt c.index-record.ensures no_record in
    let r : PageRecord = record c.index-record.result.now { last_used = c.args.count } in
    let present : is_among table.order.pages page ≡ true = c.self.invariant.0.listed page
    ∙ (ap (λ b. b && not (nat_lt page table.roots)) resident ∙ above-roots page table.roots c.if-self-page.true) in
    let same = held-same records page r lt (ap is_record_held read) in (
      rw c.move_to_end.ensures (IsUseOrder-use table.roots records table.order page r lt c.self.invariant.0 present
          (ap (λ (x : PageRecord). x.resident) read) later),
      omega (arith, same, c.self.invariant.1),
    )

pub invariant_of-self-else-self-page : goal.invariant_of-self-else-self-page
invariant_of-self-else-self-page c =
    let table = c.self.inside in
    let records = table.records.items in
    let page = c.args.page in
    let resident : (record_at records page).resident ≡ true = rw (← c.self.view_is) at c.requires.resident in
    let lt = resident-below records page resident in
    let read : c.index-record.result.now ≡ record_at records page =
    get_or_read records page _ lt c.index-record.ensures no_record in
    let r : PageRecord = record c.index-record.result.now { last_used = c.args.count } in
    let same = held-same records page r lt (ap is_record_held read) in (
      IsUseOrder-use_root table.roots records table.order page r lt c.self.invariant.0 c.if-self-page.false
          (ap (λ (x : PageRecord). x.resident) read),
      omega (arith, same, c.self.invariant.1),
    )
