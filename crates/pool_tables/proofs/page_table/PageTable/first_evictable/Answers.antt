use Rattle.std.proofs.Common.{◌≡◌, find, sym}
use Rattle.pool_tables.specs.PageRecords.{PageRecords, record_at}
use Rattle.pool_tables.specs.Eviction.{is_candidate, may_be_evicted, IsFirst}
use Rattle.pool_tables.proofs.Searches.{IsFirst-from_find}
use Rattle.pool_tables.proofs.page_table.PageTable.first_evictable.Goals as goal

pub returns : goal.returns
returns c =
    let table = c.self.inside in
    let value : PageRecords = record { roots = table.roots; records = table.records.items } in
    let found : find (is_candidate table.records.items c.args.snapshot c.args.uppers.now) table.order.pages
    ≡ c.first_free.result = rw (← c.iter.ensures, ← c.deref.ensures.value) (sym c.first_free.ensures) in
    let first : IsFirst (λ p. (record_at value.records p).last_used)
    (may_be_evicted value c.args.snapshot c.args.uppers.now) c.first_free.result =
    IsFirst-from_find value table.order c.args.snapshot c.args.uppers.now c.first_free.result c.self.invariant.0
    found in
    rw (← c.self.view_is) first
