use Rattle.std.proofs.Common.{Some, ℕ, subst}
use Rattle.pool_rules.specs.State.{state_of}
use Rattle.pool_tables.specs.FrameItems.{PutsItem, item_of, pinned_item}
use Rattle.residency.proofs.PinTables.{AreTablesAt-pin}
use Rattle.residency.proofs.TablesAt.{AreTablesAt-legal, AreTables-push, next-entries}
use Rattle.residency.proofs.UnpinTables.{pins-counted}
use Rattle.residency.proofs.changes.pin.Goals as goal

pub pin-requires-clause-counted : goal.pin-requires-clause-counted
pin-requires-clause-counted c =
    let layout = c.args.layout.now in
    let journal = c.args.journal.now in
    let tables = c.args.tables.now in
    pins-counted layout (state_of layout journal) journal tables c.args.frame.0
    (AreTablesAt-legal layout journal tables c.requires.past)

pub returns-clause-tables : goal.returns-clause-tables
returns-clause-tables c =
    let layout = c.args.layout.now in
    let journal = c.args.journal.now in
    let tables = c.args.tables.now in
    let frame = c.args.frame.0 in
    let frames = c.pin.new.self in
    let are = AreTablesAt-legal layout journal tables c.requires.past in
    let puts = subst (λ (n : ℕ). PutsItem frame (Some (pinned_item c.args.by n (item_of tables.frames frame)))
    tables.frames.items frames.items) (next-entries layout journal _ c.next_count-count.ensures)
    c.in_ok-pin.ensures.pinned in
    AreTables-push layout journal _ _
    (AreTablesAt-pin layout (state_of layout journal) journal tables c.args.by frame c.pin.new.pages frames are
    c.requires.allowed c.in_ok-pin.ensures.pins puts c.pin.ensures.last_asked)
