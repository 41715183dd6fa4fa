use Rattle.std.proofs.Common.{ℕ, subst}
use Rattle.std.specs.Option.{option_map}
use Rattle.pool_rules.specs.State.{state_of}
use Rattle.pool_tables.specs.FrameItems.{PutsItem, ended_item, item_of}
use Rattle.residency.proofs.TablesAt.{AreTablesAt-legal, AreTables-push, next-entries}
use Rattle.residency.proofs.UnpinTables.{AreTablesAt-unpin, pins-counted}
use Rattle.residency.proofs.changes.unpin.Goals as goal

pub unpin_frame-requires : goal.unpin_frame-requires
unpin_frame-requires c =
    let layout = c.args.layout.now in
    let journal = c.args.journal.now in
    let tables = c.args.tables.now in
    let are = AreTablesAt-legal layout journal tables c.requires.past in
    record { counted = pins-counted layout (state_of layout journal) journal tables c.args.frame.0 are }

pub returns : goal.returns
returns c =
    let layout = c.args.layout.now in
    let journal = c.args.journal.now in
    let tables = c.args.tables.now in
    let frame = c.args.frame.0 in
    let are = AreTablesAt-legal layout journal tables c.requires.past in
    let puts = subst (λ (n : ℕ). PutsItem frame (option_map (ended_item n) (item_of tables.frames frame))
    tables.frames.items c.unpin.new.self.items) (next-entries layout journal _ c.next_count.ensures)
    c.unpin.ensures.ended in
    AreTables-push layout journal _ _
    (AreTablesAt-unpin layout (state_of layout journal) journal tables c.args.by.0 frame c.unpin_frame.new.pages
    c.unpin.new.self are c.requires.allowed c.unpin_frame.ensures puts c.unpin.ensures.last_asked)
