use Rattle.std.proofs.Common.{◌∙◌, ◌++◌, ℕ, List, ap, false, map, refl, subst}
use Rattle.std.specs.Option.{option_map}
use Rattle.pool_rules.specs.State.{state_of}
use Rattle.pool_rules.proofs.Arms.{ask-parts}
use Rattle.pool_tables.specs.FrameItems.{PutsItem, asked_item, item_of}
use Rattle.pool_tables.specs.WantQueue.{closed_up, counts_in, of_page}
use Rattle.pool_tables.specs.declared.queued_want.QueuedWant.{QueuedWant}
use Rattle.residency.proofs.AskTables.{AreTablesAt-ask}
use Rattle.residency.proofs.TablesAt.{AreTablesAt-legal, AreTables-push, next-entries}
use Rattle.residency.proofs.changes.ask.Goals as goal

pub returns-clause-tables : goal.returns-clause-tables
returns-clause-tables c =
    let layout = c.args.layout.now in
    let journal = c.args.journal.now in
    let tables = c.args.tables.now in
    let by = c.args.by.0 in
    let frame = c.args.frame.0 in
    let pages = c.args.pages.now in
    let s = state_of layout journal in
    let are = AreTablesAt-legal layout journal tables c.requires.past in
    let is = next-entries layout journal _ c.next_count-count.ensures in
    let owned = (ask-parts layout s journal by frame pages c.requires.allowed).owned in
    let frames = c.ask.new.self in
    let puts = subst (λ (n : ℕ). PutsItem frame (option_map (asked_item n) (item_of tables.frames frame))
    tables.frames.items frames.items) is c.ask.ensures.asked in
    let like : QueuedWant = record {
      frame = c.args.frame;
      page = 0;
      settled = false;
      made_at =
          c.next_count-count.result;
    } in
    let list = c.append.ensures ∙ ap (λ (ws : List QueuedWant). closed_up (counts_in tables.pages.records frames) ws
    ++ map (of_page like) pages)
    c.in_ok-reserve.ensures.wants in
    AreTables-push layout journal _ _
    (AreTablesAt-ask layout s journal tables by frame pages frames c.append.new.self like are owned puts
    (c.ask.ensures.last_asked ∙ is) refl refl is list)
