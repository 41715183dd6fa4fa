use Rattle.std.proofs.Common.{◌∙◌, ◌++◌, ◌+◌, ℕ, List, true, false, ap, arith, map, refl, subst}
use Rattle.std.specs.Option.{option_map}
use Rattle.pool_rules.specs.State.{is_resident, state_of}
use Rattle.pool_rules.proofs.Arms.{settle-parts}
use Rattle.pool_rules.proofs.Flags.{place-within}
use Rattle.pool_rules.proofs.Tests.{all-at_any}
use Rattle.pool_tables.specs.Changes.{AreUsed, times}
use Rattle.pool_tables.specs.FrameItems.{PutsItem, item_of, pins_in, settled_item}
use Rattle.pool_tables.specs.PinLists.{PinLists, settled_pins}
use Rattle.pool_tables.specs.WantQueue.{closed_up, counts_in, of_page}
use Rattle.pool_tables.specs.declared.page_record.PageRecord.{PageRecord}
use Rattle.pool_tables.specs.declared.queued_want.QueuedWant.{QueuedWant}
use Rattle.pool_tables.proofs.FlaggedPages.{times-ascending}
use Rattle.pool_tables.proofs.PageRanges.{record-a_page, used-later}
use Rattle.pool_tables.proofs.PoolPages.{resident-at, used_of}
use Rattle.residency.proofs.RepinTables.{AreRepinned, AreTablesAt-settle, pins-room, resident-below}
use Rattle.residency.proofs.TablesAt.{AreTablesAt-legal, AreTables-push, IsPast-legal, next-entries}
use Rattle.residency.proofs.UnpinTables.{moved-field, pins-counted}
use Rattle.residency.proofs.changes.settle.Goals as goal

pub unpin_frame-requires : goal.unpin_frame-requires
unpin_frame-requires c =
    let layout = c.args.layout.now in
    let journal = c.args.journal.now in
    let tables = c.args.tables.now in
    let by = c.args.by in
    let frame = c.args.frame.0 in
    let pages = c.args.pages.now in
    let s = state_of layout journal in
    let past = IsPast-legal layout journal tables c.requires.past in
    let are = AreTablesAt-legal layout journal tables c.requires.past in
    record { counted = pins-counted layout s journal tables frame are }

pub pin_pages-requires : goal.pin_pages-requires
pin_pages-requires c =
    let layout = c.args.layout.now in
    let journal = c.args.journal.now in
    let tables = c.args.tables.now in
    let by = c.args.by in
    let frame = c.args.frame.0 in
    let pages = c.args.pages.now in
    let s = state_of layout journal in
    let past = IsPast-legal layout journal tables c.requires.past in
    let are = AreTablesAt-legal layout journal tables c.requires.past in
    let missing = c.args.missing.now in
    let parts = settle-parts layout s journal by.0 frame pages missing c.requires.allowed in
    let ascending = parts.page_list.ascending in
    let all = parts.resident in
    record {
      page_range = λ p among.
          let within = place-within (λ b. b) s.resident p false refl (all-at_any (is_resident s) pages p all among) in
          omega (
            arith,
            within,
            past.lists.flag_a_page,
            record-a_page layout s tables.pages past.lists are.pages,
            c.unpin_frame.ensures.len,
          );
      once = λ p. times-ascending 0 pages p ascending;
      counted = pins-room layout s journal tables _ c.unpin_frame.new.pages are c.unpin_frame.ensures;
    }

pub use_pages-requires : goal.use_pages-requires
use_pages-requires c =
    let layout = c.args.layout.now in
    let journal = c.args.journal.now in
    let tables = c.args.tables.now in
    let by = c.args.by in
    let frame = c.args.frame.0 in
    let pages = c.args.pages.now in
    let s = state_of layout journal in
    let past = IsPast-legal layout journal tables c.requires.past in
    let are = AreTablesAt-legal layout journal tables c.requires.past in
    let missing = c.args.missing.now in
    let parts = settle-parts layout s journal by.0 frame pages missing c.requires.allowed in
    let ascending = parts.page_list.ascending in
    let all = parts.resident in
    let bare = c.unpin_frame.new.pages in
    let pinned = c.pin_pages.new.pages in
    let went = pins_in (item_of tables.frames frame) in
    let count_is = next-entries layout journal _ c.next_count-count.ensures in
    record {
      ascending = ascending;
      resident = λ p among.
          moved-field (λ (r : PageRecord). r.resident) (λ p. 0) (times pages) bare pinned (λ k r. refl)
          c.pin_pages.ensures p
          ∙ (moved-field (λ (r : PageRecord). r.resident) went (λ p. 0) tables.pages bare (λ k r. refl)
          c.unpin_frame.ensures p
          ∙ (resident-at layout s tables.pages are.pages p ∙ all-at_any (is_resident s) pages p all among));
      later = λ p.
          omega (
            arith,
            moved-field used_of (λ p. 0) (times pages) bare pinned (λ k r. refl) c.pin_pages.ensures p,
            moved-field used_of went (λ p. 0) tables.pages bare (λ k r. refl) c.unpin_frame.ensures p,
            used-later layout journal tables.pages are.pages p,
            count_is,
          );
    }

pub returns-clause-tables : goal.returns-clause-tables
returns-clause-tables c =
    let layout = c.args.layout.now in
    let journal = c.args.journal.now in
    let tables = c.args.tables.now in
    let by = c.args.by in
    let frame = c.args.frame.0 in
    let pages = c.args.pages.now in
    let s = state_of layout journal in
    let past = IsPast-legal layout journal tables c.requires.past in
    let are = AreTablesAt-legal layout journal tables c.requires.past in
    let missing = c.args.missing.now in
    let parts = settle-parts layout s journal by.0 frame pages missing c.requires.allowed in
    let ascending = parts.page_list.ascending in
    let all = parts.resident in
    let count_is = next-entries layout journal _ c.next_count-count.ensures in
    let bare = c.unpin_frame.new.pages in
    let pinned = c.pin_pages.new.pages in
    let new = c.use_pages.new.self in
    let frames = c.settle.new.self in
    let re : AreRepinned (s.entries + 1) pages (pins_in (item_of tables.frames frame)) tables.pages bare pinned new =
    record {
      gone = c.unpin_frame.ensures;
      came = c.pin_pages.ensures;
      used = subst (λ (n : ℕ). AreUsed n pages pinned new) count_is c.use_pages.ensures;
    } in
    let made : QueuedWant = record {
      frame = c.args.frame;
      page = 0;
      settled = true;
      made_at =
          c.next_count-count.result;
    } in
    let puts = subst (λ (n : ℕ). PutsItem frame (option_map (settled_item by n (settled_pins pages missing))
    (item_of tables.frames frame)) tables.frames.items frames.items) count_is
    (subst (λ (ps : PinLists). PutsItem frame (option_map (settled_item by c.next_count-count.result ps)
    (item_of tables.frames frame)) tables.frames.items frames.items)
    c.in_ok-pins.ensures c.settle.ensures.settled) in
    let list = c.append.ensures ∙ ap (λ (ws : List QueuedWant). closed_up (counts_in new.records frames) ws ++ map
    (of_page made) missing)
    c.in_ok-reserve.ensures.wants in
    AreTables-push layout journal _ _
    (AreTablesAt-settle layout s journal tables by frame pages missing bare pinned new frames c.append.new.self made are
    parts.owned ascending parts.missing_list.ascending (resident-below s pages all) re puts
    (c.settle.ensures.last_asked ∙ count_is) refl refl count_is list)
