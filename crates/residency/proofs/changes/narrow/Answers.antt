use Rattle.std.proofs.Common.{◌≡◌, ◌∙◌, ◌+◌, ◌&&◌, ℕ, List, true, false, arith, refl, subst, sym}
use Rattle.std.specs.List.{list_all}
use Rattle.journal.specs.Layout.{ascends}
use Rattle.pool_rules.specs.Rules.{owns, pins}
use Rattle.pool_rules.specs.State.{is_resident, state_of}
use Rattle.pool_rules.proofs.Allowed.{narrowed-resident}
use Rattle.pool_rules.proofs.Flags.{place-within}
use Rattle.pool_rules.proofs.Tests.{all-at_any, and-both}
use Rattle.pool_tables.specs.Changes.{AreUsed, times}
use Rattle.pool_tables.specs.FrameItems.{item_of, pins_in}
use Rattle.pool_tables.specs.declared.page_record.PageRecord.{PageRecord}
use Rattle.pool_tables.proofs.FlaggedPages.{times-ascending}
use Rattle.pool_tables.proofs.PageRanges.{record-a_page, used-later}
use Rattle.pool_tables.proofs.PoolPages.{resident-at, used_of}
use Rattle.residency.proofs.RepinTables.{AreRepinned, AreTablesAt-narrow, pins-room, resident-below}
use Rattle.residency.proofs.TablesAt.{AreTablesAt-legal, AreTables-push, IsPast-legal, next-entries}
use Rattle.residency.proofs.UnpinTables.{moved-field, pins-counted}
use Rattle.residency.proofs.changes.narrow.Goals as goal

pub unpin_frame-requires : goal.unpin_frame-requires
unpin_frame-requires c =
    let layout = c.args.layout.now in
    let journal = c.args.journal.now in
    let tables = c.args.tables.now in
    let by = c.args.by in
    let frame = c.args.frame.0 in
    let pages = c.args.pages.now in
    let s = state_of layout journal in
    let past = IsPast-legal layout journal tables c.requires.past in
    let are = AreTablesAt-legal layout journal tables c.requires.past in
    record { counted = pins-counted layout s journal tables frame are }

pub pin_pages-requires : goal.pin_pages-requires
pin_pages-requires c =
    let layout = c.args.layout.now in
    let journal = c.args.journal.now in
    let tables = c.args.tables.now in
    let by = c.args.by in
    let frame = c.args.frame.0 in
    let pages = c.args.pages.now in
    let s = state_of layout journal in
    let past = IsPast-legal layout journal tables c.requires.past in
    let are = AreTablesAt-legal layout journal tables c.requires.past in
    let asc = and-both (owns s by.0 frame) (ascends pages && list_all (pins s frame) pages) c.requires.allowed in
    let ascending = (and-both (ascends pages) (list_all (pins s frame) pages) asc.1).0 in
    let all = narrowed-resident layout s journal by.0 frame pages past.sound c.requires.allowed in
    record {
      page_range = λ p among.
          let within = place-within (λ b. b) s.resident p false refl (all-at_any (is_resident s) pages p all among) in
          omega (
            arith,
            within,
            past.lists.flag_a_page,
            record-a_page layout s tables.pages past.lists are.pages,
            c.unpin_frame.ensures.len,
          );
      once = λ p. times-ascending 0 pages p ascending;
      counted = pins-room layout s journal tables _ c.unpin_frame.new.pages are c.unpin_frame.ensures;
    }

pub use_pages-requires : goal.use_pages-requires
use_pages-requires c =
    let layout = c.args.layout.now in
    let journal = c.args.journal.now in
    let tables = c.args.tables.now in
    let by = c.args.by in
    let frame = c.args.frame.0 in
    let pages = c.args.pages.now in
    let s = state_of layout journal in
    let past = IsPast-legal layout journal tables c.requires.past in
    let are = AreTablesAt-legal layout journal tables c.requires.past in
    let asc = and-both (owns s by.0 frame) (ascends pages && list_all (pins s frame) pages) c.requires.allowed in
    let ascending = (and-both (ascends pages) (list_all (pins s frame) pages) asc.1).0 in
    let all = narrowed-resident layout s journal by.0 frame pages past.sound c.requires.allowed in
    let bare = c.unpin_frame.new.pages in
    let pinned = c.pin_pages.new.pages in
    let went = pins_in (item_of tables.frames frame) in
    let count_is = next-entries layout journal _ c.next_count-count.ensures in
    record {
      ascending = ascending;
      resident = λ p among.
          moved-field (λ (r : PageRecord). r.resident) (λ p. 0) (times pages) bare pinned (λ k r. refl)
          c.pin_pages.ensures p
          ∙ (moved-field (λ (r : PageRecord). r.resident) went (λ p. 0) tables.pages bare (λ k r. refl)
          c.unpin_frame.ensures p
          ∙ (resident-at layout s tables.pages are.pages p ∙ all-at_any (is_resident s) pages p all among));
      later = λ p.
          omega (
            arith,
            moved-field used_of (λ p. 0) (times pages) bare pinned (λ k r. refl) c.pin_pages.ensures p,
            moved-field used_of went (λ p. 0) tables.pages bare (λ k r. refl) c.unpin_frame.ensures p,
            used-later layout journal tables.pages are.pages p,
            count_is,
          );
    }

pub narrow-requires : goal.narrow-requires
narrow-requires c =
    let layout = c.args.layout.now in
    let journal = c.args.journal.now in
    let tables = c.args.tables.now in
    let by = c.args.by in
    let frame = c.args.frame.0 in
    let pages = c.args.pages.now in
    let s = state_of layout journal in
    let past = IsPast-legal layout journal tables c.requires.past in
    let are = AreTablesAt-legal layout journal tables c.requires.past in
    let asc = and-both (owns s by.0 frame) (ascends pages && list_all (pins s frame) pages) c.requires.allowed in
    let ascending = (and-both (ascends pages) (list_all (pins s frame) pages) asc.1).0 in
    let all = narrowed-resident layout s journal by.0 frame pages past.sound c.requires.allowed in
    record { ascending = subst (λ (ps : List ℕ). ascends ps ≡ true) (sym c.in_ok-named.ensures.items) ascending }

pub returns-clause-tables : goal.returns-clause-tables
returns-clause-tables c =
    let layout = c.args.layout.now in
    let journal = c.args.journal.now in
    let tables = c.args.tables.now in
    let by = c.args.by in
    let frame = c.args.frame.0 in
    let pages = c.args.pages.now in
    let s = state_of layout journal in
    let past = IsPast-legal layout journal tables c.requires.past in
    let are = AreTablesAt-legal layout journal tables c.requires.past in
    let asc = and-both (owns s by.0 frame) (ascends pages && list_all (pins s frame) pages) c.requires.allowed in
    let ascending = (and-both (ascends pages) (list_all (pins s frame) pages) asc.1).0 in
    let all = narrowed-resident layout s journal by.0 frame pages past.sound c.requires.allowed in
    let count_is = next-entries layout journal _ c.next_count-count.ensures in
    let bare = c.unpin_frame.new.pages in
    let pinned = c.pin_pages.new.pages in
    let new = c.use_pages.new.self in
    let frames = c.narrow.new.self in
    let re : AreRepinned (s.entries + 1) pages (pins_in (item_of tables.frames frame)) tables.pages bare pinned new =
    record {
      gone = c.unpin_frame.ensures;
      came = c.pin_pages.ensures;
      used = subst (λ (n : ℕ). AreUsed n pages pinned new) count_is c.use_pages.ensures;
    } in
    let puts = c.narrow.ensures.narrowed in
    AreTables-push layout journal _ _
    (AreTablesAt-narrow layout s journal tables by frame pages bare pinned new frames are asc.0 ascending
    (resident-below s pages all) re (rw c.in_ok-named.ensures.items at puts) c.narrow.ensures.last_asked)
