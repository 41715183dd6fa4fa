use Rattle.std.proofs.Common.{◌≡◌, ◌∷◌, ◌++◌, ◌+◌, ◌<◌, [], ℕ, ap, arith, subst, sym, ◌∙◌}
use Rattle.journal.specs.declared.entries.Entry.{Entry}
use Rattle.journal.specs.declared.entries.What.TheVariants.{Install}
use Rattle.pool_rules.specs.State.{state_after, state_of}
use Rattle.pool_tables.specs.PageRecords.{PageRecords, record_at}
use Rattle.pool_tables.proofs.PageRanges.{used-later}
use Rattle.residency.proofs.InstallTables.{AreTablesAt-install, CanInstall, CanInstall-pinned, CanPin-installed}
use Rattle.residency.proofs.InstallTables.{InstallsFrames, pinned_by, resident_from, waits_in}
use Rattle.residency.proofs.TablesAt.{AreTablesAt, AreTablesAt-legal, AreTables-push, IsPast-legal, next-entries}
use Rattle.residency.proofs.changes.install.Goals as goal

pub pin-requires : goal.pin-requires
pin-requires c =
    let layout = c.args.layout.now in
    let journal = c.args.journal.now in
    let tables = c.args.tables.now in
    let page = c.args.page in
    let done = c.install-pins.ensures in
    let installs : InstallsFrames (waits_in tables page) page c.install-pins.result tables.frames
    c.install-pins.new.frames =
    record { items = done.items; last_asked = done.last_asked; ordered = done.ordered; pins = done.pins } in
    let can = CanPin-installed layout (state_of layout journal) journal tables c.args.by.0 page c.install-pins.result
    c.install-pins.new.frames (IsPast-legal layout journal tables c.requires.past)
    (AreTablesAt-legal layout journal tables c.requires.past) c.requires.allowed installs in
    record {
      page_range = can.page_range;
      room = omega (arith, can.room, c.len-frames.ensures.frames, c.len-frames.ensures.few);
    }

pub install-requires : goal.install-requires
install-requires c =
    let layout = c.args.layout.now in
    let journal = c.args.journal.now in
    let tables = c.args.tables.now in
    let page = c.args.page in
    let count = c.next_count.result in
    let past = IsPast-legal layout journal tables c.requires.past in
    let are = AreTablesAt-legal layout journal tables c.requires.past in
    let is = next-entries layout journal _ c.next_count.ensures in
    let later : (p : ℕ) → (record_at tables.pages.records p).last_used < count =
    λ p. omega (arith, used-later layout journal tables.pages are.pages p, is) in
    let can = subst (λ (t : PageRecords). CanInstall t page count) (sym c.pin.ensures)
    (CanInstall-pinned layout (state_of layout journal) journal tables c.args.by.0 page c.install-pins.result count past
    are c.requires.allowed later) in
    record { no_root = can.no_root; absent = can.absent; loading = can.loading; later = can.later }

pub returns : goal.returns
returns c =
    let layout = c.args.layout.now in
    let journal = c.args.journal.now in
    let tables = c.args.tables.now in
    let page = c.args.page in
    let s = state_of layout journal in
    let past = IsPast-legal layout journal tables c.requires.past in
    let are = AreTablesAt-legal layout journal tables c.requires.past in
    let done = c.install-pins.ensures in
    let frames = c.install-pins.new.frames in
    let pins = c.install-pins.result in
    let installs : InstallsFrames (waits_in tables page) page pins tables.frames frames =
    record { items = done.items; last_asked = done.last_asked; ordered = done.ordered; pins = done.pins } in
    let e : Entry = record { by = c.args.by.0; what = Install page c.args.digest } in
    let new : c.install.new.self ≡ resident_from (s.entries + 1) (pinned_by pins tables.pages page) page =
    c.install.ensures ∙ (ap (λ (t : PageRecords). resident_from c.next_count.result t page) c.pin.ensures
    ∙ ap (λ (n : ℕ). resident_from n (pinned_by pins tables.pages page) page)
    (next-entries layout journal _ c.next_count.ensures)) in
    AreTables-push layout journal e _
    (subst (λ (t : PageRecords). AreTablesAt layout (state_after s e) (journal ++ e ∷ [])
    (record tables { pages = t; frames = frames }))
    (sym new) (AreTablesAt-install layout s journal tables c.args.by.0 page c.args.digest pins frames past are
    c.requires.allowed installs))
