use Rattle.std.proofs.Common.{◌≡◌, true, refl, subst, set, None, ℕ}
use Rattle.journal.specs.Layout.{uppers_of}
use Rattle.journal.specs.declared.entries.Entry.{Entry}
use Rattle.journal.specs.declared.entries.What.TheVariants.{Spoil}
use Rattle.pool_rules.specs.Rules.{is_wrong, loads}
use Rattle.pool_rules.specs.State.{state_of}
use Rattle.pool_rules.proofs.Tests.{and-both}
use Rattle.pool_tables.specs.Changes.{HaveFewerDependents}
use Rattle.pool_tables.proofs.MakerMeanings.{AreMakers-other}
use Rattle.residency.proofs.LostTables.{AreTablesAt-lost, CanLose-loads, ended_load, fewer-loads}
use Rattle.residency.proofs.TablesAt.{AreTablesAt-legal, AreTables-push, IsPast-legal, next-entries}
use Rattle.residency.proofs.changes.spoil.Goals as goal

pub lose-requires : goal.lose-requires
lose-requires c =
    let layout = c.args.layout.now in
    let journal = c.args.journal.now in
    let tables = c.args.tables.now in
    let by = c.args.by.0 in
    let page = c.args.page in
    let s = state_of layout journal in
    let past = IsPast-legal layout journal tables c.requires.past in
    let are = AreTablesAt-legal layout journal tables c.requires.past in
    let loading : loads s by page ≡ true = (and-both (loads s by page) (is_wrong c.args.why.now)
    c.requires.allowed).0 in
    let can = CanLose-loads layout s journal tables by page past are loading in
    record { absent = can.absent; loading = can.loading; upper_range = can.upper_range; counted = can.counted }

pub returns : goal.returns
returns c =
    let layout = c.args.layout.now in
    let journal = c.args.journal.now in
    let tables = c.args.tables.now in
    let by = c.args.by.0 in
    let page = c.args.page in
    let s = state_of layout journal in
    let past = IsPast-legal layout journal tables c.requires.past in
    let are = AreTablesAt-legal layout journal tables c.requires.past in
    let loading : loads s by page ≡ true = (and-both (loads s by page) (is_wrong c.args.why.now)
    c.requires.allowed).0 in
    let e : Entry = record { by = by; what = Spoil page c.args.why.now } in
    let new = c.lose.new.pages in
    let fewer = subst (λ (n : ℕ). HaveFewerDependents (uppers_of layout page) (ended_load tables.pages page n) new)
    (next-entries layout journal _ c.next_count.ensures) c.lose.ensures in
    let makers = AreMakers-other journal s.loading (set s.loading page None) tables.makers e are.makers refl
    (λ p m at. fewer-loads s.loading page p m at) in
    AreTables-push layout journal e _
    (AreTablesAt-lost layout s journal tables e page new tables.makers past are loading refl fewer makers)
