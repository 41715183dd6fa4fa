use Rattle.std.proofs.Common.{◌∷◌, ◌++◌, [], ℕ, Option, None, Some, subst, sym}
use Rattle.journal.specs.declared.entries.What.TheVariants.{Take}
use Rattle.pool_rules.specs.State.{state_of}
use Rattle.pool_tables.proofs.EntryPages.{ArePagesOf-victim, HasItemAPage-without, still-absent, taken-absent}
use Rattle.pool_tables.proofs.EntryPages.{without_victim}
use Rattle.residency.specs.Internal.Tables.{AreTables}
use Rattle.residency.specs.declared.tables.Tables.{Tables}
use Rattle.residency.proofs.TablesAt.{AreTablesAt-legal, AreTables-push, IsPast-legal}
use Rattle.residency.proofs.TakeTables.{AreTablesAt-take, AreTablesAt-take_for, CanEvict-evictable, CanLoad-absent}
use Rattle.residency.proofs.TakeTables.{IsAllowedTake, take-parts, victim-free}
use Rattle.residency.proofs.changes.take.Goals as goal

pub evict-requires : goal.evict-requires
evict-requires c =
    let layout = c.args.layout.now in
    let journal = c.args.journal.now in
    let tables = c.args.tables.now in
    let by = c.args.by in
    let frame = c.args.frame in
    let page = c.args.page in
    let s = state_of layout journal in
    let past = IsPast-legal layout journal tables c.requires.past in
    let are = AreTablesAt-legal layout journal tables c.requires.past in
    let allowed = subst (λ (v : Option ℕ). IsAllowedTake layout s by.0 frame page v) c.in-Some.is
    (take-parts layout journal by.0 frame page c.args.victim c.requires.past.legal c.requires.allowed) in
    let victim = c.in-Some.victim in
    let evictable = victim-free layout s page victim allowed.taken in
    let can = CanEvict-evictable layout s tables.pages page victim past are.pages evictable in
    record {
      resident = can.resident;
      idle = can.idle;
      no_root = can.no_root;
      upper_range = can.upper_range;
      counted
          = can.counted;
    }

pub load-requires : goal.load-requires
load-requires c =
    let layout = c.args.layout.now in
    let journal = c.args.journal.now in
    let tables = c.args.tables.now in
    let by = c.args.by in
    let frame = c.args.frame in
    let page = c.args.page in
    let s = state_of layout journal in
    let past = IsPast-legal layout journal tables c.requires.past in
    let are = AreTablesAt-legal layout journal tables c.requires.past in
    let allowed = subst (λ (v : Option ℕ). IsAllowedTake layout s by.0 frame page v) c.in-Some.is
    (take-parts layout journal by.0 frame page c.args.victim c.requires.past.legal c.requires.allowed) in
    let victim = c.in-Some.victim in
    let evictable = victim-free layout s page victim allowed.taken in
    let mid = c.evict.new.pages in
    let pages = ArePagesOf-victim layout s page victim tables.pages mid past.bounds past.lists past.sound are.pages
    evictable c.evict.ensures in
    let absent = still-absent s victim page (taken-absent layout s page allowed.taken.takeable) in
    let can = CanLoad-absent layout (without_victim s victim) mid page past.bounds
    (HasItemAPage-without layout s victim past.lists) pages absent allowed.below in
    record {
      page_range = can.page_range;
      absent = can.absent;
      idle = can.idle;
      upper_range = can.upper_range;
      room =
          can.room;
    }

pub returns-in-Some-clause-tables : goal.returns-in-Some-clause-tables
returns-in-Some-clause-tables c =
    let layout = c.args.layout.now in
    let journal = c.args.journal.now in
    let tables = c.args.tables.now in
    let by = c.args.by in
    let frame = c.args.frame in
    let page = c.args.page in
    let s = state_of layout journal in
    let past = IsPast-legal layout journal tables c.requires.past in
    let are = AreTablesAt-legal layout journal tables c.requires.past in
    let allowed = subst (λ (v : Option ℕ). IsAllowedTake layout s by.0 frame page v) c.in-Some.is
    (take-parts layout journal by.0 frame page c.args.victim c.requires.past.legal c.requires.allowed) in
    let victim = c.in-Some.victim in
    let evictable = victim-free layout s page victim allowed.taken in
    let makers = c.begin.new.self in
    let new = c.load.new.pages in
    let tables_now : Tables = record tables { pages = new; makers = makers } in
    let done = AreTables-push layout journal (record { by = by.0; what = Take frame page (Some victim) }) tables_now
    (AreTablesAt-take_for layout s journal tables by frame page victim c.evict.new.pages new makers past are allowed
    c.in_ok-begin.ensures.makers c.begin.ensures.faults c.evict.ensures c.load.ensures) in
    subst (λ (v : Option ℕ). AreTables layout (journal ++ record { by = by.0; what = Take frame page v } ∷ [])
    tables_now)
    (sym c.in-Some.is) done

pub load-requires-2 : goal.load-requires-2
load-requires-2 c =
    let layout = c.args.layout.now in
    let journal = c.args.journal.now in
    let tables = c.args.tables.now in
    let by = c.args.by in
    let frame = c.args.frame in
    let page = c.args.page in
    let s = state_of layout journal in
    let past = IsPast-legal layout journal tables c.requires.past in
    let are = AreTablesAt-legal layout journal tables c.requires.past in
    let allowed = subst (λ (v : Option ℕ). IsAllowedTake layout s by.0 frame page v) c.in_default.is
    (take-parts layout journal by.0 frame page c.args.victim c.requires.past.legal c.requires.allowed) in
    let absent = taken-absent layout s page allowed.taken.takeable in
    let can = CanLoad-absent layout s tables.pages page past.bounds past.lists are.pages absent allowed.below in
    record {
      page_range = can.page_range;
      absent = can.absent;
      idle = can.idle;
      upper_range = can.upper_range;
      room =
          can.room;
    }

pub returns-clause-tables : goal.returns-clause-tables
returns-clause-tables c =
    let layout = c.args.layout.now in
    let journal = c.args.journal.now in
    let tables = c.args.tables.now in
    let by = c.args.by in
    let frame = c.args.frame in
    let page = c.args.page in
    let s = state_of layout journal in
    let past = IsPast-legal layout journal tables c.requires.past in
    let are = AreTablesAt-legal layout journal tables c.requires.past in
    let allowed = subst (λ (v : Option ℕ). IsAllowedTake layout s by.0 frame page v) c.in_default.is
    (take-parts layout journal by.0 frame page c.args.victim c.requires.past.legal c.requires.allowed) in
    let makers = c.begin.new.self in
    let new = c.load-2.new.pages in
    let tables_now : Tables = record tables { pages = new; makers = makers } in
    let done = AreTables-push layout journal (record { by = by.0; what = Take frame page None }) tables_now
    (AreTablesAt-take layout s journal tables by frame page new makers past are allowed
    c.in_ok-begin.ensures.makers c.begin.ensures.faults c.load-2.ensures) in
    subst (λ (v : Option ℕ). AreTables layout (journal ++ record { by = by.0; what = Take frame page v } ∷ [])
    tables_now)
    (sym c.in_default.is) done
