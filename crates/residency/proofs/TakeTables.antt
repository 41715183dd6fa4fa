-- The tables after a Take, with a victim and without.
use Rattle.std.proofs.Common.{◌≡◌, ℕ, ◌+◌, ◌^◌, ◌<◌, ◌≤◌, ◌==◌, nat_lt, List, [], ◌∷◌, ◌++◌, true, false, not, ◌&&◌}
use Rattle.std.proofs.Common.{◌||◌, ⊎_elim, Option, Some, None, is_some, length, refl, ap, ◌∙◌, subst, arith}
use Rattle.std.proofs.lemmas.Bool.Decides.{nat_tests}
use Rattle.journal.specs.Layout.{InBounds, uppers_of}
use Rattle.journal.specs.declared.entries.Entry.{Entry}
use Rattle.journal.specs.declared.entries.What.TheVariants.{Take}
use Rattle.journal.specs.declared.layouts.Layout.{Layout}
use Rattle.pool_rules.specs.Next.{is_take, next_in}
use Rattle.pool_rules.specs.Numbers.{is_among}
use Rattle.pool_rules.specs.Rules.{IsLegal, allows, owns}
use Rattle.pool_rules.specs.State.{State, is_held, is_loading, is_resident, state_after, state_of}
use Rattle.pool_rules.specs.Victim.{is_evictable}
use Rattle.pool_rules.proofs.Choices.{IsTaken, IsTaken-from_next}
use Rattle.pool_rules.proofs.Lengths.{HasItemAPage}
use Rattle.pool_rules.proofs.Soundness.{held-not, loose}
use Rattle.pool_rules.proofs.Tests.{and-both, or-left}
use Rattle.pool_tables.specs.Changes.{HaveFewerDependents, HaveMoreDependents, fewer_dependents, more_dependents, times}
use Rattle.pool_tables.specs.MakerItems.{fault_of, has_maker}
use Rattle.pool_tables.specs.FrameMeaning.{AreBegun, AreFrames}
use Rattle.pool_tables.specs.PageRecords.{PageRecords, record_at, with_record}
use Rattle.pool_tables.specs.PoolPages.{ArePagesOf}
use Rattle.pool_tables.specs.declared.page_record.MakerId.{MakerId}
use Rattle.pool_tables.specs.declared.page_record.PageRecord.{PageRecord}
use Rattle.pool_tables.proofs.BegunFrames.{AreBegun-known, AreBegun-same}
use Rattle.pool_tables.proofs.EntryPages.{ArePagesOf-take, ArePagesOf-take_for, ArePagesOf-victim, resident-idle}
use Rattle.pool_tables.proofs.EntryPages.{resident-page}
use Rattle.pool_tables.proofs.EventPremises.{IsTimelyTable-later, unpinned-frames}
use Rattle.pool_tables.proofs.FrameMeanings.{AreFrames-evict}
use Rattle.pool_tables.proofs.MakerMeanings.{AreMakers-take}
use Rattle.pool_tables.proofs.PageRanges.{loader-none, record-a_page, uppers-counted, uppers-in_range, uppers-room}
use Rattle.pool_tables.proofs.PageTimes.{changed-field}
use Rattle.pool_tables.proofs.PoolPages.{field-kept, resident-at}
use Rattle.pool_tables.proofs.WantMeanings.{AreWants-kept}
use Rattle.pool_tables.proofs.WantedPages.{taken-within}
use Rattle.residency.specs.Internal.Tables.{installed_at}
use Rattle.residency.specs.declared.tables.Tables.{Tables}
use Rattle.residency.proofs.FrameRecords.{AreFrames-recounted}
use Rattle.residency.proofs.TablesAt.{AreTablesAt, IsPast, owned-item}

-- ---- what is known of an allowed Take

pub record IsAllowedTake (layout : Layout) (s : State) (by : ℕ) (frame : Option ℕ) (page : ℕ) (victim : Option ℕ) :
    Type 0 where
  pub taken : IsTaken layout s page victim
  pub below : page < layout.pages
  pub owned : (f : ℕ) → frame ≡ Some f → owns s by f ≡ true

pub take-parts : (layout : Layout) (journal : List Entry) (by : ℕ) (frame : Option ℕ) (page : ℕ) (victim : Option ℕ) →
    IsLegal layout journal → allows layout (state_of layout journal) journal by (Take frame page victim) ≡ true →
    IsAllowedTake layout (state_of layout journal) by frame page victim
take-parts layout journal by None page victim legal h =
    let s = state_of layout journal in
    let is = (and-both (not s.stopped) (is_take (next_in layout s None) page victim) h).1 in
    record {
      taken = IsTaken-from_next layout s None page victim is;
      below = taken-within layout journal None page victim legal is;
      owned = λ f e. cc;
    }
take-parts layout journal by (Some frame) page victim legal h =
    let s = state_of layout journal in
    let next = is_take (next_in layout s (Some frame)) page victim in
    let rest = (and-both (not s.stopped) (next && owns s by frame) h).1 in
    let is = and-both next (owns s by frame) rest in
    record {
      taken = IsTaken-from_next layout s (Some frame) page victim is.0;
      below = taken-within layout journal (Some frame) page victim legal is.0;
      owned = λ f e. let same : frame ≡ f = cc in subst (λ n. owns s by n ≡ true) same is.1;
    }

pub victim-free : (layout : Layout) (s : State) (page victim : ℕ) → IsTaken layout s page (Some victim) →
    is_evictable layout s page victim ≡ true
victim-free layout s page victim taken =
    ⊎_elim (λ free. let none = free.0 in cc)
    (λ evicts. let same : evicts.0 ≡ victim = cc in subst (λ v. is_evictable layout s page v ≡ true) same evicts.2)
    taken.room

-- ---- what the calls require

pub record CanLoad (layout : Layout) (old : PageRecords) (page : ℕ) : Type 0 where
  pub page_range : page < length old.records
  pub absent : (record_at old.records page).resident ≡ false
  pub idle : (record_at old.records page).loader ≡ None
  pub upper_range : (p : ℕ) → is_among (uppers_of layout page) p ≡ true → p < length old.records
  pub room : (p : ℕ) → (record_at old.records p).dependents + times (uppers_of layout page) p < 2 ^ 32

-- in a state in which the page is not held
pub CanLoad-absent : (layout : Layout) (s : State) (table : PageRecords) (page : ℕ) → InBounds layout →
    HasItemAPage layout s → ArePagesOf layout s table → is_held s page ≡ false → page < layout.pages →
    CanLoad layout table page
CanLoad-absent layout s table page bounds lists are absent below =
    let parts = held-not (is_resident s page) (is_loading s page) absent in
    record {
      page_range = omega (arith, below, record-a_page layout s table lists are);
      absent = resident-at layout s table are page ∙ parts.0;
      idle = loader-none layout s table page are parts.1;
      upper_range = uppers-in_range layout s table page bounds lists are below;
      room = uppers-room layout s table page bounds are below;
    }

above-roots : (page roots : ℕ) → nat_lt page roots ≡ false → roots ≤ page
above-roots page roots h = grind (arith, nat_tests)

pub record CanEvict (layout : Layout) (old : PageRecords) (victim : ℕ) : Type 0 where
  pub resident : (record_at old.records victim).resident ≡ true
  pub idle : (record_at old.records victim).loader ≡ None
  pub no_root : old.roots ≤ victim
  pub upper_range : (p : ℕ) → is_among (uppers_of layout victim) p ≡ true → p < length old.records
  pub counted : (p : ℕ) → times (uppers_of layout victim) p ≤ (record_at old.records p).dependents

pub CanEvict-evictable : (layout : Layout) (s : State) (table : PageRecords) (page victim : ℕ) → IsPast layout s →
    ArePagesOf layout s table → is_evictable layout s page victim ≡ true → CanEvict layout table victim
CanEvict-evictable layout s table page victim past are evictable =
    let free = loose layout s page victim evictable in
    let below = resident-page layout s victim past.lists free.resident in
    let no_root = above-roots victim layout.roots free.no_root in
    let held : is_held s victim ≡ true = or-left (is_resident s victim) (is_loading s victim) free.resident in
    record {
      resident = resident-at layout s table are victim ∙ free.resident;
      idle = loader-none layout s table victim are (resident-idle layout s victim past.sound free.resident);
      no_root = omega (arith, no_root, are.roots);
      upper_range = uppers-in_range layout s table victim past.bounds past.lists are below;
      counted = uppers-counted layout s table victim past.bounds are held no_root below;
    }

-- ---- the fields of the records

abbrev pub evicted : PageRecords → ℕ → PageRecords
evicted table victim = with_record table victim (record (record_at table.records victim) { resident = false })

abbrev pub loading : PageRecords → ℕ → MakerId → PageRecords
loading table page by = with_record table page (record (record_at table.records page) { loader = Some by })

loaded-field : {X : Type 0} (f : PageRecord → X) (page : ℕ) (by : MakerId) (uppers : List ℕ) (old new : PageRecords) →
    ((k : ℕ) (r : PageRecord) → f (more_dependents k r) ≡ f r) →
    f (record (record_at old.records page) { loader = Some by }) ≡ f (record_at old.records page) →
    HaveMoreDependents uppers (loading old page by) new → (p : ℕ) →
    f (record_at new.records p) ≡ f (record_at old.records p)
loaded-field f page by uppers old new keeps own more p =
    changed-field f more_dependents uppers (loading old page by) new keeps more p
    ∙ field-kept f old.records page (record (record_at old.records page) { loader = Some by }) p own

evicted-field : {X : Type 0} (f : PageRecord → X) (victim : ℕ) (uppers : List ℕ) (old new : PageRecords) →
    ((k : ℕ) (r : PageRecord) → f (fewer_dependents k r) ≡ f r) →
    f (record (record_at old.records victim) { resident = false }) ≡ f (record_at old.records victim) →
    HaveFewerDependents uppers (evicted old victim) new → (p : ℕ) →
    f (record_at new.records p) ≡ f (record_at old.records p)
evicted-field f victim uppers old new keeps own fewer p =
    changed-field f fewer_dependents uppers (evicted old victim) new keeps fewer p
    ∙ field-kept f old.records victim (record (record_at old.records victim) { resident = false }) p own

-- what a Take leaves of the records, beside what the state says of each page
record KeepsRecords (old new : PageRecords) : Type 0 where
  pub pins : (p : ℕ) → (record_at new.records p).pins ≡ (record_at old.records p).pins
  pub installs : (p : ℕ) → (record_at new.records p).installed_at ≡ (record_at old.records p).installed_at
  pub loads : (p : ℕ) → (record_at new.records p).load_ended_at ≡ (record_at old.records p).load_ended_at

keeps-loaded : (page : ℕ) (by : MakerId) (uppers : List ℕ) (old new : PageRecords) →
    HaveMoreDependents uppers (loading old page by) new → KeepsRecords old new
keeps-loaded page by uppers old new more = record {
  pins = loaded-field (λ (r : PageRecord). r.pins) page by uppers old new (λ k r. refl) refl more;
  installs = loaded-field (λ (r : PageRecord). r.installed_at) page by uppers old new (λ k r. refl) refl more;
  loads = loaded-field (λ (r : PageRecord). r.load_ended_at) page by uppers old new (λ k r. refl) refl more;
}

keeps-evicted : (victim : ℕ) (uppers : List ℕ) (old new : PageRecords) →
    HaveFewerDependents uppers (evicted old victim) new → KeepsRecords old new
keeps-evicted victim uppers old new fewer = record {
  pins = evicted-field (λ (r : PageRecord). r.pins) victim uppers old new (λ k r. refl) refl fewer;
  installs = evicted-field (λ (r : PageRecord). r.installed_at) victim uppers old new (λ k r. refl) refl fewer;
  loads = evicted-field (λ (r : PageRecord). r.load_ended_at) victim uppers old new (λ k r. refl) refl fewer;
}

-- ---- the tables

taken-tables : (layout : Layout) (s : State) (journal : List Entry) (tables : Tables) (by : MakerId) (frame : Option ℕ)
    (page : ℕ) (victim : Option ℕ) (new : PageRecords) (makers : List (ℕ × ℕ)) →
    AreTablesAt layout s journal tables → IsAllowedTake layout s by.0 frame page victim →
    ((n : ℕ) → has_maker makers n ≡ ((by.0 == n) || has_maker tables.makers n)) →
    ((n : ℕ) → fault_of makers n ≡ fault_of tables.makers n) → KeepsRecords tables.pages new →
    ArePagesOf layout (state_after s (record { by = by.0; what = Take frame page victim })) new →
    AreFrames (state_after s (record { by = by.0; what = Take frame page victim })).resident
    (installed_at tables.pages.records) s.frames tables.frames.items →
    AreTablesAt layout (state_after s (record { by = by.0; what = Take frame page victim }))
    (journal ++ record { by = by.0; what = Take frame page victim } ∷ [])
    (record tables { pages = new; makers = makers })
taken-tables layout s journal tables by frame page victim new makers are allowed has faults keeps pages frames =
    let e : Entry = record { by = by.0; what = Take frame page victim } in
    record {
      pages = pages;
      pins = λ p. keeps.pins p ∙ are.pins p;
      installs = λ p. omega (arith, keeps.installs p, are.installs p);
      loads = λ p. omega (arith, keeps.loads p, are.loads p);
      frames = AreFrames-recounted (state_after s e).resident (installed_at tables.pages.records)
          (installed_at new.records) s.frames tables.frames.items keeps.installs frames;
      timely = IsTimelyTable-later s.entries tables.frames are.timely;
      begun = begun frame allowed.owned;
      wants = AreWants-kept s.entries _ _ tables.wants.wants s.wants are.wants
          (record { loads = keeps.loads; asked = λ n. refl; ends = λ n. refl; last_asked = refl });
      waited = are.waited;
      makers = AreMakers-take journal s.loading tables.makers makers by.0 page frame victim are.makers has faults;
      stopped = are.stopped;
    }
  where
    begun : (o : Option ℕ) → ((f : ℕ) → o ≡ Some f → owns s by.0 f ≡ true) →
        AreBegun (journal ++ record { by = by.0; what = Take o page victim } ∷ []) tables.frames.items
    begun None owned = AreBegun-same journal (record { by = by.0; what = Take None page victim }) tables.frames.items
        tables.frames.items are.begun refl (λ n. refl)
    begun (Some f) owned = AreBegun-known journal (record { by = by.0; what = Take (Some f) page victim }) f
        tables.frames.items are.begun refl
        (ap is_some (owned-item layout s journal tables by.0 f are (owned f refl)).1)

pub AreTablesAt-take : (layout : Layout) (s : State) (journal : List Entry) (tables : Tables) (by : MakerId)
    (frame : Option ℕ) (page : ℕ) (new : PageRecords) (makers : List (ℕ × ℕ)) → IsPast layout s →
    AreTablesAt layout s journal tables → IsAllowedTake layout s by.0 frame page None →
    ((n : ℕ) → has_maker makers n ≡ ((by.0 == n) || has_maker tables.makers n)) →
    ((n : ℕ) → fault_of makers n ≡ fault_of tables.makers n) →
    HaveMoreDependents (uppers_of layout page) (loading tables.pages page by) new →
    AreTablesAt layout (state_after s (record { by = by.0; what = Take frame page None }))
    (journal ++ record { by = by.0; what = Take frame page None } ∷ []) (record tables { pages = new; makers = makers })
AreTablesAt-take layout s journal tables by frame page new makers past are allowed has faults more =
    taken-tables layout s journal tables by frame page None new makers are allowed has faults
    (keeps-loaded page by (uppers_of layout page) tables.pages new more)
    (ArePagesOf-take layout s by.0 frame page tables.pages new past.bounds past.lists past.sound are.pages
    allowed.taken.takeable allowed.below more)
    are.frames

pub AreTablesAt-take_for : (layout : Layout) (s : State) (journal : List Entry) (tables : Tables) (by : MakerId)
    (frame : Option ℕ) (page victim : ℕ) (mid new : PageRecords) (makers : List (ℕ × ℕ)) → IsPast layout s →
    AreTablesAt layout s journal tables → IsAllowedTake layout s by.0 frame page (Some victim) →
    ((n : ℕ) → has_maker makers n ≡ ((by.0 == n) || has_maker tables.makers n)) →
    ((n : ℕ) → fault_of makers n ≡ fault_of tables.makers n) →
    HaveFewerDependents (uppers_of layout victim) (evicted tables.pages victim) mid →
    HaveMoreDependents (uppers_of layout page) (loading mid page by) new →
    AreTablesAt layout (state_after s (record { by = by.0; what = Take frame page (Some victim) }))
    (journal ++ record { by = by.0; what = Take frame page (Some victim) } ∷ [])
    (record tables { pages = new; makers = makers })
AreTablesAt-take_for layout s journal tables by frame page victim mid new makers past are allowed has faults fewer
    more =
    let evictable = victim-free layout s page victim allowed.taken in
    let free = loose layout s page victim evictable in
    let first = keeps-evicted victim (uppers_of layout victim) tables.pages mid fewer in
    let then = keeps-loaded page by (uppers_of layout page) mid new more in
    taken-tables layout s journal tables by frame page (Some victim) new makers are allowed has faults
    (record {
      pins = λ p. then.pins p ∙ first.pins p;
      installs = λ p. then.installs p ∙ first.installs p;
      loads = λ p. then.loads p ∙ first.loads p;
    })
    (ArePagesOf-take_for layout s by.0 frame page victim mid new past.bounds past.lists past.sound
    (ArePagesOf-victim layout s page victim tables.pages mid past.bounds past.lists past.sound are.pages evictable
    fewer)
    allowed.taken.takeable allowed.below more)
    (AreFrames-evict s.resident (installed_at tables.pages.records) s.frames tables.frames.items victim are.frames
    (unpinned-frames s victim free.unpinned))
