-- The tables after a load that ends without its page.
use Rattle.std.proofs.Common.{◌≡◌, ◌≢◌, ℕ, ◌+◌, ◌<◌, ◌≤◌, List, [], ◌∷◌, ◌++◌, true, false, ⊎_elim, Option, Some}
use Rattle.std.proofs.Common.{None, is_some, get_or, length, set, refl, sym, ap, ◌∙◌, arith}
use Rattle.std.proofs.lemmas.Bool.{cases_eq}
use Rattle.journal.specs.Layout.{uppers_of}
use Rattle.journal.specs.declared.entries.Entry.{Entry}
use Rattle.journal.specs.declared.layouts.Layout.{Layout}
use Rattle.pool_rules.specs.Events.{frame_of}
use Rattle.pool_rules.specs.Numbers.{holds, is_among}
use Rattle.pool_rules.specs.Rules.{loads}
use Rattle.pool_rules.specs.State.{State, is_held, is_loading, is_resident, wants_without}
use Rattle.pool_rules.proofs.Allowed.{installed-absent, installed-below}
use Rattle.pool_rules.proofs.Flags.{get_or-set_cases}
use Rattle.pool_rules.proofs.Soundness.{loads-loading}
use Rattle.pool_rules.proofs.Tests.{or-right, same-eqb}
use Rattle.pool_tables.specs.Changes.{HaveFewerDependents, fewer_dependents, times}
use Rattle.pool_tables.specs.MakerItems.{has_maker}
use Rattle.pool_tables.specs.MakerMeaning.{AreMakers}
use Rattle.pool_tables.specs.PageRecords.{PageRecords, record_at, with_record}
use Rattle.pool_tables.specs.declared.page_record.PageRecord.{PageRecord}
use Rattle.pool_tables.proofs.BegunFrames.{AreBegun-same}
use Rattle.pool_tables.proofs.EntryPages.{ArePagesOf-again, ArePagesOf-lost, no-root}
use Rattle.pool_tables.proofs.EventPremises.{EndsLoad-tables, IsTimelyTable-later}
use Rattle.pool_tables.proofs.PageRanges.{record-a_page, uppers-counted, uppers-in_range}
use Rattle.pool_tables.proofs.PageTimes.{changed-field, replaced-own, replaced-other}
use Rattle.pool_tables.proofs.PoolPages.{field-kept, loading-at, resident-at}
use Rattle.pool_tables.proofs.WantMeanings.{AreWants-load_ended}
use Rattle.residency.specs.Internal.Tables.{installed_at}
use Rattle.residency.specs.declared.tables.Tables.{Tables}
use Rattle.residency.proofs.FrameRecords.{AreFrames-recounted}
use Rattle.residency.proofs.TablesAt.{AreTablesAt, IsPast}

-- the records once the load ended, but for the dependents of the page's uppers
abbrev pub ended_load : PageRecords → ℕ → ℕ → PageRecords
ended_load table page count =
    with_record table page (record (record_at table.records page) { loader = None; load_ended_at = count })

abbrev pub lost_state : State → ℕ → State
lost_state s page =
    record s { loading = set s.loading page None; wants = wants_without page s.wants; entries = s.entries + 1 }

-- what it leaves of a field of the records
lost-field : {X : Type 0} (f : PageRecord → X) (page count : ℕ) (uppers : List ℕ) (old new : PageRecords) →
    ((k : ℕ) (r : PageRecord) → f (fewer_dependents k r) ≡ f r) →
    f (record (record_at old.records page) { loader = None; load_ended_at = count }) ≡ f (record_at old.records page) →
    HaveFewerDependents uppers (ended_load old page count) new →
    (p : ℕ) → f (record_at new.records p) ≡ f (record_at old.records p)
lost-field f page count uppers old new keeps own fewer p =
    changed-field f fewer_dependents uppers (ended_load old page count) new keeps fewer p
    ∙ field-kept f old.records page (record (record_at old.records page) { loader = None; load_ended_at = count }) p own

ended-own : (page count : ℕ) (uppers : List ℕ) (old new : PageRecords) → page < length old.records →
    HaveFewerDependents uppers (ended_load old page count) new → (record_at new.records page).load_ended_at ≡ count
ended-own page count uppers old new below fewer =
    changed-field (λ (r : PageRecord). r.load_ended_at) fewer_dependents uppers (ended_load old page count) new
    (λ k r. refl) fewer page
    ∙ replaced-own (λ (r : PageRecord). r.load_ended_at) old page
    (record (record_at old.records page) { loader = None; load_ended_at = count }) below

ended-other : (page count : ℕ) (uppers : List ℕ) (old new : PageRecords) →
    HaveFewerDependents uppers (ended_load old page count) new → (p : ℕ) → p ≢ page →
    (record_at new.records p).load_ended_at ≡ (record_at old.records p).load_ended_at
ended-other page count uppers old new fewer p other =
    changed-field (λ (r : PageRecord). r.load_ended_at) fewer_dependents uppers (ended_load old page count) new
    (λ k r. refl) fewer p
    ∙ replaced-other (λ (r : PageRecord). r.load_ended_at) old page p
    (record (record_at old.records page) { loader = None; load_ended_at = count }) other

-- ---- what is known of a page that is being loaded

pub loaded-below : (layout : Layout) (s : State) (by page : ℕ) → IsPast layout s → loads s by page ≡ true →
    page < layout.pages
loaded-below layout s by page past loading =
    omega (arith, installed-below layout s by page past.lists loading, past.lists.flag_a_page)

pub record CanLose (layout : Layout) (old : PageRecords) (page : ℕ) : Type 0 where
  pub absent : (record_at old.records page).resident ≡ false
  pub loading : is_some (record_at old.records page).loader ≡ true
  pub upper_range : (p : ℕ) → is_among (uppers_of layout page) p ≡ true → p < length old.records
  pub counted : (p : ℕ) → times (uppers_of layout page) p ≤ (record_at old.records p).dependents

pub CanLose-loads : (layout : Layout) (s : State) (journal : List Entry) (tables : Tables) (by page : ℕ) →
    IsPast layout s → AreTablesAt layout s journal tables → loads s by page ≡ true → CanLose layout tables.pages page
CanLose-loads layout s journal tables by page past are loading =
    let old = tables.pages in
    let below = loaded-below layout s by page past loading in
    let absent = installed-absent layout s by page past.sound loading in
    let held : is_held s page ≡ true = or-right (is_resident s page) (is_loading s page)
    (loads-loading s by page loading) in
    record {
      absent = resident-at layout s old are.pages page ∙ absent;
      loading = loading-at layout s old are.pages page ∙ loads-loading s by page loading;
      upper_range = uppers-in_range layout s old page past.bounds past.lists are.pages below;
      counted = uppers-counted layout s old page past.bounds are.pages held
          (no-root layout s page past.sound absent) below;
    }

holds-number : (o : Option ℕ) (n : ℕ) → holds o n ≡ true → o ≡ Some n
holds-number None n h = cc
holds-number (Some m) n h = let same : m ≡ n = same-eqb m n h in ap Some same

-- who loads a page has an item
pub loader-item : (layout : Layout) (s : State) (journal : List Entry) (tables : Tables) (by page : ℕ) →
    AreTablesAt layout s journal tables → loads s by page ≡ true → has_maker tables.makers by ≡ true
loader-item layout s journal tables by page are loading =
    are.makers.loaders page by (holds-number (get_or s.loading page None) by loading)

-- ---- the end of the load

pub AreTablesAt-lost : (layout : Layout) (s : State) (journal : List Entry) (tables : Tables) (e : Entry) (page : ℕ)
    (new : PageRecords) (makers : List (ℕ × ℕ)) → IsPast layout s → AreTablesAt layout s journal tables →
    loads s e.by page ≡ true → frame_of e.what ≡ None →
    HaveFewerDependents (uppers_of layout page) (ended_load tables.pages page (s.entries + 1)) new →
    AreMakers (journal ++ e ∷ []) (set s.loading page None) makers →
    AreTablesAt layout (lost_state s page) (journal ++ e ∷ []) (record tables { pages = new; makers = makers })
AreTablesAt-lost layout s journal tables e page new makers past are loading of_none fewer are_makers =
    let old = tables.pages in
    let count = s.entries + 1 in
    let uppers = uppers_of layout page in
    let below : page < length old.records =
    omega (arith, loaded-below layout s e.by page past loading, record-a_page layout s old past.lists are.pages) in
    let own = ended-own page count uppers old new below fewer in
    let others = ended-other page count uppers old new fewer in
    let installs = lost-field (λ (r : PageRecord). r.installed_at) page count uppers old new (λ k r. refl) refl fewer in
    record {
      pages = ArePagesOf-again layout (record s { loading = set s.loading page None }) (lost_state s page) new refl refl
          refl (ArePagesOf-lost layout s e.by page old new past.bounds past.lists past.sound are.pages loading fewer);
      pins = λ p. lost-field (λ (r : PageRecord). r.pins) page count uppers old new (λ k r. refl) refl fewer p
          ∙ are.pins p;
      installs = λ p. omega (arith, installs p, are.installs p);
      loads = λ p. ⊎_elim
          (λ same. let here : (record_at new.records p).load_ended_at ≡ count =
          ap (λ q. (record_at new.records q).load_ended_at) same ∙ own in omega (arith, here))
          (λ other. omega (arith, others p other, are.loads p))
          (cases_eq p page);
      frames = AreFrames-recounted s.resident (installed_at old.records) (installed_at new.records) s.frames
          tables.frames.items installs are.frames;
      timely = IsTimelyTable-later s.entries tables.frames are.timely;
      begun = AreBegun-same journal e tables.frames.items tables.frames.items are.begun of_none (λ n. refl);
      wants = AreWants-load_ended s.entries page _ _ tables.wants.wants s.wants are.wants
          (EndsLoad-tables old.records new.records page count (λ n. false) tables.frames tables.frames own others
          (λ n. refl) refl);
      waited = are.waited;
      makers = are_makers;
      stopped = are.stopped;
    }

-- loads after one ended
pub fewer-loads : (loading : List (Option ℕ)) (page p maker : ℕ) →
    get_or (set loading page None) p None ≡ Some maker → get_or loading p None ≡ Some maker
fewer-loads loading page p maker at =
    ⊎_elim (λ same. sym same ∙ at) (λ here. let none = here.1 in cc) (get_or-set_cases loading page p None None)
