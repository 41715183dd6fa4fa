-- The tables after an Install: the frames that wait for the page pin it, and it is resident.
use Rattle.std.proofs.Common.{◌≡◌, ◌≢◌, ℕ, ◌+◌, ◌*◌, ◌<◌, ◌≤◌, ◌==◌, List, [], ◌∷◌, ◌++◌, Bool, true, false, cond}
use Rattle.std.proofs.Common.{⊎_elim, Option, Some, None, is_some, length, map, set, refl, sym, ap, ◌∙◌, subst, arith}
use Rattle.std.proofs.Common.{eq-eqb, length-set}
use Rattle.std.proofs.lemmas.Bool.{cases_eq}
use Rattle.std.specs.List.Sorted.{IsStrictlySortedBy}
use Rattle.std.specs.Map.{keys_of}
use Rattle.std.specs.Option.{option_map}
use Rattle.std.specs.Ordering.{nat_cmp}
use Rattle.geom_core.specs.declared.digests.Digest32.{Digest32}
use Rattle.journal.specs.declared.entries.Entry.{Entry}
use Rattle.journal.specs.declared.entries.What.TheVariants.{Install}
use Rattle.journal.specs.declared.layouts.Layout.{Layout}
use Rattle.pool_rules.specs.Rules.{loads}
use Rattle.pool_rules.specs.State.{State, frame_after_install, state_after, waits_for}
use Rattle.pool_rules.specs.declared.want.Want.{Want}
use Rattle.pool_rules.proofs.Allowed.{installed-absent, installed-below}
use Rattle.pool_rules.proofs.Soundness.{loads-loading}
use Rattle.pool_tables.specs.Changes.{more_pins}
use Rattle.pool_tables.specs.FrameItems.{FrameItems, installed_item, item_of, pin_count}
use Rattle.pool_tables.specs.FrameMeaning.{AreFrames}
use Rattle.pool_tables.specs.PageRecords.{PageRecords, record_at, with_record}
use Rattle.pool_tables.specs.WantMeaning.{IsWaited}
use Rattle.pool_tables.specs.WantQueue.{counts_in, standing}
use Rattle.pool_tables.specs.declared.frame_item.FrameItem.{FrameItem}
use Rattle.pool_tables.specs.declared.page_record.PageRecord.{PageRecord}
use Rattle.pool_tables.proofs.Apart.{ne-eqb}
use Rattle.pool_tables.proofs.BegunFrames.{AreBegun-same}
use Rattle.pool_tables.proofs.EntryPages.{ArePagesOf-install, no-root}
use Rattle.pool_tables.proofs.EventPremises.{EndsLoad-tables, IsTimelyTable-installed, snapshots-uncovered}
use Rattle.pool_tables.proofs.FrameMeanings.{AreFrames-install}
use Rattle.pool_tables.proofs.InstalledWants.{grown}
use Rattle.pool_tables.proofs.MakerMeanings.{AreMakers-other}
use Rattle.pool_tables.proofs.PageRanges.{record-a_page}
use Rattle.pool_tables.proofs.PageTimes.{replaced-other, replaced-own}
use Rattle.pool_tables.proofs.PinCounts.{pin_count-most}
use Rattle.pool_tables.proofs.PoolPages.{ArePagesOf-kept, field-kept, loading-at, resident-at, used_of}
use Rattle.pool_tables.proofs.TableCounts.{waits-missing}
use Rattle.pool_tables.proofs.WaitedWants.{IsWaited-installed}
use Rattle.pool_tables.proofs.WantLists.{all-weaker}
use Rattle.pool_tables.proofs.WantMeanings.{AreWants-load_ended}
use Rattle.residency.specs.Internal.Tables.{installed_at}
use Rattle.residency.specs.declared.tables.Tables.{Tables}
use Rattle.residency.proofs.LostTables.{fewer-loads, loaded-below}
use Rattle.residency.proofs.TablesAt.{AreTablesAt, IsPast}

-- the records once this number of frames more pin the page, and once it is resident
abbrev pub pinned_by : ℕ → PageRecords → ℕ → PageRecords
pinned_by pins table page = with_record table page (more_pins pins (record_at table.records page))

abbrev pub resident_from : ℕ → PageRecords → ℕ → PageRecords
resident_from count table page = with_record table page (record (record_at table.records page) {
  resident = true;
  loader = None;
  last_used = count;
  installed_at = count;
  load_ended_at = count;
})

-- whether the frame waits for the page
abbrev pub waits_in : Tables → ℕ → ℕ → Bool
waits_in tables page n = waits_for (standing (counts_in tables.pages.records tables.frames) tables.wants.wants) n page

-- the frames that wait for the page have it installed, and as many of them pin it only from now on
pub record InstallsFrames (waits : ℕ → Bool) (page more : ℕ) (old new : FrameItems) : Type 0 where
  pub items : (n : ℕ) → item_of new n ≡ cond (waits n) (option_map (installed_item page) (item_of old n))
      (item_of old n)
  pub last_asked : new.last_asked ≡ old.last_asked
  pub ordered : IsStrictlySortedBy nat_cmp (keys_of old.items) → IsStrictlySortedBy nat_cmp (keys_of new.items)
  pub pins : (p : ℕ) → pin_count new.items p ≡ pin_count old.items p + cond (page == p) more 0

is_some-grown : (b : Bool) (page : ℕ) (o : Option FrameItem) → is_some (grown b page o) ≡ is_some o
is_some-grown true page None = refl
is_some-grown true page (Some item) = refl
is_some-grown false page o = refl

-- ---- the fields of the records

record HasInstalled (page count more : ℕ) (old new : PageRecords) : Type 0 where
  pub own_installs : (record_at new.records page).installed_at ≡ count
  pub own_loads : (record_at new.records page).load_ended_at ≡ count
  pub own_pins : (record_at new.records page).pins ≡ (record_at old.records page).pins + more
  pub installs : (p : ℕ) → p ≢ page → (record_at new.records p).installed_at ≡ (record_at old.records p).installed_at
  pub loads : (p : ℕ) → p ≢ page → (record_at new.records p).load_ended_at ≡ (record_at old.records p).load_ended_at
  pub pins : (p : ℕ) → p ≢ page → (record_at new.records p).pins ≡ (record_at old.records p).pins

HasInstalled-records : (page count pins : ℕ) (old : PageRecords) → page < length old.records →
    HasInstalled page count pins old (resident_from count (pinned_by pins old page) page)
HasInstalled-records page count pins old below =
    let mid = pinned_by pins old page in
    let r : PageRecord = more_pins pins (record_at old.records page) in
    let last : PageRecord = record (record_at mid.records page)
    { resident = true; loader = None; last_used = count; installed_at = count; load_ended_at = count } in
    let within : page < length mid.records = omega (arith, below, length-set old.records page r) in
    record {
      own_installs = replaced-own (λ (x : PageRecord). x.installed_at) mid page last within;
      own_loads = replaced-own (λ (x : PageRecord). x.load_ended_at) mid page last within;
      own_pins = replaced-own (λ (x : PageRecord). x.pins) mid page last within
          ∙ replaced-own (λ (x : PageRecord). x.pins) old page r below;
      installs = λ p other. replaced-other (λ (x : PageRecord). x.installed_at) mid page p last other
          ∙ replaced-other (λ (x : PageRecord). x.installed_at) old page p r other;
      loads = λ p other. replaced-other (λ (x : PageRecord). x.load_ended_at) mid page p last other
          ∙ replaced-other (λ (x : PageRecord). x.load_ended_at) old page p r other;
      pins = λ p other. replaced-other (λ (x : PageRecord). x.pins) mid page p last other
          ∙ replaced-other (λ (x : PageRecord). x.pins) old page p r other;
    }

-- ---- the frames

frames-installed : (layout : Layout) (s : State) (journal : List Entry) (tables : Tables) (by page pins : ℕ)
    (frames : FrameItems) → IsPast layout s → AreTablesAt layout s journal tables → loads s by page ≡ true →
    InstallsFrames (waits_in tables page) page pins tables.frames frames →
    AreFrames (set s.resident page true)
    (installed_at (resident_from (s.entries + 1) (pinned_by pins tables.pages page) page).records)
    (map (frame_after_install s.wants page) s.frames) frames.items
frames-installed layout s journal tables by page pins frames past are loading installs =
    let old = tables.pages in
    let count = s.entries + 1 in
    let below : page < length old.records =
    omega (arith, loaded-below layout s by page past loading, record-a_page layout s old past.lists are.pages) in
    let has = HasInstalled-records page count pins old below in
    let items = subst (λ (ws : List Want). (n : ℕ) → item_of frames n ≡ cond (waits_for ws n page)
    (option_map (installed_item page) (item_of tables.frames n)) (item_of tables.frames n)) are.wants.standing
    installs.items in
    AreFrames-install s.resident (installed_at old.records) _ s.frames s.wants tables.frames.items frames.items page
    count
    are.frames (installed-below layout s by page past.lists loading)
    (installed-absent layout s by page past.sound loading)
    has.own_installs has.installs (λ n item at. snapshots-uncovered s.entries tables.frames are.timely n item at)
    (λ n item at live waits. waits-missing s.entries old.records tables.frames tables.wants.wants n page item
    are.wants.timely are.waited at live (ap (λ (ws : List Want). waits_for ws n page) are.wants.standing ∙ waits))
    (installs.ordered are.frames.ordered) items

-- ---- what the calls require

pub record CanPin (old : PageRecords) (page pins frames : ℕ) : Type 0 where
  pub page_range : page < length old.records
  pub room : (record_at old.records page).pins + pins ≤ 2 * frames

pub CanPin-installed : (layout : Layout) (s : State) (journal : List Entry) (tables : Tables) (by page pins : ℕ)
    (frames : FrameItems) → IsPast layout s → AreTablesAt layout s journal tables → loads s by page ≡ true →
    InstallsFrames (waits_in tables page) page pins tables.frames frames →
    CanPin tables.pages page pins (length frames.items)
CanPin-installed layout s journal tables by page pins frames past are loading installs =
    let one : cond (page == page) pins 0 ≡ pins = ap (λ b. cond b pins 0) (eq-eqb page page refl) in
    let most = pin_count-most (set s.resident page true) _ (map (frame_after_install s.wants page) s.frames)
    frames.items
    page (frames-installed layout s journal tables by page pins frames past are loading installs) in
    record {
      page_range =
          omega (
            arith,
            loaded-below layout s by page past loading,
            record-a_page layout s tables.pages past.lists
                are.pages,
          );
      room = omega (arith, most, one, installs.pins page, are.pins page);
    }

pub record CanInstall (old : PageRecords) (page count : ℕ) : Type 0 where
  pub no_root : old.roots ≤ page
  pub absent : (record_at old.records page).resident ≡ false
  pub loading : is_some (record_at old.records page).loader ≡ true
  pub later : (p : ℕ) → (record_at old.records p).last_used < count

pub CanInstall-pinned : (layout : Layout) (s : State) (journal : List Entry) (tables : Tables)
    (by page pins count : ℕ) →
    IsPast layout s → AreTablesAt layout s journal tables → loads s by page ≡ true →
    ((p : ℕ) → (record_at tables.pages.records p).last_used < count) →
    CanInstall (pinned_by pins tables.pages page) page count
CanInstall-pinned layout s journal tables by page pins count past are loading later =
    let old = tables.pages in
    let r : PageRecord = more_pins pins (record_at old.records page) in
    let absent = installed-absent layout s by page past.sound loading in
    let root = no-root layout s page past.sound absent in
    record {
      no_root = omega (arith, root, are.pages.roots);
      absent = field-kept (λ (x : PageRecord). x.resident) old.records page r page refl
          ∙ (resident-at layout s old are.pages page ∙ absent);
      loading = ap is_some (field-kept (λ (x : PageRecord). x.loader) old.records page r page refl)
          ∙ (loading-at layout s old are.pages page ∙ loads-loading s by page loading);
      later = λ p. omega (arith, field-kept used_of old.records page r p refl, later p);
    }

-- ---- the tables

pub AreTablesAt-install : (layout : Layout) (s : State) (journal : List Entry) (tables : Tables) (by page : ℕ)
    (digest : Digest32) (pins : ℕ) (frames : FrameItems) → IsPast layout s → AreTablesAt layout s journal tables →
    loads s by page ≡ true → InstallsFrames (waits_in tables page) page pins tables.frames frames →
    AreTablesAt layout (state_after s (record { by = by; what = Install page digest }))
    (journal ++ record { by = by; what = Install page digest } ∷ [])
    (record tables { pages = resident_from (s.entries + 1) (pinned_by pins tables.pages page) page; frames = frames })
AreTablesAt-install layout s journal tables by page digest pins frames past are loading installs =
    let e : Entry = record { by = by; what = Install page digest } in
    let old = tables.pages in
    let count = s.entries + 1 in
    let mid = pinned_by pins old page in
    let new = resident_from count mid page in
    let below : page < length old.records =
    omega (arith, loaded-below layout s by page past loading, record-a_page layout s old past.lists are.pages) in
    let has = HasInstalled-records page count pins old below in
    record {
      pages = ArePagesOf-install layout s by page digest mid past.lists
          (ArePagesOf-kept layout s page (more_pins pins (record_at old.records page)) old are.pages refl refl refl
          refl)
          loading;
      pins = λ p. ⊎_elim
          (λ same. ap (λ q. (record_at new.records q).pins) same
          ∙ (has.own_pins ∙ (own_count ∙ ap (λ q. pin_count frames.items q) (sym same))))
          (λ other. has.pins p other ∙ (are.pins p ∙ other_count p other))
          (cases_eq p page);
      installs = λ p. ⊎_elim
          (λ same. let here : (record_at new.records p).installed_at ≡ count =
          ap (λ q. (record_at new.records q).installed_at) same ∙ has.own_installs in omega (arith, here))
          (λ other. omega (arith, has.installs p other, are.installs p))
          (cases_eq p page);
      loads = λ p. ⊎_elim
          (λ same. let here : (record_at new.records p).load_ended_at ≡ count =
          ap (λ q. (record_at new.records q).load_ended_at) same ∙ has.own_loads in omega (arith, here))
          (λ other. omega (arith, has.loads p other, are.loads p))
          (cases_eq p page);
      frames = frames-installed layout s journal tables by page pins frames past are loading installs;
      timely = IsTimelyTable-installed s.entries page (waits_in tables page) tables.frames frames are.timely
          installs.items installs.last_asked;
      begun = AreBegun-same journal e tables.frames.items frames.items are.begun refl
          (λ n. ap is_some (installs.items n) ∙ is_some-grown (waits_in tables page n) page (item_of tables.frames n));
      wants = AreWants-load_ended s.entries page _ _ tables.wants.wants s.wants are.wants
          (EndsLoad-tables old.records new.records page count (waits_in tables page) tables.frames frames has.own_loads
          has.loads installs.items installs.last_asked);
      waited = all-weaker (IsWaited tables.frames) (IsWaited frames)
          (λ w waited. IsWaited-installed page (waits_in tables page) tables.frames frames w installs.items waited)
          tables.wants.wants are.waited;
      makers = AreMakers-other journal s.loading (set s.loading page None) tables.makers e are.makers refl
          (λ p m at. fewer-loads s.loading page p m at);
      stopped = are.stopped;
    }
  where
    own_count : (record_at tables.pages.records page).pins + pins ≡ pin_count frames.items page
    own_count =
        let one : cond (page == page) pins 0 ≡ pins = ap (λ b. cond b pins 0) (eq-eqb page page refl) in
        omega (arith, one, installs.pins page, are.pins page)

    other_count : (p : ℕ) → p ≢ page → pin_count tables.frames.items p ≡ pin_count frames.items p
    other_count p other =
        let none : ◌≡◌ {A = ℕ} (cond (page == p) pins 0) 0 = ap (λ b. cond b pins 0)
        (ne-eqb page p (λ e. other (sym e))) in
        omega (arith, none, installs.pins p)
