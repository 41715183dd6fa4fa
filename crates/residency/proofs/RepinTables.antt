-- The tables after a Settle or a Narrow: the frame's explicit pins go, others come, and these pages are used.
use Rattle.std.proofs.Common.{◌≡◌, ℕ, ◌+◌, ◌*◌, ◌<◌, ◌≤◌, List, [], ◌∷◌, ◌++◌, Bool, true, false, nat_lt, Option}
use Rattle.std.proofs.Common.{Some, None, is_some, length, map, replicate, refl, sym, ap, ◌∙◌, subst, arith}
use Rattle.std.specs.List.{AllByRecursion}
use Rattle.std.specs.Option.{option_map}
use Rattle.std.proofs.lemmas.Bool.Decides.{nat_tests}
use Rattle.journal.specs.Layout.{all_below, ascends}
use Rattle.journal.specs.declared.entries.Entry.{Entry}
use Rattle.journal.specs.declared.entries.What.TheVariants.{Narrow, Settle}
use Rattle.journal.specs.declared.layouts.Layout.{Layout}
use Rattle.pool_rules.specs.Frame.{Frame}
use Rattle.pool_rules.specs.Rules.{all_resident, owns}
use Rattle.pool_rules.specs.State.{State, is_resident, state_after, wants_of, wants_of_others}
use Rattle.pool_rules.proofs.Flags.{place-within}
use Rattle.pool_rules.proofs.Tests.{and-both, both}
use Rattle.pool_tables.specs.Changes.{AreUsed, times}
use Rattle.pool_tables.specs.FrameItems.{FrameItems, PutsItem, asked_in, ended_in, item_in, item_of, narrowed_item}
use Rattle.pool_tables.specs.FrameItems.{pins_in, settled_item}
use Rattle.pool_tables.specs.FrameMeaning.{IsItemOf, frame_at}
use Rattle.pool_tables.specs.PageRecords.{PageRecords, record_at}
use Rattle.pool_tables.specs.PinLists.{flagged, settled_pins}
use Rattle.pool_tables.specs.PinMoves.{MovesPins}
use Rattle.pool_tables.specs.PoolPages.{ArePagesOf}
use Rattle.pool_tables.specs.WantMeaning.{AreWants, IsWaited}
use Rattle.pool_tables.specs.WantQueue.{WantQueue, closed_up, counts_in, of_page}
use Rattle.pool_tables.specs.declared.frame_item.FrameItem.{FrameItem}
use Rattle.pool_tables.specs.declared.page_record.MakerId.{MakerId}
use Rattle.pool_tables.specs.declared.page_record.PageRecord.{PageRecord}
use Rattle.pool_tables.specs.declared.queued_want.QueuedWant.{QueuedWant}
use Rattle.pool_tables.proofs.BegunFrames.{AreBegun-put}
use Rattle.pool_tables.proofs.EntryPages.{ArePagesOf-narrow, ArePagesOf-settle}
use Rattle.pool_tables.proofs.EventPremises.{IsTimelyItem-narrowed, IsTimelyItem-settled, KnowsLive-tables}
use Rattle.pool_tables.proofs.FlaggedPages.{times-append}
use Rattle.pool_tables.proofs.FrameMeanings.{AreFrames-narrow, AreFrames-settle, flagged-unset}
use Rattle.pool_tables.proofs.MakerMeanings.{AreMakers-other}
use Rattle.pool_tables.proofs.PageTimes.{used-field}
use Rattle.pool_tables.proofs.PinCounts.{pin_count-most}
use Rattle.pool_tables.proofs.TableCounts.{AreTimelyCounts-tables, Asks-from_puts, IsTimelyTable-put}
use Rattle.pool_tables.proofs.TableCounts.{KeepsCounts-from_puts}
use Rattle.pool_tables.proofs.WaitedWants.{IsWaited-narrowed, IsWaited-new, IsWaited-settled, all-of_pages}
use Rattle.pool_tables.proofs.WantLists.{all-weaker}
use Rattle.pool_tables.proofs.WantMeanings.{AreWants-asked, AreWants-kept}
use Rattle.residency.specs.Internal.Tables.{installed_at}
use Rattle.residency.specs.declared.tables.Tables.{Tables}
use Rattle.residency.proofs.AskTables.{all-appended, all-earlier, timely-item}
use Rattle.residency.proofs.FrameRecords.{AreFrames-recounted}
use Rattle.residency.proofs.TablesAt.{AreTablesAt, owned-item}
use Rattle.residency.proofs.UnpinTables.{ArePagesOf-moved, moved-field}

-- the records before, without the frame's pins, with its new ones, and after the uses
pub record AreRepinned (count : ℕ) (pages : List ℕ) (went : ℕ → ℕ) (old bare pinned new : PageRecords) : Type 0 where
  pub gone : MovesPins went (λ p. 0) old bare
  pub came : MovesPins (λ p. 0) (times pages) bare pinned
  pub used : AreUsed count pages pinned new

repinned-field : {X : Type 0} (f : PageRecord → X) (count : ℕ) (pages : List ℕ) (went : ℕ → ℕ)
    (old bare pinned new : PageRecords) → ((k : ℕ) (r : PageRecord) → f (record r { pins = k }) ≡ f r) →
    ((r : PageRecord) → f (record r { last_used = count }) ≡ f r) →
    AreRepinned count pages went old bare pinned new → (p : ℕ) →
    f (record_at new.records p) ≡ f (record_at old.records p)
repinned-field f count pages went old bare pinned new keeps_pins keeps_used re p =
    used-field f count pages pinned new keeps_used re.used p
    ∙ (moved-field f (λ p. 0) (times pages) bare pinned keeps_pins re.came p
    ∙ moved-field f went (λ p. 0) old bare keeps_pins re.gone p)

repinned-pins : (count : ℕ) (pages : List ℕ) (went : ℕ → ℕ) (old bare pinned new : PageRecords) →
    AreRepinned count pages went old bare pinned new → (p : ℕ) →
    (record_at new.records p).pins + went p ≡ (record_at old.records p).pins + times pages p
repinned-pins count pages went old bare pinned new re p =
    let kept = used-field (λ (r : PageRecord). r.pins) count pages pinned new (λ r. refl) re.used p in
    omega (arith, kept, re.came.pins p, re.gone.pins p)

ArePagesOf-repinned : (layout : Layout) (s : State) (count : ℕ) (pages : List ℕ) (went : ℕ → ℕ)
    (old bare pinned new : PageRecords) → AreRepinned count pages went old bare pinned new →
    ArePagesOf layout s old → ArePagesOf layout s pinned
ArePagesOf-repinned layout s count pages went old bare pinned new re are =
    ArePagesOf-moved layout s (λ p. 0) (times pages) bare pinned
    (ArePagesOf-moved layout s went (λ p. 0) old bare are re.gone)
    re.came

-- pages without flags are each pinned as often as they are named
pub times-unflagged : (pages missing : List ℕ) (n p : ℕ) →
    times (pages ++ flagged missing (replicate n false)) p ≡ times pages p
times-unflagged pages missing n p =
    let none : times (flagged missing (replicate n false)) p ≡ 0 = ap (λ ps. times ps p) (flagged-unset missing n) in
    omega (arith, times-append pages (flagged missing (replicate n false)) p, none)

-- a live frame that has an item is one of the state's
pub owned-frame : (layout : Layout) (s : State) (journal : List Entry) (tables : Tables) (frame : ℕ)
    (item : FrameItem) →
    AreTablesAt layout s journal tables → item_in tables.frames.items frame ≡ Some item → item.ended_at ≡ None →
    (f : Frame) × (frame_at frame s.frames ≡ Some f)
owned-frame layout s journal tables frame item are at live =
    pick (frame_at frame s.frames) refl
    (subst (λ (o : Option FrameItem). IsItemOf s.resident (installed_at tables.pages.records)
    (frame_at frame s.frames) o)
    at (are.frames.items frame))
  where
    pick : (o : Option Frame) → frame_at frame s.frames ≡ o →
        IsItemOf s.resident (installed_at tables.pages.records) o (Some item) →
        (f : Frame) × (frame_at frame s.frames ≡ Some f)
    pick None is h = let no : is_some item.ended_at ≡ false = ap is_some live in let yes = h.ended in cc
    pick (Some f) is h = (f, is)

pub resident-below : (s : State) (pages : List ℕ) → all_resident s pages ≡ true →
    all_below (length s.resident) pages ≡ true
resident-below s [] h = refl
resident-below s (p ∷ pages) h =
    let parts = and-both (is_resident s p) (all_resident s pages) h in
    let within : p < length s.resident = place-within (λ (b : Bool). b) s.resident p false refl parts.0 in
    let here : nat_lt p (length s.resident) ≡ true = grind (arith, nat_tests) in
    both (nat_lt p (length s.resident)) (all_below (length s.resident) pages) here (resident-below s pages parts.1)

pub pins-room : (layout : Layout) (s : State) (journal : List Entry) (tables : Tables) (went : ℕ → ℕ)
    (bare : PageRecords) → AreTablesAt layout s journal tables → MovesPins went (λ p. 0) tables.pages bare → (p : ℕ) →
    (record_at bare.records p).pins ≤ 2 * length tables.frames.items
pins-room layout s journal tables went bare are gone p =
    omega (
      arith,
      gone.pins p,
      are.pins p,
      pin_count-most s.resident (installed_at tables.pages.records) s.frames
          tables.frames.items p are.frames,
    )

pub AreTablesAt-narrow : (layout : Layout) (s : State) (journal : List Entry) (tables : Tables) (by : MakerId)
    (frame : ℕ)
    (pages : List ℕ) (bare pinned new : PageRecords) (frames : FrameItems) →
    AreTablesAt layout s journal tables → owns s by.0 frame ≡ true → ascends pages ≡ true →
    all_below (length s.resident) pages ≡ true →
    AreRepinned (s.entries + 1) pages (pins_in (item_of tables.frames frame)) tables.pages bare pinned new →
    PutsItem frame (option_map (narrowed_item by pages) (item_of tables.frames frame)) tables.frames.items
    frames.items →
    frames.last_asked ≡ tables.frames.last_asked →
    AreTablesAt layout (state_after s (record { by = by.0; what = Narrow frame pages }))
    (journal ++ record { by = by.0; what = Narrow frame pages } ∷ []) (record tables { pages = new; frames = frames })
AreTablesAt-narrow layout s journal tables by frame pages bare pinned new frames are owned ascending below re puts
    last =
    let e : Entry = record { by = by.0; what = Narrow frame pages } in
    let count = s.entries + 1 in
    let old = tables.pages in
    let was = item_of tables.frames frame in
    let went = pins_in was in
    let now = option_map (narrowed_item by pages) was in
    let item = owned-item layout s journal tables by.0 frame are owned in
    let found = owned-frame layout s journal tables frame item.0 are item.1 item.2 in
    let now_is : now ≡ Some (narrowed_item by pages item.0) = ap (option_map (narrowed_item by pages)) item.1 in
    let installs = repinned-field (λ (r : PageRecord). r.installed_at) count pages went old bare pinned new
    (λ k r. refl)
    (λ r. refl) re in
    let loads = repinned-field (λ (r : PageRecord). r.load_ended_at) count pages went old bare pinned new (λ k r. refl)
    (λ r. refl) re in
    let asked : asked_in now ≡ asked_in was = ap asked_in now_is ∙ sym (ap asked_in item.1) in
    let ended : ended_in now ≡ ended_in was = ap ended_in now_is ∙ sym (ap ended_in item.1) in
    let keeps = KeepsCounts-from_puts old.records tables.frames frames frame now puts asked ended last in
    let pinned_now : (p : ℕ) → pins_in now p ≡ times pages p = λ p. ap (λ o. pins_in o p) now_is
    ∙ times-unflagged pages item.0.pins.missing (length item.0.pins.flags) p in
    record {
      pages = ArePagesOf-narrow layout s by.0 frame pages pinned new
          (ArePagesOf-repinned layout s count pages went old bare pinned new re are.pages) re.used;
      pins = λ p. omega (
        arith,
        repinned-pins count pages went old bare pinned new re p,
        puts.pins p,
        are.pins p,
        pinned_now p,
      );
      installs = λ p. omega (arith, installs p, are.installs p);
      loads = λ p. omega (arith, loads p, are.loads p);
      frames = AreFrames-recounted s.resident (installed_at old.records) (installed_at new.records)
          (state_after s e).frames frames.items installs
          (AreFrames-narrow s.resident (installed_at old.records) s.frames tables.frames.items frames.items frame by
          pages found.0 are.frames found.1 below ascending puts);
      timely = IsTimelyTable-put s.entries tables.frames frames frame now are.timely puts
          (timely-item count now (narrowed_item by pages item.0) now_is
          (IsTimelyItem-narrowed s.entries by pages item.0 (are.timely.items frame item.0 item.1)))
          (omega (arith, last, are.timely.last_asked));
      begun = AreBegun-put journal e frame now tables.frames.items frames.items are.begun refl (ap is_some now_is) puts;
      wants = AreWants-kept s.entries _ _ tables.wants.wants s.wants are.wants
          (record { loads = loads; asked = keeps.asked; ends = keeps.ends; last_asked = keeps.last_asked });
      waited = all-weaker (IsWaited tables.frames) (IsWaited frames)
          (λ w waited. IsWaited-narrowed frame by pages tables.frames frames w puts waited) tables.wants.wants
          are.waited;
      makers = AreMakers-other journal s.loading s.loading tables.makers e are.makers refl (λ p m at. at);
      stopped = are.stopped;
    }

pub AreTablesAt-settle : (layout : Layout) (s : State) (journal : List Entry) (tables : Tables) (by : MakerId)
    (frame : ℕ)
    (pages missing : List ℕ) (bare pinned new : PageRecords) (frames : FrameItems) (wants : WantQueue)
    (like : QueuedWant) →
    AreTablesAt layout s journal tables → owns s by.0 frame ≡ true → ascends pages ≡ true → ascends missing ≡ true →
    all_below (length s.resident) pages ≡ true →
    AreRepinned (s.entries + 1) pages (pins_in (item_of tables.frames frame)) tables.pages bare pinned new →
    PutsItem frame
    (option_map (settled_item by (s.entries + 1) (settled_pins pages missing)) (item_of tables.frames frame))
    tables.frames.items frames.items →
    frames.last_asked ≡ s.entries + 1 → like.frame.0 ≡ frame → like.settled ≡ true → like.made_at ≡ s.entries + 1 →
    wants.wants ≡ closed_up (counts_in new.records frames) tables.wants.wants ++ map (of_page like) missing →
    AreTablesAt layout (state_after s (record { by = by.0; what = Settle frame pages missing }))
    (journal ++ record { by = by.0; what = Settle frame pages missing } ∷ [])
    (record tables { pages = new; frames = frames; wants = wants })
AreTablesAt-settle layout s journal tables by frame pages missing bare pinned new frames wants like are owned
    ascending missing_ascend below re puts last of_frame is_settle made list =
    let e : Entry = record { by = by.0; what = Settle frame pages missing } in
    let count = s.entries + 1 in
    let old = tables.pages in
    let was = item_of tables.frames frame in
    let went = pins_in was in
    let change = settled_item by count (settled_pins pages missing) in
    let now = option_map change was in
    let item = owned-item layout s journal tables by.0 frame are owned in
    let found = owned-frame layout s journal tables frame item.0 are item.1 item.2 in
    let now_is : now ≡ Some (change item.0) = ap (option_map change) item.1 in
    let installs = repinned-field (λ (r : PageRecord). r.installed_at) count pages went old bare pinned new
    (λ k r. refl)
    (λ r. refl) re in
    let loads = repinned-field (λ (r : PageRecord). r.load_ended_at) count pages went old bare pinned new (λ k r. refl)
    (λ r. refl) re in
    let asked : asked_in now ≡ count = ap asked_in now_is in
    let ended : ended_in now ≡ ended_in was = ap ended_in now_is ∙ sym (ap ended_in item.1) in
    let live : ended_in was ≡ None = ap ended_in item.1 ∙ item.2 in
    let asks = Asks-from_puts old.records tables.frames frames frame count now puts asked ended last in
    let counts = counts_in new.records frames in
    let all = closed_up counts tables.wants.wants ++ map (of_page like) missing in
    let pinned_now : (p : ℕ) → pins_in now p ≡ times pages p = λ p. ap (λ o. pins_in o p) now_is
    ∙ times-unflagged pages missing (length missing) p in
    let wants_now : AreWants count counts all (wants_of_others s frame ++ wants_of frame like.settled missing) =
    AreWants-asked s.entries frame _ counts tables.wants.wants s like missing are.wants
    (record { loads = loads; own = asks.own; others = asks.others; ends = asks.ends; last_asked = asks.last_asked })
    (AreTimelyCounts-tables s.entries old.records tables.frames are.timely are.loads)
    (KnowsLive-tables s.entries s (installed_at old.records) old.records tables.frames tables.wants.wants are.frames
    are.wants.timely)
    live of_frame made in
    record {
      pages = ArePagesOf-settle layout s by.0 frame pages missing pinned new
          (ArePagesOf-repinned layout s count pages went old bare pinned new re are.pages) re.used;
      pins = λ p. omega (
        arith,
        repinned-pins count pages went old bare pinned new re p,
        puts.pins p,
        are.pins p,
        pinned_now p,
      );
      installs = λ p. omega (arith, installs p, are.installs p);
      loads = λ p. omega (arith, loads p, are.loads p);
      frames = AreFrames-recounted s.resident (installed_at old.records) (installed_at new.records)
          (state_after s e).frames frames.items installs
          (AreFrames-settle s.resident (installed_at old.records) s.frames tables.frames.items frames.items frame by
          count pages missing found.0 are.frames found.1 below ascending missing_ascend puts);
      timely = IsTimelyTable-put s.entries tables.frames frames frame now are.timely puts
          (timely-item count now (change item.0) now_is
          (IsTimelyItem-settled s.entries by (settled_pins pages missing) item.0
          (are.timely.items frame item.0 item.1)))
          (omega (arith, last));
      begun = AreBegun-put journal e frame now tables.frames.items frames.items are.begun refl (ap is_some now_is) puts;
      wants = subst (λ (ws : List QueuedWant). AreWants count counts ws
          (wants_of_others s frame ++ wants_of frame true missing))
          (sym list)
          (subst (λ (b : Bool). AreWants count counts all (wants_of_others s frame ++ wants_of frame b missing))
          is_settle
          wants_now);
      waited = subst (AllByRecursion (IsWaited frames)) (sym list)
          (all-appended (IsWaited frames) counts tables.wants.wants like missing
          (all-earlier layout s journal tables (IsWaited frames) are
          (λ w some early waited. IsWaited-settled frame by count (settled_pins pages missing) tables.frames frames w
          early puts waited))
          (all-of_pages (IsWaited frames) like missing
          (λ page among. IsWaited-new frame by count pages missing tables.frames frames like of_frame puts page
          among)));
      makers = AreMakers-other journal s.loading s.loading tables.makers e are.makers refl (λ p m at. at);
      stopped = are.stopped;
    }
