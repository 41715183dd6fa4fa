-- The tables after a Pin: the frame's explicit pins go, and it has a snapshot.
use Rattle.std.proofs.Common.{◌≡◌, ℕ, ◌+◌, List, [], ◌∷◌, ◌++◌, true, not, ◌||◌, Option, Some, None, length, refl}
use Rattle.std.proofs.Common.{arith}
use Rattle.journal.specs.declared.entries.Entry.{Entry}
use Rattle.journal.specs.declared.entries.What.TheVariants.{Pin}
use Rattle.journal.specs.declared.layouts.Layout.{Layout}
use Rattle.pool_rules.specs.Rules.{has_entry, owns}
use Rattle.pool_rules.specs.State.{State, state_after}
use Rattle.pool_tables.specs.FrameItems.{FrameItems, PutsItem, asked_in, ended_in, item_of, pinned_item, pins_in}
use Rattle.pool_tables.specs.PageRecords.{PageRecords}
use Rattle.pool_tables.specs.PinMoves.{MovesPins}
use Rattle.pool_tables.specs.WantMeaning.{IsWaited}
use Rattle.pool_tables.specs.declared.frame_item.FrameItem.{FrameItem}
use Rattle.pool_tables.specs.declared.page_record.MakerId.{MakerId}
use Rattle.pool_tables.specs.declared.page_record.PageRecord.{PageRecord}
use Rattle.pool_tables.proofs.BegunFrames.{AreBegun-put, may_pin-live}
use Rattle.pool_tables.proofs.EntryPages.{ArePagesOf-again}
use Rattle.pool_tables.proofs.EventPremises.{IsTimelyItem-pinned}
use Rattle.pool_tables.proofs.FrameMeanings.{AreFrames-pin}
use Rattle.pool_tables.proofs.MakerMeanings.{AreMakers-other}
use Rattle.pool_tables.proofs.TableCounts.{IsTimelyTable-put, KeepsCounts-from_puts}
use Rattle.pool_tables.proofs.WaitedWants.{IsWaited-pinned}
use Rattle.pool_tables.proofs.WantMeanings.{AreWants-kept}
use Rattle.residency.specs.Internal.Tables.{installed_at}
use Rattle.residency.specs.declared.tables.Tables.{Tables}
use Rattle.residency.proofs.AskTables.{all-earlier, timely-item}
use Rattle.residency.proofs.FrameRecords.{AreFrames-recounted}
use Rattle.residency.proofs.RepinTables.{times-unflagged}
use Rattle.residency.proofs.TablesAt.{AreTablesAt}
use Rattle.residency.proofs.UnpinTables.{ArePagesOf-moved, moved-field}

asked-pinned : (by : MakerId) (count : ℕ) (o : Option FrameItem) → asked_in (Some (pinned_item by count o)) ≡ asked_in o
asked-pinned by count None = refl
asked-pinned by count (Some item) = refl

ended-pinned : (by : MakerId) (count : ℕ) (o : Option FrameItem) → ended_in (Some (pinned_item by count o)) ≡ ended_in o
ended-pinned by count None = refl
ended-pinned by count (Some item) = refl

-- a frame that was just pinned pins no page explicitly
no-pins : (by : MakerId) (count : ℕ) (o : Option FrameItem) (p : ℕ) → pins_in (Some (pinned_item by count o)) p ≡ 0
no-pins by count None p = refl
no-pins by count (Some item) p = times-unflagged [] item.pins.missing (length item.pins.flags) p

pub AreTablesAt-pin : (layout : Layout) (s : State) (journal : List Entry) (tables : Tables) (by : MakerId) (frame : ℕ)
    (new : PageRecords) (frames : FrameItems) → AreTablesAt layout s journal tables →
    (owns s by.0 frame || not (has_entry frame journal)) ≡ true →
    MovesPins (pins_in (item_of tables.frames frame)) (λ p. 0) tables.pages new →
    PutsItem frame (Some (pinned_item by (s.entries + 1) (item_of tables.frames frame))) tables.frames.items
    frames.items →
    frames.last_asked ≡ tables.frames.last_asked →
    AreTablesAt layout (state_after s (record { by = by.0; what = Pin frame }))
    (journal ++ record { by = by.0; what = Pin frame } ∷ []) (record tables { pages = new; frames = frames })
AreTablesAt-pin layout s journal tables by frame new frames are allowed moves puts last =
    let e : Entry = record { by = by.0; what = Pin frame } in
    let count = s.entries + 1 in
    let old = tables.pages in
    let was = item_of tables.frames frame in
    let went = pins_in was in
    let item = pinned_item by count was in
    let now : Option FrameItem = Some item in
    let installs = moved-field (λ (r : PageRecord). r.installed_at) went (λ p. 0) old new (λ k r. refl) moves in
    let loads = moved-field (λ (r : PageRecord). r.load_ended_at) went (λ p. 0) old new (λ k r. refl) moves in
    let keeps = KeepsCounts-from_puts old.records tables.frames frames frame now puts (asked-pinned by count was)
    (ended-pinned by count was) last in
    record {
      pages = ArePagesOf-again layout s (state_after s e) new refl refl refl
          (ArePagesOf-moved layout s went (λ p. 0) old new are.pages moves);
      pins = λ p. omega (arith, no-pins by count was p, moves.pins p, puts.pins p, are.pins p);
      installs = λ p. omega (arith, installs p, are.installs p);
      loads = λ p. omega (arith, loads p, are.loads p);
      frames = AreFrames-recounted s.resident (installed_at old.records) (installed_at new.records)
          (state_after s e).frames frames.items installs
          (AreFrames-pin s.resident (installed_at old.records) s.frames tables.frames.items frames.items frame by count
          are.frames (may_pin-live s (installed_at old.records) tables.frames.items journal by.0 frame are.frames
          are.begun
          allowed) (λ p. omega (arith, are.installs p)) puts);
      timely = IsTimelyTable-put s.entries tables.frames frames frame now are.timely puts
          (timely-item count now item refl (IsTimelyItem-pinned s.entries by was (are.timely.items frame)))
          (omega (arith, last, are.timely.last_asked));
      begun = AreBegun-put journal e frame now tables.frames.items frames.items are.begun refl refl puts;
      wants = AreWants-kept s.entries _ _ tables.wants.wants s.wants are.wants
          (record { loads = loads; asked = keeps.asked; ends = keeps.ends; last_asked = keeps.last_asked });
      waited = all-earlier layout s journal tables (IsWaited frames) are
          (λ w some early waited. IsWaited-pinned frame by count tables.frames frames w some puts waited);
      makers = AreMakers-other journal s.loading s.loading tables.makers e are.makers refl (λ p m at. at);
      stopped = are.stopped;
    }
