-- The tables after an Unpin, and what moves of explicit pins leave.
use Rattle.std.proofs.Common.{◌≡◌, ℕ, ◌+◌, ◌≤◌, List, [], ◌∷◌, ◌++◌, true, Option, Some, None, is_some, refl, sym, ap}
use Rattle.std.proofs.Common.{◌∙◌, subst, arith}
use Rattle.std.specs.Option.{option_map}
use Rattle.journal.specs.declared.entries.Entry.{Entry}
use Rattle.journal.specs.declared.entries.What.TheVariants.{Unpin}
use Rattle.journal.specs.declared.layouts.Layout.{Layout}
use Rattle.pool_rules.specs.Rules.{owns}
use Rattle.pool_rules.specs.State.{State, state_after}
use Rattle.pool_tables.specs.FrameItems.{FrameItems, PutsItem, asked_in, ended_in, ended_item, item_in, item_of}
use Rattle.pool_tables.specs.FrameItems.{pins_in}
use Rattle.pool_tables.specs.FrameMeaning.{IsTimelyItem}
use Rattle.pool_tables.specs.PageRecords.{PageRecords, record_at}
use Rattle.pool_tables.specs.PinMoves.{MovesPins}
use Rattle.pool_tables.specs.PoolPages.{ArePagesOf, loader_number}
use Rattle.pool_tables.specs.WantMeaning.{IsWaited}
use Rattle.pool_tables.specs.declared.frame_item.FrameItem.{FrameItem}
use Rattle.pool_tables.specs.declared.page_record.PageRecord.{PageRecord}
use Rattle.pool_tables.proofs.BegunFrames.{AreBegun-put}
use Rattle.pool_tables.proofs.EntryPages.{ArePagesOf-again}
use Rattle.pool_tables.proofs.EventPremises.{IsTimelyItem-ended}
use Rattle.pool_tables.proofs.FrameMeanings.{AreFrames-unpin}
use Rattle.pool_tables.proofs.MakerMeanings.{AreMakers-other}
use Rattle.pool_tables.proofs.PinCounts.{pin_count-least}
use Rattle.pool_tables.proofs.PoolPages.{maps-kept, resident_of, used_of}
use Rattle.pool_tables.proofs.TableCounts.{AreTimelyCounts-tables, EndsFrame-from_puts, IsTimelyTable-put}
use Rattle.pool_tables.proofs.WaitedWants.{IsWaited-ended}
use Rattle.pool_tables.proofs.WantLists.{all-weaker}
use Rattle.pool_tables.proofs.WantMeanings.{AreWants-ended}
use Rattle.residency.specs.Internal.Tables.{installed_at}
use Rattle.residency.specs.declared.tables.Tables.{Tables}
use Rattle.residency.proofs.FrameRecords.{AreFrames-recounted}
use Rattle.residency.proofs.TablesAt.{AreTablesAt, owned-item}

-- what moves of pins leave of another field of the records
pub moved-field : {X : Type 0} (f : PageRecord → X) (went came : ℕ → ℕ) (old new : PageRecords) →
    ((k : ℕ) (r : PageRecord) → f (record r { pins = k }) ≡ f r) → MovesPins went came old new →
    (p : ℕ) → f (record_at new.records p) ≡ f (record_at old.records p)
moved-field f went came old new keeps moves p =
    ap f (moves.others p) ∙ keeps (record_at new.records p).pins (record_at old.records p)

pub ArePagesOf-moved : (layout : Layout) (s : State) (went came : ℕ → ℕ) (old new : PageRecords) →
    ArePagesOf layout s old → MovesPins went came old new → ArePagesOf layout s new
ArePagesOf-moved layout s went came old new are moves = record {
  roots = moves.roots ∙ are.roots;
  resident = maps-kept resident_of old.records new.records moves.len
      (moved-field resident_of went came old new (λ k r. refl) moves) ∙ are.resident;
  loading = maps-kept loader_number old.records new.records moves.len
      (moved-field loader_number went came old new (λ k r. refl) moves) ∙ are.loading;
  last_used = maps-kept used_of old.records new.records moves.len
      (moved-field used_of went came old new (λ k r. refl) moves) ∙ are.last_used;
  dependents = λ p. moved-field (λ (r : PageRecord). r.dependents) went came old new (λ k r. refl) moves p
      ∙ are.dependents p;
}

-- the explicit pins of a frame are among those that the records count
pub pins-counted : (layout : Layout) (s : State) (journal : List Entry) (tables : Tables) (frame : ℕ) →
    AreTablesAt layout s journal tables → (p : ℕ) →
    pins_in (item_of tables.frames frame) p ≤ (record_at tables.pages.records p).pins
pins-counted layout s journal tables frame are p = pick (item_in tables.frames.items frame) refl
  where
    pick : (o : Option FrameItem) → item_in tables.frames.items frame ≡ o →
        pins_in o p ≤ (record_at tables.pages.records p).pins
    pick None at = omega arith
    pick (Some item) at = omega (arith, pin_count-least tables.frames.items frame item p at, are.pins p)

pub AreTablesAt-unpin : (layout : Layout) (s : State) (journal : List Entry) (tables : Tables) (by frame : ℕ)
    (new : PageRecords) (frames : FrameItems) →
    AreTablesAt layout s journal tables → owns s by frame ≡ true →
    MovesPins (pins_in (item_of tables.frames frame)) (λ p. 0) tables.pages new →
    PutsItem frame (option_map (ended_item (s.entries + 1)) (item_of tables.frames frame)) tables.frames.items
    frames.items →
    frames.last_asked ≡ tables.frames.last_asked →
    AreTablesAt layout (state_after s (record { by = by; what = Unpin frame }))
    (journal ++ record { by = by; what = Unpin frame } ∷ []) (record tables { pages = new; frames = frames })
AreTablesAt-unpin layout s journal tables by frame new frames are owned moves puts last =
    let e : Entry = record { by = by; what = Unpin frame } in
    let old = tables.pages in
    let was = item_of tables.frames frame in
    let went = pins_in was in
    let now = option_map (ended_item (s.entries + 1)) was in
    let item = owned-item layout s journal tables by frame are owned in
    let now_is : now ≡ Some (ended_item (s.entries + 1) item.0) = ap (option_map (ended_item (s.entries + 1))) item.1 in
    let installs = moved-field (λ (r : PageRecord). r.installed_at) went (λ p. 0) old new (λ k r. refl) moves in
    let loads = moved-field (λ (r : PageRecord). r.load_ended_at) went (λ p. 0) old new (λ k r. refl) moves in
    let live : ended_in was ≡ None = ap ended_in item.1 ∙ item.2 in
    let asked : asked_in now ≡ asked_in was = ap asked_in now_is ∙ sym (ap asked_in item.1) in
    let ended : ended_in now ≡ Some (s.entries + 1) = ap ended_in now_is in
    let ends = EndsFrame-from_puts old.records tables.frames frames frame (s.entries + 1) now puts asked live ended
    last in
    record {
      pages = ArePagesOf-again layout s (state_after s e) new refl refl refl
          (ArePagesOf-moved layout s went (λ p. 0) old new are.pages moves);
      pins = λ p.
          let none : pins_in now p ≡ 0 = ap (λ o. pins_in o p) now_is in
          omega (arith, none, moves.pins p, puts.pins p, are.pins p);
      installs = λ p. omega (arith, installs p, are.installs p);
      loads = λ p. omega (arith, loads p, are.loads p);
      frames = AreFrames-recounted s.resident (installed_at old.records) (installed_at new.records)
          (state_after s e).frames frames.items installs
          (AreFrames-unpin s.resident (installed_at old.records) s.frames tables.frames.items frames.items frame
          (s.entries + 1) are.frames puts);
      timely = IsTimelyTable-put s.entries tables.frames frames frame now are.timely puts
          (λ i at. let is : ended_item (s.entries + 1) item.0 ≡ i = some-same (sym now_is ∙ at) in
          subst (IsTimelyItem (s.entries + 1)) is
          (IsTimelyItem-ended s.entries item.0 (are.timely.items frame item.0 item.1)))
          (omega (arith, last, are.timely.last_asked));
      begun = AreBegun-put journal e frame now tables.frames.items frames.items are.begun refl (ap is_some now_is) puts;
      wants = AreWants-ended s.entries frame _ _ tables.wants.wants s.wants are.wants
          (record {
            loads = loads;
            asked = ends.asked;
            live = ends.live;
            own = ends.own;
            others = ends.others;
            last_asked = ends.last_asked;
          })
          (AreTimelyCounts-tables s.entries old.records tables.frames are.timely are.loads);
      waited = all-weaker (IsWaited tables.frames) (IsWaited frames)
          (λ w was_waited. IsWaited-ended frame (s.entries + 1) tables.frames frames w puts was_waited)
          tables.wants.wants are.waited;
      makers = AreMakers-other journal s.loading s.loading tables.makers e are.makers refl (λ p m at. at);
      stopped = are.stopped;
    }
  where
    some-same : {a b : FrameItem} → Some a ≡ Some b → a ≡ b
    some-same h = cc
