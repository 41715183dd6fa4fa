-- The tables after an Ask, and what a new request of a frame leaves of its wants.
use Rattle.std.proofs.Common.{◌≡◌, ℕ, ◌+◌, ◌<◌, List, [], ◌∷◌, ◌++◌, Bool, true, false, Option, Some, None, is_some}
use Rattle.std.proofs.Common.{map, refl, sym, ap, ◌∙◌, subst, arith}
use Rattle.std.specs.List.{AllByRecursion}
use Rattle.std.specs.Option.{option_map}
use Rattle.journal.specs.declared.entries.Entry.{Entry}
use Rattle.journal.specs.declared.entries.What.TheVariants.{Ask}
use Rattle.journal.specs.declared.layouts.Layout.{Layout}
use Rattle.pool_rules.specs.Rules.{owns}
use Rattle.pool_rules.specs.State.{State, state_after, wants_of, wants_of_others}
use Rattle.pool_tables.specs.FrameItems.{FrameItems, PutsItem, asked_in, asked_item, ended_in, item_of, pins_in}
use Rattle.pool_tables.specs.FrameMeaning.{IsTimelyItem}
use Rattle.pool_tables.specs.WantMeaning.{AreWants, IsTimelyWant, IsWaited}
use Rattle.pool_tables.specs.WantQueue.{WantCounts, WantQueue, closed_up, counts_in, of_page}
use Rattle.pool_tables.specs.declared.frame_item.FrameItem.{FrameItem}
use Rattle.pool_tables.specs.declared.queued_want.QueuedWant.{QueuedWant}
use Rattle.pool_tables.proofs.BegunFrames.{AreBegun-put}
use Rattle.pool_tables.proofs.EntryPages.{ArePagesOf-again}
use Rattle.pool_tables.proofs.EventPremises.{IsTimelyItem-asked, KnowsLive-tables}
use Rattle.pool_tables.proofs.FrameMeanings.{AreFrames-ask}
use Rattle.pool_tables.proofs.MakerMeanings.{AreMakers-other}
use Rattle.pool_tables.proofs.TableCounts.{AreTimelyCounts-tables, Asks-from_puts, IsTimelyTable-put}
use Rattle.pool_tables.proofs.WaitedWants.{IsWaited-asked, IsWaited-new_ask, all-of_pages}
use Rattle.pool_tables.proofs.WantLists.{all-append, all-closed_up, all-weaker}
use Rattle.pool_tables.proofs.WantMeanings.{AreWants-asked}
use Rattle.residency.specs.Internal.Tables.{installed_at}
use Rattle.residency.specs.declared.tables.Tables.{Tables}
use Rattle.residency.proofs.TablesAt.{AreTablesAt, owned-item}

pub all-both : (P Q : QueuedWant → Type 0) (ws : List QueuedWant) → AllByRecursion P ws → AllByRecursion Q ws →
    AllByRecursion (λ w. P w × Q w) ws
all-both P Q [] ps qs = tt
all-both P Q (w ∷ ws) ps qs = ((ps.0, qs.0), all-both P Q ws ps.1 qs.1)

-- the wants of the list, closed up, and the new ones keep what each of them keeps
pub all-appended : (P : QueuedWant → Type 0) (counts : WantCounts) (list : List QueuedWant) (like : QueuedWant)
    (pages : List ℕ) → AllByRecursion P list → AllByRecursion P (map (of_page like) pages) →
    AllByRecursion P (closed_up counts list ++ map (of_page like) pages)
all-appended P counts list like pages olds news =
    all-append P (closed_up counts list) (map (of_page like) pages) (all-closed_up P counts list olds) news

-- each want of the list was made by an entry before the next
pub all-earlier : (layout : Layout) (s : State) (journal : List Entry) (tables : Tables) (P : QueuedWant → Type 0) →
    AreTablesAt layout s journal tables →
    ((w : QueuedWant) → 0 < w.made_at → w.made_at < s.entries + 1 → IsWaited tables.frames w → P w) →
    AllByRecursion P tables.wants.wants
all-earlier layout s journal tables P are each =
    let counts = counts_in tables.pages.records tables.frames in
    all-weaker (λ w. IsTimelyWant s.entries counts w × IsWaited tables.frames w) P
    (λ w h. let made = h.0.made in each w h.0.some (omega (arith, made)) h.1) tables.wants.wants
    (all-both (IsTimelyWant s.entries counts) (IsWaited tables.frames) tables.wants.wants are.wants.timely are.waited)

some-same : {a b : FrameItem} → Some a ≡ Some b → a ≡ b
some-same h = cc

-- what becomes of one item is timely
pub timely-item : (entries : ℕ) (now : Option FrameItem) (item : FrameItem) → now ≡ Some item →
    IsTimelyItem entries item → (i : FrameItem) → now ≡ Some i → IsTimelyItem entries i
timely-item entries now item is timely i at = subst (IsTimelyItem entries) (some-same (sym is ∙ at)) timely

pub AreTablesAt-ask : (layout : Layout) (s : State) (journal : List Entry) (tables : Tables) (by frame : ℕ)
    (pages : List ℕ) (frames : FrameItems) (wants : WantQueue) (like : QueuedWant) →
    AreTablesAt layout s journal tables → owns s by frame ≡ true →
    PutsItem frame (option_map (asked_item (s.entries + 1)) (item_of tables.frames frame)) tables.frames.items
    frames.items →
    frames.last_asked ≡ s.entries + 1 → like.frame.0 ≡ frame → like.settled ≡ false → like.made_at ≡ s.entries + 1 →
    wants.wants ≡ closed_up (counts_in tables.pages.records frames) tables.wants.wants ++ map (of_page like) pages →
    AreTablesAt layout (state_after s (record { by = by; what = Ask frame pages }))
    (journal ++ record { by = by; what = Ask frame pages } ∷ []) (record tables { frames = frames; wants = wants })
AreTablesAt-ask layout s journal tables by frame pages frames wants like are owned puts last of_frame no_settle made
    list =
    let e : Entry = record { by = by; what = Ask frame pages } in
    let count = s.entries + 1 in
    let records = tables.pages.records in
    let was = item_of tables.frames frame in
    let now = option_map (asked_item count) was in
    let item = owned-item layout s journal tables by frame are owned in
    let now_is : now ≡ Some (asked_item count item.0) = ap (option_map (asked_item count)) item.1 in
    let asked : asked_in now ≡ count = ap asked_in now_is in
    let ended : ended_in now ≡ ended_in was = ap ended_in now_is ∙ sym (ap ended_in item.1) in
    let live : ended_in was ≡ None = ap ended_in item.1 ∙ item.2 in
    let counts = counts_in records frames in
    let all = closed_up counts tables.wants.wants ++ map (of_page like) pages in
    let keeps_pins : (p : ℕ) → pins_in now p ≡ pins_in was p = λ p. ap (λ o. pins_in o p) now_is
    ∙ sym (ap (λ o. pins_in o p) item.1) in
    let wants_now : AreWants count counts all (wants_of_others s frame ++ wants_of frame like.settled pages) =
    AreWants-asked s.entries frame _ counts tables.wants.wants s like pages are.wants
    (Asks-from_puts records tables.frames frames frame count now puts asked ended last)
    (AreTimelyCounts-tables s.entries records tables.frames are.timely are.loads)
    (KnowsLive-tables s.entries s (installed_at records) records tables.frames tables.wants.wants are.frames
    are.wants.timely)
    live of_frame made in
    record {
      pages = ArePagesOf-again layout s (state_after s e) tables.pages refl refl refl are.pages;
      pins = λ p. omega (arith, are.pins p, puts.pins p, keeps_pins p);
      installs = λ p. omega (arith, are.installs p);
      loads = λ p. omega (arith, are.loads p);
      frames = AreFrames-ask s.resident (installed_at records) s.frames tables.frames.items frames.items frame count
          are.frames puts;
      timely = IsTimelyTable-put s.entries tables.frames frames frame now are.timely puts
          (timely-item count now (asked_item count item.0) now_is
          (IsTimelyItem-asked s.entries item.0 (are.timely.items frame item.0 item.1)))
          (omega (arith, last));
      begun = AreBegun-put journal e frame now tables.frames.items frames.items are.begun refl (ap is_some now_is) puts;
      wants = subst (λ (ws : List QueuedWant). AreWants count counts ws
          (wants_of_others s frame ++ wants_of frame false pages))
          (sym list)
          (subst (λ (b : Bool). AreWants count counts all (wants_of_others s frame ++ wants_of frame b pages)) no_settle
          wants_now);
      waited = subst (AllByRecursion (IsWaited frames)) (sym list)
          (all-appended (IsWaited frames) counts tables.wants.wants like pages
          (all-earlier layout s journal tables (IsWaited frames) are
          (λ w some early waited. IsWaited-asked frame count tables.frames frames w early puts waited))
          (all-of_pages (IsWaited frames) like pages (λ page among. IsWaited-new_ask frames like page no_settle)));
      makers = AreMakers-other journal s.loading s.loading tables.makers e are.makers refl (λ p m at. at);
      stopped = are.stopped;
    }
