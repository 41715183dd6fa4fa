-- What the events' lemmas take, from what the tables keep: counts that are no later than the entries, and frames
-- that the state has.
use Rattle.std.proofs.Common.{◌≡◌, ◌≢◌, ℕ, ◌+◌, ◌<◌, ◌≤◌, List, [], ◌∷◌, Bool, true, false, not, cond, Option, Some}
use Rattle.std.proofs.Common.{None, is_some, get_or, refl, sym, ap, ◌∙◌, subst, arith}
use Rattle.std.proofs.lemmas.Bool.Decides.{nat_tests}
use Rattle.std.specs.List.{AllByRecursion}
use Rattle.std.specs.Option.{option_map}
use Rattle.pool_rules.specs.Frame.{Frame}
use Rattle.pool_rules.specs.State.{State, is_live}
use Rattle.pool_rules.specs.Victim.{is_pinned}
use Rattle.pool_tables.specs.Eviction.{is_in_snapshot}
use Rattle.pool_tables.specs.FrameItems.{FrameItems, asked_in, asked_item, ended_in, ended_item, installed_item}
use Rattle.pool_tables.specs.FrameItems.{item_of, narrowed_item, pinned_item, settled_item}
use Rattle.pool_tables.specs.FrameMeaning.{AreFrames, IsTimelyItem, IsTimelyTable, frame_at}
use Rattle.pool_tables.specs.FrameQueries.{is_live_in}
use Rattle.pool_tables.specs.PageRecords.{record_at}
use Rattle.pool_tables.specs.PinLists.{PinLists}
use Rattle.pool_tables.specs.WantMeaning.{EndsLoad, IsTimelyWant}
use Rattle.pool_tables.specs.WantQueue.{counts_in}
use Rattle.pool_tables.specs.declared.frame_item.FrameItem.{FrameItem}
use Rattle.pool_tables.specs.declared.page_record.MakerId.{MakerId}
use Rattle.pool_tables.specs.declared.page_record.PageRecord.{PageRecord}
use Rattle.pool_tables.specs.declared.queued_want.QueuedWant.{QueuedWant}
use Rattle.pool_tables.proofs.FrameNumbers.{any-found}
use Rattle.pool_tables.proofs.InstalledWants.{asked-grown, ended-grown}
use Rattle.pool_tables.proofs.PinCounts.{is_live-item}

-- ---- counts of entries

-- a page that is installed by an entry to come is in no snapshot
pub snapshots-uncovered : (entries : ℕ) (table : FrameItems) → IsTimelyTable entries table → (n : ℕ) (item : FrameItem)
    → item_of table n ≡ Some item → is_in_snapshot item.snapshot (entries + 1) ≡ false
snapshots-uncovered entries table timely n item at =
    pick item.snapshot (λ c has. (timely.items n item at).snapshot c has)
  where
    pick : (o : Option ℕ) → ((c : ℕ) → o ≡ Some c → c ≤ entries) → is_in_snapshot o (entries + 1) ≡ false
    pick None earlier = refl
    pick (Some c) earlier = let below = earlier c refl in grind (arith, nat_tests)

-- what an event makes of an item has no count above that of its entry
abbrev WasTimely : ℕ → Option FrameItem → Type 0
WasTimely entries o = (i : FrameItem) → o ≡ Some i → IsTimelyItem entries i

later-count : (entries : ℕ) (o : Option ℕ) → ((c : ℕ) → o ≡ Some c → c ≤ entries) → (c : ℕ) → o ≡ Some c →
    c ≤ entries + 1
later-count entries o earlier c at = omega (arith, earlier c at)

now-count : (entries c : ℕ) → Some (entries + 1) ≡ Some c → c ≤ entries + 1
now-count entries c at = let same : entries + 1 ≡ c = cc in omega (arith, same)

no-count : (entries c : ℕ) → ◌≡◌ {A = Option ℕ} None (Some c) → c ≤ entries + 1
no-count entries c at = cc

pub IsTimelyItem-pinned : (entries : ℕ) (by : MakerId) (o : Option FrameItem) → WasTimely entries o
    → IsTimelyItem (entries + 1) (pinned_item by (entries + 1) o)
IsTimelyItem-pinned entries by None was =
    record { asked = omega arith; ended = no-count entries; snapshot = now-count entries }
IsTimelyItem-pinned entries by (Some item) was =
    let t = was item refl in
    record {
      asked = omega (arith, t.asked);
      ended = later-count entries item.ended_at t.ended;
      snapshot = now-count entries;
    }

pub IsTimelyItem-settled : (entries : ℕ) (by : MakerId) (pins : PinLists) (item : FrameItem) → IsTimelyItem entries item
    → IsTimelyItem (entries + 1) (settled_item by (entries + 1) pins item)
IsTimelyItem-settled entries by pins item t =
    record { asked = omega arith; ended = later-count entries item.ended_at t.ended; snapshot = no-count entries }

pub IsTimelyItem-asked : (entries : ℕ) (item : FrameItem) → IsTimelyItem entries item
    → IsTimelyItem (entries + 1) (asked_item (entries + 1) item)
IsTimelyItem-asked entries item t =
    record {
      asked = omega arith;
      ended = later-count entries item.ended_at t.ended;
      snapshot = later-count entries item.snapshot t.snapshot;
    }

pub IsTimelyItem-narrowed : (entries : ℕ) (by : MakerId) (pages : List ℕ) (item : FrameItem) → IsTimelyItem entries item
    → IsTimelyItem (entries + 1) (narrowed_item by pages item)
IsTimelyItem-narrowed entries by pages item t =
    record {
      asked = omega (arith, t.asked);
      ended = later-count entries item.ended_at t.ended;
      snapshot = no-count entries;
    }

pub IsTimelyItem-ended : (entries : ℕ) (item : FrameItem) → IsTimelyItem entries item
    → IsTimelyItem (entries + 1) (ended_item (entries + 1) item)
IsTimelyItem-ended entries item t =
    record { asked = omega (arith, t.asked); ended = now-count entries; snapshot = no-count entries }

IsTimelyItem-installed : (entries page : ℕ) (item : FrameItem) → IsTimelyItem entries item
    → IsTimelyItem (entries + 1) (installed_item page item)
IsTimelyItem-installed entries page item t =
    record {
      asked = omega (arith, t.asked);
      ended = later-count entries item.ended_at t.ended;
      snapshot = later-count entries item.snapshot t.snapshot;
    }

IsTimelyItem-later : (entries : ℕ) (item : FrameItem) → IsTimelyItem entries item → IsTimelyItem (entries + 1) item
IsTimelyItem-later entries item t =
    record {
      asked = omega (arith, t.asked);
      ended = later-count entries item.ended_at t.ended;
      snapshot = later-count entries item.snapshot t.snapshot;
    }

-- an event that changes no item
pub IsTimelyTable-later : (entries : ℕ) (table : FrameItems) → IsTimelyTable entries table
    → IsTimelyTable (entries + 1) table
IsTimelyTable-later entries table timely = record {
  items = λ n item at. IsTimelyItem-later entries item (timely.items n item at);
  last_asked = omega (arith, timely.last_asked);
}

-- an Install
pub IsTimelyTable-installed : (entries page : ℕ) (waits : ℕ → Bool) (old new : FrameItems) → IsTimelyTable entries old
    → ((n : ℕ) → item_of new n ≡ cond (waits n) (option_map (installed_item page) (item_of old n)) (item_of old n))
    → new.last_asked ≡ old.last_asked → IsTimelyTable (entries + 1) new
IsTimelyTable-installed entries page waits old new timely items last = record {
  items = λ n item at. pick n (waits n) (item_of old n) refl item (sym (items n) ∙ at);
  last_asked = omega (arith, timely.last_asked, last);
}
  where
    pick : (n : ℕ) (b : Bool) (o : Option FrameItem) → item_of old n ≡ o → (item : FrameItem)
        → cond b (option_map (installed_item page) o) o ≡ Some item → IsTimelyItem (entries + 1) item
    pick n true None is item at = cc
    pick n true (Some old_item) is item at =
        let same : installed_item page old_item ≡ item = cc in
        subst (IsTimelyItem (entries + 1)) same (IsTimelyItem-installed entries page old_item
        (timely.items n old_item is))
    pick n false None is item at = cc
    pick n false (Some old_item) is item at =
        let same : old_item ≡ item = cc in
        subst (IsTimelyItem (entries + 1)) same (IsTimelyItem-later entries old_item (timely.items n old_item is))

-- the end of a load, after which the frames that waited for the page have it installed
pub EndsLoad-tables : (records now : List PageRecord) (page count : ℕ) (waits : ℕ → Bool) (old new : FrameItems)
    → (record_at now page).load_ended_at ≡ count
    → ((p : ℕ) → p ≢ page → (record_at now p).load_ended_at ≡ (record_at records p).load_ended_at)
    → ((n : ℕ) → item_of new n ≡ cond (waits n) (option_map (installed_item page) (item_of old n)) (item_of old n))
    → new.last_asked ≡ old.last_asked → EndsLoad page count (counts_in records old) (counts_in now new)
EndsLoad-tables records now page count waits old new own others items last = record {
  own = own;
  others = others;
  asked = λ n. ap asked_in (items n) ∙ asked-grown (waits n) page (item_of old n);
  ends = λ n. ap ended_in (items n) ∙ ended-grown (waits n) page (item_of old n);
  last_asked = last;
}

-- ---- frames

-- a page that no live frame pins, none pins
pub unpinned-frames : (s : State) (page : ℕ) → is_pinned s page ≡ false → (n : ℕ) (f : Frame)
    → frame_at n s.frames ≡ Some f → get_or f.pins page false ≡ false
unpinned-frames s page none n f at =
    elim (get_or f.pins page false) as (λ b. get_or f.pins page false ≡ b → b ≡ false) [
      | true ↦ λ pins. let some : is_pinned s page ≡ true =
          any-found (λ g. get_or g.pins page false) n s.frames f at pins in cc
      | false ↦ λ free. refl
    ] refl

-- whether the frames of the wants are live is what their ends say
pub KnowsLive-tables : (entries : ℕ) (s : State) (installed_at : ℕ → ℕ) (records : List PageRecord) (table : FrameItems)
    (list : List QueuedWant) → AreFrames s.resident installed_at s.frames table.items
    → AllByRecursion (IsTimelyWant entries (counts_in records table)) list
    → AllByRecursion (λ w. is_live s.frames w.frame.0 ≡ not (is_some (ended_in (item_of table w.frame.0)))) list
KnowsLive-tables entries s installed_at records table [] are timely = tt
KnowsLive-tables entries s installed_at records table (w ∷ list) are timely = (
  is_live-item s installed_at table.items w.frame.0 are ∙ known (item_of table w.frame.0) timely.0.some timely.0.asked,
  KnowsLive-tables entries s installed_at records table list are timely.1,
)
  where
    known : (o : Option FrameItem) → 0 < w.made_at → w.made_at ≤ asked_in o → is_live_in o ≡ not (is_some (ended_in o))
    known None some asked = absurd (omega (arith, some, asked))
    known (Some item) some asked = refl
