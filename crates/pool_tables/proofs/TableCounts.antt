-- What a change of one frame's item does to the counts that tell which wants are over, and to the wants that its
-- frame waits by.
use Rattle.std.proofs.Common.{◌≡◌, ◌≢◌, ℕ, ◌+◌, ◌≤◌, ◌==◌, nat_le, List, [], ◌∷◌, true, not, cond, ◌&&◌, ⊎_elim, Option}
use Rattle.std.proofs.Common.{Some, None, refl, sym, ap, ◌∙◌, subst, arith, eq-eqb}
use Rattle.std.proofs.lemmas.Bool.{cases_eq}
use Rattle.std.proofs.lemmas.Bool.Decides.{nat_tests}
use Rattle.std.specs.List.{AllByRecursion}
use Rattle.pool_rules.specs.Numbers.{is_among}
use Rattle.pool_rules.specs.State.{waits_for}
use Rattle.pool_rules.proofs.Tests.{and-both, or-cases, same-eqb}
use Rattle.pool_tables.specs.FrameItems.{FrameItems, PutsItem, asked_in, ended_in, item_in, item_of}
use Rattle.pool_tables.specs.FrameMeaning.{IsTimelyItem, IsTimelyTable}
use Rattle.pool_tables.specs.WantMeaning.{AreTimelyCounts, Asks, EndsFrame, IsTimelyWant, IsWaited, KeepsCounts}
use Rattle.pool_tables.specs.WantQueue.{counts_in, is_before, is_waiting, standing, stands}
use Rattle.pool_tables.specs.PageRecords.{record_at}
use Rattle.pool_tables.specs.declared.frame_item.FrameItem.{FrameItem}
use Rattle.pool_tables.specs.declared.page_record.PageRecord.{PageRecord}
use Rattle.pool_tables.specs.declared.queued_want.QueuedWant.{QueuedWant}
use Rattle.pool_tables.proofs.Apart.{ne-eqb}
use Rattle.pool_tables.proofs.WantLists.{waits-cons}

-- ---- the item of the frame, and those of the others

pub item-own : (frame : ℕ) (item : Option FrameItem) (old new : List (ℕ × FrameItem)) → PutsItem frame item old new
    → item_in new frame ≡ item
item-own frame item old new puts =
    puts.items frame ∙ ap (λ b. cond b item (item_in old frame)) (eq-eqb frame frame refl)

pub item-other : (frame : ℕ) (item : Option FrameItem) (old new : List (ℕ × FrameItem)) (n : ℕ) → n ≢ frame
    → PutsItem frame item old new → item_in new n ≡ item_in old n
item-other frame item old new n other puts =
    puts.items n ∙ ap (λ b. cond b item (item_in old n)) (ne-eqb frame n (λ e. other (sym e)))

-- what all frames keep, if the frame keeps it
item-kept : {X : Type 0} (part : Option FrameItem → X) (frame : ℕ) (item : Option FrameItem)
    (old new : List (ℕ × FrameItem))
    → PutsItem frame item old new → part item ≡ part (item_in old frame) → (n : ℕ)
    → part (item_in new n) ≡ part (item_in old n)
item-kept part frame item old new puts kept n = ⊎_elim
    (λ same. ap (λ m. part (item_in new m)) same ∙
    (ap part (item-own frame item old new puts) ∙ (kept ∙ ap (λ m. part (item_in old m)) (sym same))))
    (λ other. ap part (item-other frame item old new n other puts))
    (cases_eq n frame)

-- ---- the counts

-- a Settle or an Ask
pub Asks-from_puts : (records : List PageRecord) (old new : FrameItems) (frame count : ℕ) (item : Option FrameItem)
    → PutsItem frame item old.items new.items → asked_in item ≡ count → ended_in item ≡ ended_in (item_of old frame)
    → new.last_asked ≡ count → Asks frame count (counts_in records old) (counts_in records new)
Asks-from_puts records old new frame count item puts asked ended last = record {
  loads = λ p. refl;
  own = ap asked_in (item-own frame item old.items new.items puts) ∙ asked;
  others = λ n other. ap asked_in (item-other frame item old.items new.items n other puts);
  ends = item-kept ended_in frame item old.items new.items puts ended;
  last_asked = last;
}

-- an Unpin
pub EndsFrame-from_puts : (records : List PageRecord) (old new : FrameItems) (frame count : ℕ) (item : Option FrameItem)
    → PutsItem frame item old.items new.items → asked_in item ≡ asked_in (item_of old frame)
    → ended_in (item_of old frame) ≡ None → ended_in item ≡ Some count → new.last_asked ≡ old.last_asked
    → EndsFrame frame count (counts_in records old) (counts_in records new)
EndsFrame-from_puts records old new frame count item puts asked live ended last = record {
  loads = λ p. refl;
  asked = item-kept asked_in frame item old.items new.items puts asked;
  live = live;
  own = ap ended_in (item-own frame item old.items new.items puts) ∙ ended;
  others = λ n other. ap ended_in (item-other frame item old.items new.items n other puts);
  last_asked = last;
}

-- a Pin or a Narrow
pub KeepsCounts-from_puts : (records : List PageRecord) (old new : FrameItems) (frame : ℕ) (item : Option FrameItem)
    → PutsItem frame item old.items new.items → asked_in item ≡ asked_in (item_of old frame)
    → ended_in item ≡ ended_in (item_of old frame) → new.last_asked ≡ old.last_asked
    → KeepsCounts (counts_in records old) (counts_in records new)
KeepsCounts-from_puts records old new frame item puts asked ended last = record {
  loads = λ p. refl;
  asked = item-kept asked_in frame item old.items new.items puts asked;
  ends = item-kept ended_in frame item old.items new.items puts ended;
  last_asked = last;
}

-- no count in the tables is above the count of entries
pub AreTimelyCounts-tables : (entries : ℕ) (records : List PageRecord) (table : FrameItems)
    → IsTimelyTable entries table → ((page : ℕ) → (record_at records page).load_ended_at ≤ entries)
    → AreTimelyCounts entries (counts_in records table)
AreTimelyCounts-tables entries records table timely loads = record {
  loads = loads;
  ends = λ n count at. ends n count (item_of table n) refl at;
  last_asked = timely.last_asked;
}
  where
    ends : (n count : ℕ) (o : Option FrameItem) → item_of table n ≡ o → ended_in o ≡ Some count → count ≤ entries
    ends n count None is at = cc
    ends n count (Some item) is at = (timely.items n item is).ended count at

pub IsTimelyTable-put : (entries : ℕ) (old new : FrameItems) (frame : ℕ) (item : Option FrameItem)
    → IsTimelyTable entries old → PutsItem frame item old.items new.items
    → ((i : FrameItem) → item ≡ Some i → IsTimelyItem (entries + 1) i) → new.last_asked ≤ entries + 1
    → IsTimelyTable (entries + 1) new
IsTimelyTable-put entries old new frame item timely puts here last = record {
  items = λ n i at. ⊎_elim
      (λ same. here i (sym (ap (item_of new) same ∙ item-own frame item old.items new.items puts) ∙ at))
      (λ other. later i (timely.items n i (sym (item-other frame item old.items new.items n other puts) ∙ at)))
      (cases_eq n frame);
  last_asked = last;
}
  where
    later : (i : FrameItem) → IsTimelyItem entries i → IsTimelyItem (entries + 1) i
    later i t = record {
      asked = omega (arith, t.asked);
      ended = λ count at. omega (arith, t.ended count at);
      snapshot = λ count at. omega (arith, t.snapshot count at);
    }

-- ---- the pages that frames wait for

-- a change of one frame's item keeps what is said of all wants, if it keeps it for the frame's
pub IsWaited-put : (frame : ℕ) (item : Option FrameItem) (old new : FrameItems) (w : QueuedWant)
    → PutsItem frame item old.items new.items → IsWaited old w
    → (w.frame.0 ≡ frame → (i : FrameItem) → item ≡ Some i → i.ended_at ≡ None → w.settled ≡ true →
    w.made_at ≡ i.asked_at → is_among i.pins.missing w.page ≡ true)
    → IsWaited new w
IsWaited-put frame item old new w puts was own = λ i at live settled made. ⊎_elim
    (λ same. own same i (sym (ap (item_of new) same ∙ item-own frame item old.items new.items puts) ∙ at) live settled
    made)
    (λ other. was i (sym (item-other frame item old.items new.items w.frame.0 other puts) ∙ at) live settled made)
    (cases_eq w.frame.0 frame)

-- a live frame waits only for missing pages of its last Settle
pub waits-missing : (entries : ℕ) (records : List PageRecord) (table : FrameItems) (list : List QueuedWant) (n page : ℕ)
    (item : FrameItem)
    → AllByRecursion (IsTimelyWant entries (counts_in records table)) list → AllByRecursion (IsWaited table) list
    → item_of table n ≡ Some item → item.ended_at ≡ None
    → waits_for (standing (counts_in records table) list) n page ≡ true → is_among item.pins.missing page ≡ true
waits-missing entries records table [] n page item timely waited at live waits = cc
waits-missing entries records table (w ∷ list) n page item timely waited at live waits =
    let counts = counts_in records table in
    ⊎_elim
    (λ here.
    let parts = and-both (is_waiting counts page w) (w.frame.0 == n) here in
    let frame = same-eqb w.frame.0 n parts.1 in
    let inner = and-both (stands counts w) ((w.page == page) && w.settled) parts.0 in
    let of_page = and-both (w.page == page) w.settled inner.1 in
    let same_page = same-eqb w.page page of_page.0 in
    let at_own : item_of table w.frame.0 ≡ Some item = ap (item_of table) frame ∙ at in
    let asked : asked_in (item_of table w.frame.0) ≡ item.asked_at = ap asked_in at_own in
    let not_before : item.asked_at ≤ w.made_at =
    below (counts.load_ended_at w.page) (asked_in (item_of table w.frame.0)) w.made_at item.asked_at
    (ended_in (item_of table w.frame.0)) table.last_asked asked inner.0 in
    let made : w.made_at ≡ item.asked_at = omega (arith, timely.0.asked, asked, not_before) in
    subst (λ p. is_among item.pins.missing p ≡ true) same_page (waited.0 item at_own live of_page.1 made))
    (λ later. waits-missing entries records table list n page item timely.1 waited.1 at live later)
    (or-cases (is_waiting counts page w && (w.frame.0 == n)) (waits_for (standing counts list) n page)
    (sym (waits-cons counts w list n page) ∙ waits))
  where
    below : (load asked made at : ℕ) (ended : Option ℕ) (last : ℕ) → asked ≡ at
        → (nat_le load made && (nat_le asked made && not (is_before ended last))) ≡ true → at ≤ made
    below load asked made at ended last same h =
        let a = and-both (nat_le load made) (nat_le asked made && not (is_before ended last)) h in
        let b = and-both (nat_le asked made) (not (is_before ended last)) a.1 in
        let le : asked ≤ made = grind (arith, nat_tests) in
        omega (arith, le, same)
