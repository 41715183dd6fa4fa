-- Each event keeps each want that a Settle made one of a missing page of its frame.
use Rattle.std.proofs.Common.{◌≡◌, ℕ, ◌<◌, ◌==◌, List, [], ◌∷◌, Bool, true, false, cond, Option, Some, None, map, refl}
use Rattle.std.proofs.Common.{sym, ap, ◌∙◌, arith, eq-eqb}
use Rattle.std.specs.List.{AllByRecursion}
use Rattle.std.specs.Option.{option_map}
use Rattle.pool_rules.specs.Numbers.{is_among}
use Rattle.pool_rules.proofs.Tests.{or-left, or-right}
use Rattle.pool_tables.specs.FrameItems.{FrameItems, PutsItem, asked_item, ended_item, installed_item, item_of}
use Rattle.pool_tables.specs.FrameItems.{narrowed_item, pinned_item, settled_item}
use Rattle.pool_tables.specs.PinLists.{PinLists, settled_pins}
use Rattle.pool_tables.specs.WantMeaning.{IsWaited}
use Rattle.pool_tables.specs.WantQueue.{of_page}
use Rattle.pool_tables.specs.declared.frame_item.FrameItem.{FrameItem}
use Rattle.pool_tables.specs.declared.page_record.MakerId.{MakerId}
use Rattle.pool_tables.specs.declared.queued_want.QueuedWant.{QueuedWant}
use Rattle.pool_tables.proofs.TableCounts.{IsWaited-put, item-own}

-- what a want's frame waits for, where its item is this
abbrev WaitsIn : QueuedWant → Option FrameItem → Type 0
WaitsIn w item =
    (i : FrameItem) → item ≡ Some i → i.ended_at ≡ None → w.settled ≡ true → w.made_at ≡ i.asked_at →
    is_among i.pins.missing w.page ≡ true

-- an item with the same ends, asks and missing pages
alike : (w : QueuedWant) (change : FrameItem → FrameItem) (o : Option FrameItem)
    → ((i : FrameItem) → (change i).ended_at ≡ i.ended_at) → ((i : FrameItem) → (change i).asked_at ≡ i.asked_at)
    → ((i : FrameItem) → (change i).pins.missing ≡ i.pins.missing) → WaitsIn w o → WaitsIn w (option_map change o)
alike w change None ended asked missing was = λ i at live settled made. cc
alike w change (Some j) ended asked missing was = λ i at live settled made.
    let is : change j ≡ i = cc in
    let ended_i : (change j).ended_at ≡ i.ended_at = ap (λ (x : FrameItem). x.ended_at) is in
    let asked_i : (change j).asked_at ≡ i.asked_at = ap (λ (x : FrameItem). x.asked_at) is in
    let missing_i : (change j).pins.missing ≡ i.pins.missing = ap (λ (x : FrameItem). x.pins.missing) is in
    ap (λ ps. is_among ps w.page) (sym missing_i ∙ missing j) ∙
    was j refl (sym (ended j) ∙ (ended_i ∙ live)) settled (made ∙ (sym asked_i ∙ asked j))

pub IsWaited-pinned : (frame : ℕ) (by : MakerId) (count : ℕ) (old new : FrameItems) (w : QueuedWant) → 0 < w.made_at
    → PutsItem frame (Some (pinned_item by count (item_of old frame))) old.items new.items → IsWaited old w
    → IsWaited new w
IsWaited-pinned frame by count old new w some puts was =
    IsWaited-put frame (Some (pinned_item by count (item_of old frame))) old new w puts was
    (λ same. pinned (item_of old frame) (λ i at. was i (ap (item_of old) same ∙ at)))
  where
    pinned : (o : Option FrameItem) → WaitsIn w o → WaitsIn w (Some (pinned_item by count o))
    pinned None before = λ i at live settled made.
        let is : pinned_item by count None ≡ i = cc in
        let none : 0 ≡ i.asked_at = ap (λ (x : FrameItem). x.asked_at) is in
        absurd (omega (arith, some, made, none))
    pinned (Some j) before =
        alike w (λ x. pinned_item by count (Some x)) (Some j) (λ x. refl) (λ x. refl) (λ x. refl) before

pub IsWaited-narrowed : (frame : ℕ) (by : MakerId) (pages : List ℕ) (old new : FrameItems) (w : QueuedWant)
    → PutsItem frame (option_map (narrowed_item by pages) (item_of old frame)) old.items new.items → IsWaited old w
    → IsWaited new w
IsWaited-narrowed frame by pages old new w puts was =
    IsWaited-put frame (option_map (narrowed_item by pages) (item_of old frame)) old new w puts was
    (λ same. alike w (narrowed_item by pages) (item_of old frame) (λ x. refl) (λ x. refl) (λ x. refl)
    (λ i at. was i (ap (item_of old) same ∙ at)))

pub IsWaited-ended : (frame count : ℕ) (old new : FrameItems) (w : QueuedWant)
    → PutsItem frame (option_map (ended_item count) (item_of old frame)) old.items new.items → IsWaited old w
    → IsWaited new w
IsWaited-ended frame count old new w puts was =
    IsWaited-put frame (option_map (ended_item count) (item_of old frame)) old new w puts was
    (λ same. ended (item_of old frame))
  where
    ended : (o : Option FrameItem) → WaitsIn w (option_map (ended_item count) o)
    ended None = λ i at live settled made. cc
    ended (Some j) = λ i at live settled made.
        let is : ended_item count j ≡ i = cc in
        let gone : Some count ≡ i.ended_at = ap (λ (x : FrameItem). x.ended_at) is in
        cc

-- a want that was made before its frame settled or asked again
abbrev IsEarlier : ℕ → Option FrameItem → QueuedWant → Type 0
IsEarlier count item w = (i : FrameItem) → item ≡ Some i → i.asked_at ≡ count

earlier : (count : ℕ) (item : Option FrameItem) (w : QueuedWant) → w.made_at < count → IsEarlier count item w
    → WaitsIn w item
earlier count item w before is = λ i at live settled made.
    let asked = is i at in
    absurd (omega (arith, before, made, asked))

pub IsWaited-settled : (frame : ℕ) (by : MakerId) (count : ℕ) (pins : PinLists) (old new : FrameItems) (w : QueuedWant)
    → w.made_at < count
    → PutsItem frame (option_map (settled_item by count pins) (item_of old frame)) old.items new.items
    → IsWaited old w → IsWaited new w
IsWaited-settled frame by count pins old new w before puts was =
    IsWaited-put frame (option_map (settled_item by count pins) (item_of old frame)) old new w puts was
    (λ same. earlier count (option_map (settled_item by count pins) (item_of old frame)) w before
    (asked (item_of old frame)))
  where
    asked : (o : Option FrameItem) → IsEarlier count (option_map (settled_item by count pins) o) w
    asked None = λ i at. cc
    asked (Some j) =
        λ i at. let is : settled_item by count pins j ≡ i = cc in sym (ap (λ (x : FrameItem). x.asked_at) is)

pub IsWaited-asked : (frame count : ℕ) (old new : FrameItems) (w : QueuedWant) → w.made_at < count
    → PutsItem frame (option_map (asked_item count) (item_of old frame)) old.items new.items → IsWaited old w
    → IsWaited new w
IsWaited-asked frame count old new w before puts was =
    IsWaited-put frame (option_map (asked_item count) (item_of old frame)) old new w puts was
    (λ same. earlier count (option_map (asked_item count) (item_of old frame)) w before (asked (item_of old frame)))
  where
    asked : (o : Option FrameItem) → IsEarlier count (option_map (asked_item count) o) w
    asked None = λ i at. cc
    asked (Some j) = λ i at. let is : asked_item count j ≡ i = cc in sym (ap (λ (x : FrameItem). x.asked_at) is)

pub IsWaited-installed : (page : ℕ) (waits : ℕ → Bool) (old new : FrameItems) (w : QueuedWant)
    → ((n : ℕ) → item_of new n ≡ cond (waits n) (option_map (installed_item page) (item_of old n)) (item_of old n))
    → IsWaited old w → IsWaited new w
IsWaited-installed page waits old new w items was = λ i at.
    pick (waits w.frame.0) i (sym (items w.frame.0) ∙ at)
  where
    pick : (b : Bool)
        → WaitsIn w (cond b (option_map (installed_item page) (item_of old w.frame.0)) (item_of old w.frame.0))
    pick true = alike w (installed_item page) (item_of old w.frame.0) (λ x. refl) (λ x. refl) (λ x. refl) was
    pick false = was

-- the wants that a Settle makes are of its missing pages
pub IsWaited-new : (frame : ℕ) (by : MakerId) (count : ℕ) (pages missing : List ℕ) (old new : FrameItems)
    (like : QueuedWant)
    → like.frame.0 ≡ frame
    → PutsItem frame (option_map (settled_item by count (settled_pins pages missing)) (item_of old frame)) old.items
    new.items
    → (page : ℕ) → is_among missing page ≡ true → IsWaited new (of_page like page)
IsWaited-new frame by count pages missing old new like is puts page among = λ i at live settled made.
    settled_one (item_of old frame) i (sym (ap (item_of new) is ∙
    item-own frame (option_map (settled_item by count (settled_pins pages missing)) (item_of old frame)) old.items
    new.items puts) ∙ at)
  where
    settled_one : (o : Option FrameItem) (i : FrameItem)
        → option_map (settled_item by count (settled_pins pages missing)) o ≡ Some i
        → is_among i.pins.missing page ≡ true
    settled_one None i at = cc
    settled_one (Some j) i at =
        let it : settled_item by count (settled_pins pages missing) j ≡ i = cc in
        ap (λ (x : FrameItem). is_among x.pins.missing page) (sym it) ∙ among

pub all-of_pages : (P : QueuedWant → Type 0) (like : QueuedWant) (pages : List ℕ)
    → ((page : ℕ) → is_among pages page ≡ true → P (of_page like page))
    → AllByRecursion P (map (of_page like) pages)
all-of_pages P like [] each = tt
all-of_pages P like (p ∷ pages) each = (
  each p (or-left (p == p) (is_among pages p) (eq-eqb p p refl)),
  all-of_pages P like pages (λ q among. each q (or-right (p == q) (is_among pages q) among)),
)

-- the wants that an Ask makes are waited for by none
pub IsWaited-new_ask : (frames : FrameItems) (like : QueuedWant) (page : ℕ) → like.settled ≡ false
    → IsWaited frames (of_page like page)
IsWaited-new_ask frames like page no_settle = λ i at live settled made. cc
