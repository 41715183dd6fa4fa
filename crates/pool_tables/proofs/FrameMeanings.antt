-- Each event keeps the items of the table of frames those of the state's frames.
use Rattle.std.proofs.Common.{◌≡◌, ◌≢◌, ℕ, zero, suc, ◌<◌, ◌≤◌, ◌==◌, nat_le, List, [], ◌∷◌, ◌++◌, Bool, true, false}
use Rattle.std.proofs.Common.{not, cond, ◌&&◌, ◌||◌, ⊎_elim, Option, Some, None, filter, get_or, length, map, replicate}
use Rattle.std.proofs.Common.{set, refl, sym, ap, ◌∙◌, subst, arith, length-set, get_or-set_same, get_or-set_other}
use Rattle.std.proofs.lemmas.Bool.{cases_eq, cases_lt}
use Rattle.std.proofs.lemmas.Bool.Decides.{nat_tests}
use Rattle.std.proofs.lemmas.List.{length-replicate, set_past}
use Rattle.std.specs.List.Sorted.{IsStrictlySortedBy}
use Rattle.std.specs.Map.{keys_of}
use Rattle.std.specs.Option.{option_map}
use Rattle.std.specs.Ordering.{nat_cmp}
use Rattle.journal.specs.Layout.{all_below, ascends}
use Rattle.pool_rules.specs.Frame.{Frame}
use Rattle.pool_rules.specs.Numbers.{is_among}
use Rattle.pool_rules.specs.State.{frame_after_install, marked, replace_frame, waits_for}
use Rattle.pool_rules.specs.declared.want.Want.{Want}
use Rattle.pool_rules.proofs.Tests.{or-left, same-eqb}
use Rattle.pool_tables.specs.Eviction.{is_in_snapshot}
use Rattle.pool_tables.specs.FrameItems.{PutsItem, asked_item, ended_item, installed_item, item_in, narrowed_item}
use Rattle.pool_tables.specs.FrameItems.{pinned_item, settled_item}
use Rattle.pool_tables.specs.FrameMeaning.{AreDistinct, AreFrames, IsEndedItem, IsFrameItem, IsItemOf, frame_at}
use Rattle.pool_tables.specs.FrameMeaning.{item_pins}
use Rattle.pool_tables.specs.PinLists.{PinLists, flagged, installed_pins, pinned_pages, settled_pins, with_flag}
use Rattle.pool_tables.specs.declared.frame_item.FrameItem.{FrameItem}
use Rattle.pool_tables.specs.declared.page_record.MakerId.{MakerId}
use Rattle.pool_tables.proofs.Apart.{or-none}
use Rattle.pool_tables.proofs.FrameNumbers.{AreDistinct-map, AreDistinct-others, AreDistinct-put, found-number}
use Rattle.pool_tables.proofs.FrameNumbers.{frame_at-map, frame_at-others, frame_at-put}
use Rattle.pool_tables.proofs.Marks.{get_or-marked, length-marked}

-- ---- lists of flags and pages

pub flagged-unset : (missing : List ℕ) (n : ℕ) → flagged missing (replicate n false) ≡ []
flagged-unset [] n = refl
flagged-unset (page ∷ missing) zero = refl
flagged-unset (page ∷ missing) (suc n) = flagged-unset missing n

among-append : (xs ys : List ℕ) (p : ℕ) → is_among (xs ++ ys) p ≡ (is_among xs p || is_among ys p)
among-append [] ys p = refl
among-append (x ∷ xs) ys p =
    elim (x == p) as (λ b. (b || is_among (xs ++ ys) p) ≡ ((b || is_among xs p) || is_among ys p))
    [ true ↦ refl | false ↦ among-append xs ys p ]

or-none_right : (b : Bool) → (b || false) ≡ b
or-none_right true = refl
or-none_right false = refl

and-none : (b : Bool) → (b && false) ≡ false
and-none true = refl
and-none false = refl

-- pins without flags are the named pages
among-unflagged : (pages missing : List ℕ) (n p : ℕ)
    → is_among (pages ++ flagged missing (replicate n false)) p ≡ is_among pages p
among-unflagged pages missing n p =
    among-append pages (flagged missing (replicate n false)) p ∙
    (ap (λ ys. is_among pages p || is_among ys p) (flagged-unset missing n) ∙ or-none_right (is_among pages p))

length-with_flag : (page : ℕ) (missing : List ℕ) (flags : List Bool) → length flags ≡ length missing
    → length (with_flag page missing flags) ≡ length missing
length-with_flag page [] flags len = len
length-with_flag page (p ∷ missing) [] len = len
length-with_flag page (p ∷ missing) (flag ∷ flags) len =
    let rest = length-with_flag page missing flags (omega (arith, len)) in
    omega (arith, rest)

flagged-set : (page : ℕ) (missing : List ℕ) (flags : List Bool) → length flags ≡ length missing
    → is_among missing page ≡ true → is_among (flagged missing (with_flag page missing flags)) page ≡ true
flagged-set page [] flags len among = cc
flagged-set page (p ∷ missing) [] len among = absurd (omega (arith, len))
flagged-set page (p ∷ missing) (flag ∷ flags) len among =
    elim (p == page) as (λ b. (p == page) ≡ b → (b || is_among missing page) ≡ true →
    is_among (cond (b || flag) (p ∷ flagged missing (with_flag page missing flags))
    (flagged missing (with_flag page missing flags))) page ≡ true) [
      | true ↦ λ e k. or-left (p == page) (is_among (flagged missing (with_flag page missing flags)) page) e
      | false ↦ λ e k. later flag e (flagged-set page missing flags (omega (arith, len)) k)
    ] refl among
  where
    later : (b : Bool) → (p == page) ≡ false → is_among (flagged missing (with_flag page missing flags)) page ≡ true
        → is_among (cond b (p ∷ flagged missing (with_flag page missing flags))
        (flagged missing (with_flag page missing flags))) page ≡ true
    later true e rest = rw e rest
    later false e rest = rest

flagged-other : (page q : ℕ) (missing : List ℕ) (flags : List Bool) → q ≢ page
    → is_among (flagged missing (with_flag page missing flags)) q ≡ is_among (flagged missing flags) q
flagged-other page q [] flags other = refl
flagged-other page q (p ∷ missing) [] other = refl
flagged-other page q (p ∷ missing) (true ∷ flags) other =
    elim (p == page) as (λ b. is_among (cond (b || true) (p ∷ flagged missing (with_flag page missing flags))
    (flagged missing (with_flag page missing flags))) q ≡ ((p == q) || is_among (flagged missing flags) q)) [
      | true ↦ ap (λ b. (p == q) || b) (flagged-other page q missing flags other)
      | false ↦
          ap (λ b. (p == q) || b) (flagged-other page q missing flags other)
    ]
flagged-other page q (p ∷ missing) (false ∷ flags) other =
    elim (p == page) as (λ b. (p == page) ≡ b →
    is_among (cond (b || false) (p ∷ flagged missing (with_flag page missing flags))
    (flagged missing (with_flag page missing flags))) q ≡ is_among (flagged missing flags) q) [
      | true ↦ λ e. let ne : (p == q) ≡ false =
          grind (arith, nat_tests) in rw ne (flagged-other page q missing flags other)
      | false ↦ λ e. flagged-other page q missing flags other
    ] refl

-- an Install pins its page if it is a missing one, and no other
pub installed_pins-page : (page : ℕ) (pins : PinLists) → length pins.flags ≡ length pins.missing
    → is_among pins.missing page ≡ true → is_among (pinned_pages (installed_pins page pins)) page ≡ true
installed_pins-page page pins len among =
    among-append pins.named (flagged pins.missing (with_flag page pins.missing pins.flags)) page ∙
    (ap (λ b. is_among pins.named page || b) (flagged-set page pins.missing pins.flags len among) ∙
    yes (is_among pins.named page))
  where
    yes : (b : Bool) → (b || true) ≡ true
    yes true = refl
    yes false = refl

pub installed_pins-other : (page q : ℕ) (pins : PinLists) → q ≢ page
    → is_among (pinned_pages (installed_pins page pins)) q ≡ is_among (pinned_pages pins) q
installed_pins-other page q pins other =
    among-append pins.named (flagged pins.missing (with_flag page pins.missing pins.flags)) q ∙
    (ap (λ b. is_among pins.named q || b) (flagged-other page q pins.missing pins.flags other) ∙
    sym (among-append pins.named (flagged pins.missing pins.flags) q))

-- ---- one frame changes

pub AreFrames-put : (resident : List Bool) (installed_at : ℕ → ℕ) (frames now : List Frame)
    (old new : List (ℕ × FrameItem)) (number : ℕ) (frame : Option Frame) (item : Option FrameItem)
    → AreFrames resident installed_at frames old → PutsItem number item old new → AreDistinct now
    → ((n : ℕ) → frame_at n now ≡ cond (number == n) frame (frame_at n frames))
    → IsItemOf resident installed_at frame item → AreFrames resident installed_at now new
AreFrames-put resident installed_at frames now old new number frame item are puts distinct at here = record {
  distinct = distinct;
  ordered = puts.ordered;
  items =
      λ n. subst (λ (f : Option Frame). IsItemOf resident installed_at f (item_in new n)) (sym (at n))
      (subst (λ (i : Option FrameItem). IsItemOf resident installed_at (cond (number == n) frame (frame_at n frames)) i)
      (sym (puts.items n)) (pick n (number == n)));
}
  where
    pick : (n : ℕ) (b : Bool)
        → IsItemOf resident installed_at (cond b frame (frame_at n frames)) (cond b item (item_in old n))
    pick n true = here
    pick n false = are.items n

-- the item of a live frame
pub live-item : (resident : List Bool) (installed_at : ℕ → ℕ) (f : Frame) (item : Option FrameItem)
    → IsItemOf resident installed_at (Some f) item
    → (i : FrameItem) × (item ≡ Some i) × IsFrameItem resident installed_at f i
live-item resident installed_at f None is = absurd is
live-item resident installed_at f (Some i) is = (i, refl, is)

pub at-frame : (resident : List Bool) (installed_at : ℕ → ℕ) (frames : List Frame) (items : List (ℕ × FrameItem))
    (number : ℕ) (f : Frame)
    → AreFrames resident installed_at frames items → frame_at number frames ≡ Some f
    → (i : FrameItem) × (item_in items number ≡ Some i) × IsFrameItem resident installed_at f i
at-frame resident installed_at frames items number f are at =
    live-item resident installed_at f (item_in items number)
    (subst (λ (o : Option Frame). IsItemOf resident installed_at o (item_in items number)) at (are.items number))

-- each item has a flag for each missing page
pub flag_a_page : (resident : List Bool) (installed_at : ℕ → ℕ) (f : Option Frame) (item : FrameItem)
    → IsItemOf resident installed_at f (Some item) → length item.pins.flags ≡ length item.pins.missing
flag_a_page resident installed_at None item is =
    ap (λ (pins : PinLists). length pins.flags) is.pins ∙ sym (ap (λ (pins : PinLists). length pins.missing) is.pins)
flag_a_page resident installed_at (Some f) item is = is.flag_a_page

pub flags-at : (resident : List Bool) (installed_at : ℕ → ℕ) (frames : List Frame) (items : List (ℕ × FrameItem))
    (number : ℕ) (item : FrameItem)
    → AreFrames resident installed_at frames items → item_in items number ≡ Some item
    → length item.pins.flags ≡ length item.pins.missing
flags-at resident installed_at frames items number item are at =
    flag_a_page resident installed_at (frame_at number frames) item
    (subst (λ (o : Option FrameItem). IsItemOf resident installed_at (frame_at number frames) o) at
    (are.items number))

-- and its missing pages ascend
missing_ascends : (resident : List Bool) (installed_at : ℕ → ℕ) (f : Option Frame) (item : FrameItem)
    → IsItemOf resident installed_at f (Some item) → ascends item.pins.missing ≡ true
missing_ascends resident installed_at None item is = ap (λ (pins : PinLists). ascends pins.missing) is.pins
missing_ascends resident installed_at (Some f) item is = is.missing_ascend

pub missing-at : (resident : List Bool) (installed_at : ℕ → ℕ) (frames : List Frame) (items : List (ℕ × FrameItem))
    (number : ℕ) (item : FrameItem) → AreFrames resident installed_at frames items
    → item_in items number ≡ Some item → ascends item.pins.missing ≡ true
missing-at resident installed_at frames items number item are at =
    missing_ascends resident installed_at (frame_at number frames) item
    (subst (λ (o : Option FrameItem). IsItemOf resident installed_at (frame_at number frames) o) at
    (are.items number))

unset-len : (n m : ℕ) → n ≡ m → length (replicate n false) ≡ m
unset-len n m same = length-replicate n false ∙ same

-- after a Pin the frame pins what is resident
pub AreFrames-pin : (resident : List Bool) (installed_at : ℕ → ℕ) (frames : List Frame) (old new : List (ℕ × FrameItem))
    (number : ℕ) (by : MakerId) (count : ℕ)
    → AreFrames resident installed_at frames old
    → ((item : FrameItem) → item_in old number ≡ Some item → item.ended_at ≡ None)
    → ((p : ℕ) → installed_at p ≤ count)
    → PutsItem number (Some (pinned_item by count (item_in old number))) old new
    → AreFrames resident installed_at (replace_frame (record { number = number; owner = by.0; pins = resident }) frames)
    new
AreFrames-pin resident installed_at frames old new number by count are live installed puts =
    let f : Frame = record { number = number; owner = by.0; pins = resident } in
    AreFrames-put resident installed_at frames (replace_frame f frames) old new number (Some f)
    (Some (pinned_item by count (item_in old number))) are puts (AreDistinct-put f frames are.distinct)
    (λ n. frame_at-put n f frames) (pinned (item_in old number) live
    (λ item at. flags-at resident installed_at frames old number item are at)
    (λ item at. missing-at resident installed_at frames old number item are at))
  where
    covered : (p : ℕ) (b : Bool) → b ≡ (b && nat_le (installed_at p) count)
    covered p true =
        let below = installed p in let yes : nat_le (installed_at p) count ≡ true = grind (arith, nat_tests) in sym yes
    covered p false = refl

    pinned : (o : Option FrameItem) → ((item : FrameItem) → o ≡ Some item → item.ended_at ≡ None)
        → ((item : FrameItem) → o ≡ Some item → length item.pins.flags ≡ length item.pins.missing)
        → ((item : FrameItem) → o ≡ Some item → ascends item.pins.missing ≡ true)
        → IsFrameItem resident installed_at (record { number = number; owner = by.0; pins = resident })
        (pinned_item by count o)
    pinned None alive flags ascending = record {
      live = refl;
      owner = refl;
      pin_a_page = refl;
      flag_a_page = refl;
      named_ascend = refl;
      missing_ascend = refl;
      pins = λ p. covered p (get_or resident p false);
    }
    pinned (Some item) alive flags ascending = record {
      live = alive item refl;
      owner = refl;
      pin_a_page = refl;
      flag_a_page = unset-len (length item.pins.flags) (length item.pins.missing) (flags item refl);
      named_ascend = refl;
      missing_ascend = ascending item refl;
      pins =
          λ p. covered p (get_or resident p false) ∙
          ap (λ b. b || (get_or resident p false && nat_le (installed_at p) count))
          (sym (among-unflagged [] item.pins.missing (length item.pins.flags) p));
    }

-- pages that are pinned explicitly, without a snapshot
explicit : (resident : List Bool) (pages missing : List ℕ) (n p : ℕ) → all_below (length resident) pages ≡ true
    → get_or (marked (length resident) pages) p false ≡
    (is_among (pages ++ flagged missing (replicate n false)) p || (get_or resident p false && false))
explicit resident pages missing n p below =
    get_or-marked (length resident) pages p below ∙
    (sym (or-none_right (is_among pages p)) ∙
    (ap (λ b. is_among pages p || b) (sym (and-none (get_or resident p false))) ∙
    ap (λ b. b || (get_or resident p false && false)) (sym (among-unflagged pages missing n p))))

-- after a Settle the frame pins its pages
pub AreFrames-settle : (resident : List Bool) (installed_at : ℕ → ℕ) (frames : List Frame)
    (old new : List (ℕ × FrameItem)) (number : ℕ) (by : MakerId) (count : ℕ) (pages missing : List ℕ) (f : Frame)
    → AreFrames resident installed_at frames old → frame_at number frames ≡ Some f
    → all_below (length resident) pages ≡ true → ascends pages ≡ true → ascends missing ≡ true
    → PutsItem number (option_map (settled_item by count (settled_pins pages missing)) (item_in old number)) old new
    → AreFrames resident installed_at (replace_frame
    (record { number = number; owner = by.0; pins = marked (length resident) pages }) frames) new
AreFrames-settle resident installed_at frames old new number by count pages missing f are at below pages_ascend
    missing_ascend puts =
    let now : Frame = record { number = number; owner = by.0; pins = marked (length resident) pages } in
    let found = at-frame resident installed_at frames old number f are at in
    AreFrames-put resident installed_at frames (replace_frame now frames) old new number (Some now)
    (option_map (settled_item by count (settled_pins pages missing)) (item_in old number)) are puts
    (AreDistinct-put now frames are.distinct) (λ n. frame_at-put n now frames)
    (subst (λ (o : Option FrameItem). IsItemOf resident installed_at (Some now)
    (option_map (settled_item by count (settled_pins pages missing)) o)) (sym found.1) (record {
      live = found.2.live;
      owner = refl;
      pin_a_page = length-marked (length resident) pages;
      flag_a_page = length-replicate (length missing) false;
      named_ascend = pages_ascend;
      missing_ascend = missing_ascend;
      pins = λ p. explicit resident pages missing (length missing) p below;
    }))

-- after a Narrow the frame pins its pages
pub AreFrames-narrow : (resident : List Bool) (installed_at : ℕ → ℕ) (frames : List Frame)
    (old new : List (ℕ × FrameItem)) (number : ℕ) (by : MakerId) (pages : List ℕ) (f : Frame)
    → AreFrames resident installed_at frames old → frame_at number frames ≡ Some f
    → all_below (length resident) pages ≡ true → ascends pages ≡ true
    → PutsItem number (option_map (narrowed_item by pages) (item_in old number)) old new
    → AreFrames resident installed_at (replace_frame
    (record { number = number; owner = by.0; pins = marked (length resident) pages }) frames) new
AreFrames-narrow resident installed_at frames old new number by pages f are at below pages_ascend puts =
    let now : Frame = record { number = number; owner = by.0; pins = marked (length resident) pages } in
    let found = at-frame resident installed_at frames old number f are at in
    let item = found.0 in
    AreFrames-put resident installed_at frames (replace_frame now frames) old new number (Some now)
    (option_map (narrowed_item by pages) (item_in old number)) are puts (AreDistinct-put now frames are.distinct)
    (λ n. frame_at-put n now frames)
    (subst (λ (o : Option FrameItem). IsItemOf resident installed_at (Some now) (option_map (narrowed_item by pages) o))
    (sym found.1) (record {
      live = found.2.live;
      owner = refl;
      pin_a_page = length-marked (length resident) pages;
      flag_a_page = unset-len (length item.pins.flags) (length item.pins.missing) found.2.flag_a_page;
      named_ascend = pages_ascend;
      missing_ascend = found.2.missing_ascend;
      pins = λ p. explicit resident pages item.pins.missing (length item.pins.flags) p below;
    }))

-- an Ask leaves all pins
pub AreFrames-ask : (resident : List Bool) (installed_at : ℕ → ℕ) (frames : List Frame) (old new : List (ℕ × FrameItem))
    (number count : ℕ)
    → AreFrames resident installed_at frames old
    → PutsItem number (option_map (asked_item count) (item_in old number)) old new
    → AreFrames resident installed_at frames new
AreFrames-ask resident installed_at frames old new number count are puts =
    AreFrames-put resident installed_at frames frames old new number (frame_at number frames)
    (option_map (asked_item count) (item_in old number)) are puts are.distinct (λ n. same n (number == n) refl)
    (asked (frame_at number frames) (item_in old number) (are.items number))
  where
    same : (n : ℕ) (b : Bool) → (number == n) ≡ b
        → frame_at n frames ≡ cond b (frame_at number frames) (frame_at n frames)
    same n true e = ap (λ m. frame_at m frames) (sym (same-eqb number n e))
    same n false e = refl

    asked : (f : Option Frame) (o : Option FrameItem) → IsItemOf resident installed_at f o
        → IsItemOf resident installed_at f (option_map (asked_item count) o)
    asked None None is = tt
    asked None (Some item) is = record { ended = is.ended; snapshot = is.snapshot; pins = is.pins }
    asked (Some f) None is = is
    asked (Some f) (Some item) is =
        record {
          live = is.live;
          owner = is.owner;
          pin_a_page = is.pin_a_page;
          flag_a_page = is.flag_a_page;
          named_ascend = is.named_ascend;
          missing_ascend = is.missing_ascend;
          pins = is.pins;
        }

-- an Unpin ends the frame
pub AreFrames-unpin : (resident : List Bool) (installed_at : ℕ → ℕ) (frames : List Frame)
    (old new : List (ℕ × FrameItem)) (number count : ℕ)
    → AreFrames resident installed_at frames old
    → PutsItem number (option_map (ended_item count) (item_in old number)) old new
    → AreFrames resident installed_at (filter (λ f. not (f.number == number)) frames) new
AreFrames-unpin resident installed_at frames old new number count are puts =
    AreFrames-put resident installed_at frames (filter (λ f. not (f.number == number)) frames) old new number None
    (option_map (ended_item count) (item_in old number)) are puts (AreDistinct-others number frames are.distinct)
    (λ n. frame_at-others n number frames) (ended (item_in old number))
  where
    ended : (o : Option FrameItem) → IsItemOf resident installed_at None (option_map (ended_item count) o)
    ended None = tt
    ended (Some item) = record { ended = refl; snapshot = refl; pins = refl }

-- a Take evicts a page that no frame pins
pub AreFrames-evict : (resident : List Bool) (installed_at : ℕ → ℕ) (frames : List Frame) (items : List (ℕ × FrameItem))
    (victim : ℕ)
    → AreFrames resident installed_at frames items
    → ((n : ℕ) (f : Frame) → frame_at n frames ≡ Some f → get_or f.pins victim false ≡ false)
    → AreFrames (set resident victim false) installed_at frames items
AreFrames-evict resident installed_at frames items victim are unpinned = record {
  distinct = are.distinct;
  ordered = are.ordered;
  items = λ n. evicted (frame_at n frames) (item_in items n) (λ f at. unpinned n f at) (are.items n);
}
  where
    absent : get_or (set resident victim false) victim false ≡ false
    absent =
        ⊎_elim (λ lt. get_or-set_same resident victim false false lt)
        (λ past. ap (λ xs. get_or xs victim false) (set_past resident victim false past) ∙ beyond resident victim past)
        (cases_lt victim (length resident))
      where
        beyond : (xs : List Bool) (i : ℕ) → length xs ≤ i → get_or xs i false ≡ false
        beyond [] i past = refl
        beyond (x ∷ xs) zero past = absurd (omega (arith, past))
        beyond (x ∷ xs) (suc i) past = beyond xs i (omega (arith, past))

    pins : (f : Frame) (item : FrameItem) → get_or f.pins victim false ≡ false
        → IsFrameItem resident installed_at f item → (p : ℕ)
        → get_or f.pins p false ≡ item_pins (set resident victim false) installed_at item p
    pins f item unpins is p = ⊎_elim
        (λ same. subst (λ q. get_or f.pins q false ≡ item_pins (set resident victim false) installed_at item q)
        (sym same) (
        let none =
        or-none (is_among (pinned_pages item.pins) victim)
        (get_or resident victim false && is_in_snapshot item.snapshot (installed_at victim))
        (sym (is.pins victim) ∙ unpins) in
        unpins ∙
        sym
        (ap (λ b. b || (get_or (set resident victim false) victim false && is_in_snapshot item.snapshot
        (installed_at victim))) none.0 ∙ ap (λ b. b && is_in_snapshot item.snapshot (installed_at victim)) absent)))
        (λ other. is.pins p ∙ ap (λ b. is_among (pinned_pages item.pins) p ||
        (b && is_in_snapshot item.snapshot (installed_at p)))
        (sym (get_or-set_other resident victim p false false other)))
        (cases_eq p victim)

    evicted : (f : Option Frame) (o : Option FrameItem)
        → ((g : Frame) → f ≡ Some g → get_or g.pins victim false ≡ false) → IsItemOf resident installed_at f o
        → IsItemOf (set resident victim false) installed_at f o
    evicted None None unpins is = tt
    evicted None (Some item) unpins is = is
    evicted (Some f) None unpins is = is
    evicted (Some f) (Some item) unpins is = record {
      live = is.live;
      owner = is.owner;
      pin_a_page = is.pin_a_page ∙ sym (length-set resident victim false);
      flag_a_page = is.flag_a_page;
      named_ascend = is.named_ascend;
      missing_ascend = is.missing_ascend;
      pins = pins f item (unpins f refl) is;
    }

-- an Install of a page, which was not resident: the frames that wait for it pin it
pub AreFrames-install : (resident : List Bool) (installed_at installed_now : ℕ → ℕ) (frames : List Frame)
    (wants : List Want) (old new : List (ℕ × FrameItem)) (page count : ℕ)
    → AreFrames resident installed_at frames old → page < length resident → get_or resident page false ≡ false
    → installed_now page ≡ count → ((p : ℕ) → p ≢ page → installed_now p ≡ installed_at p)
    → ((n : ℕ) (item : FrameItem) → item_in old n ≡ Some item → is_in_snapshot item.snapshot count ≡ false)
    → ((n : ℕ) (item : FrameItem) → item_in old n ≡ Some item → item.ended_at ≡ None → waits_for wants n page ≡ true →
    is_among item.pins.missing page ≡ true)
    → IsStrictlySortedBy nat_cmp (keys_of new)
    → ((n : ℕ) → item_in new n ≡ cond (waits_for wants n page) (option_map (installed_item page) (item_in old n))
    (item_in old n))
    → AreFrames (set resident page true) installed_now (map (frame_after_install wants page) frames) new
AreFrames-install resident installed_at installed_now frames wants old new page count are within absent here others
    later missing ordered items = record {
      distinct = AreDistinct-map (frame_after_install wants page) keeps frames are.distinct;
      ordered = ordered;
      items =
          λ n. subst (λ (f : Option Frame). IsItemOf (set resident page true) installed_now f (item_in new n))
          (sym (frame_at-map n (frame_after_install wants page) keeps frames))
          (subst (λ (i : Option FrameItem). IsItemOf (set resident page true) installed_now
          (option_map (frame_after_install wants page) (frame_at n frames)) i) (sym (items n))
          (step n (frame_at n frames) refl (item_in old n) (λ item at. later n item at) (λ item at. missing n item at)
          (are.items n)));
    }
  where
    keeps : (f : Frame) → (frame_after_install wants page f).number ≡ f.number
    keeps f =
        elim (waits_for wants f.number page) as (λ b. ◌≡◌ {A = ℕ}
        (cond b (record f { pins = set f.pins page true }) f).number f.number) [ true ↦ refl | false ↦ refl ]

    -- what holds of the page, and of the others
    bits : (f : Frame) (now : List Bool) (item item_now : FrameItem) → item_now.snapshot ≡ item.snapshot → (p : ℕ)
        → (p ≡ page → get_or now page false ≡ is_among (pinned_pages item_now.pins) page)
        → (p ≢ page → get_or now p false ≡ get_or f.pins p false)
        → (p ≢ page → is_among (pinned_pages item_now.pins) p ≡ is_among (pinned_pages item.pins) p)
        → is_in_snapshot item.snapshot count ≡ false → IsFrameItem resident installed_at f item
        → get_or now p false ≡ item_pins (set resident page true) installed_now item_now p
    bits f now item item_now snap p at_page at_other pinned uncovered is = ⊎_elim
        (λ same. subst (λ q. get_or now q false ≡ item_pins (set resident page true) installed_now item_now q)
        (sym same) (
        let no : is_in_snapshot item_now.snapshot (installed_now page) ≡ false =
        ap (λ s. is_in_snapshot s (installed_now page)) snap ∙
        (ap (is_in_snapshot item.snapshot) here ∙ uncovered) in
        at_page same ∙ (sym (or-none_right (is_among (pinned_pages item_now.pins) page)) ∙
        ap (λ b. is_among (pinned_pages item_now.pins) page || b)
        (sym (ap (λ b. get_or (set resident page true) page false && b) no ∙
        and-none (get_or (set resident page true) page false))))))
        (λ other.
        at_other other ∙
        (is.pins p ∙ (ap (λ b. b || (get_or resident p false && is_in_snapshot item.snapshot (installed_at p)))
        (sym (pinned other))
        ∙ (ap (λ b. is_among (pinned_pages item_now.pins) p || (b && is_in_snapshot item.snapshot (installed_at p)))
        (sym (get_or-set_other resident page p true false other))
        ∙ (ap (λ s. is_among (pinned_pages item_now.pins) p ||
        (get_or (set resident page true) p false && is_in_snapshot s (installed_at p))) (sym snap)
        ∙ ap (λ k. is_among (pinned_pages item_now.pins) p ||
        (get_or (set resident page true) p false && is_in_snapshot item_now.snapshot k)) (sym (others p other)))))))
        (cases_eq p page)

    unpinned : (f : Frame) (item : FrameItem) → IsFrameItem resident installed_at f item
        → get_or f.pins page false ≡ is_among (pinned_pages item.pins) page
    unpinned f item is =
        is.pins page ∙
        (ap (λ b. is_among (pinned_pages item.pins) page || (b && is_in_snapshot item.snapshot (installed_at page)))
        absent ∙ or-none_right (is_among (pinned_pages item.pins) page))

    waiting : (f : Frame) (item : FrameItem) → is_in_snapshot item.snapshot count ≡ false
        → is_among item.pins.missing page ≡ true → IsFrameItem resident installed_at f item
        → IsFrameItem (set resident page true) installed_now (record f { pins = set f.pins page true })
        (installed_item page item)
    waiting f item uncovered among is =
        let room : page < length f.pins = omega (arith, within, is.pin_a_page) in
        let has = installed_pins-page page item.pins is.flag_a_page among in
        record {
          live = is.live;
          owner = is.owner;
          pin_a_page = length-set f.pins page true ∙ (is.pin_a_page ∙ sym (length-set resident page true));
          flag_a_page = length-with_flag page item.pins.missing item.pins.flags is.flag_a_page;
          named_ascend = is.named_ascend;
          missing_ascend = is.missing_ascend;
          pins = λ p. bits f (set f.pins page true) item (installed_item page item) refl p
              (λ same. get_or-set_same f.pins page true false room ∙ sym has)
              (λ other. get_or-set_other f.pins page p true false other)
              (λ other. installed_pins-other page p item.pins other)
              uncovered is;
        }

    idle : (f : Frame) (item : FrameItem) → is_in_snapshot item.snapshot count ≡ false
        → IsFrameItem resident installed_at f item → IsFrameItem (set resident page true) installed_now f item
    idle f item uncovered is = record {
      live = is.live;
      owner = is.owner;
      pin_a_page = is.pin_a_page ∙ sym (length-set resident page true);
      flag_a_page = is.flag_a_page;
      named_ascend = is.named_ascend;
      missing_ascend = is.missing_ascend;
      pins =
          λ p. bits f f.pins item item refl p (λ same. unpinned f item is) (λ other. refl) (λ other. refl) uncovered is;
    }

    ended : (item : FrameItem) → IsEndedItem item → IsEndedItem (installed_item page item)
    ended item is = record {
      ended = is.ended;
      snapshot = is.snapshot;
      pins = ap (installed_pins page) is.pins;
    }

    step : (n : ℕ) (f : Option Frame) → frame_at n frames ≡ f → (o : Option FrameItem)
        → ((item : FrameItem) → o ≡ Some item → is_in_snapshot item.snapshot count ≡ false)
        → ((item : FrameItem) → o ≡ Some item → item.ended_at ≡ None → waits_for wants n page ≡ true →
        is_among item.pins.missing page ≡ true)
        → IsItemOf resident installed_at f o
        → IsItemOf (set resident page true) installed_now (option_map (frame_after_install wants page) f)
        (cond (waits_for wants n page) (option_map (installed_item page) o) o)
    step n None at None uncovered among is =
        elim (waits_for wants n page) as (λ b. IsItemOf (set resident page true) installed_now None
        (cond b (option_map (installed_item page) None) None)) [ true ↦ tt | false ↦ tt ]
    step n None at (Some item) uncovered among is =
        elim (waits_for wants n page) as (λ b. IsItemOf (set resident page true) installed_now None
        (cond b (Some (installed_item page item)) (Some item))) [ true ↦ ended item is | false ↦ is ]
    step n (Some f) at None uncovered among is = absurd is
    step n (Some f) at (Some item) uncovered among is =
        let number : f.number ≡ n = found-number n frames f at in
        subst (λ m. IsItemOf (set resident page true) installed_now
        (Some (cond (waits_for wants m page) (record f { pins = set f.pins page true }) f))
        (cond (waits_for wants n page) (Some (installed_item page item)) (Some item))) (sym number)
        (elim (waits_for wants n page) as (λ b. waits_for wants n page ≡ b →
        IsItemOf (set resident page true) installed_now (Some (cond b (record f { pins = set f.pins page true }) f))
        (cond b (Some (installed_item page item)) (Some item))) [
          | true ↦ λ e. waiting f item (uncovered item refl) (among item refl is.live e) is
          | false ↦ λ e. idle f item (uncovered item refl) is
        ] refl)
