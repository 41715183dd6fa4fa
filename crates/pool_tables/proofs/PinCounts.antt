-- What the count of explicit pins of a page tells, and which pages some live frame pins.
use Rattle.std.proofs.Common.{◌≡◌, ℕ, ◌*◌, length, ◌+◌, ◌<◌, ◌≤◌, ◌==◌, nat_cmp, nat_lt, List, [], ◌∷◌, Bool, true}
use Rattle.std.proofs.Common.{false, cond, ◌&&◌, ◌||◌, ⊎_elim, Option, Some, None, get_or, refl, sym, ap, ◌∙◌, subst}
use Rattle.std.proofs.Common.{arith, eq-eqb, is_some}
use Rattle.std.proofs.lemmas.Bool.Decides.{nat_tests}
use Rattle.std.proofs.lemmas.List.Sums.{sum_by-cons}
use Rattle.std.specs.BTreeMap.{is_at}
use Rattle.std.specs.List.{AllByRecursion}
use Rattle.std.specs.List.Sorted.{IsStrictlySortedBy}
use Rattle.std.specs.Map.{keys_of, values_of}
use Rattle.std.specs.Ordering.{is_eq}
use Rattle.std.specs.declared.cmp.Ordering.TheVariants.{Less}
use Rattle.journal.specs.Layout.{ascends}
use Rattle.pool_rules.specs.Frame.{Frame}
use Rattle.pool_rules.specs.Numbers.{is_among}
use Rattle.pool_rules.specs.Rules.{owns, pins}
use Rattle.pool_rules.specs.State.{State, is_live, is_resident}
use Rattle.pool_rules.specs.Victim.{is_pinned}
use Rattle.pool_rules.proofs.Tests.{and-both, or-cases, or-left, or-right, same-bools, same-eqb}
use Rattle.pool_tables.specs.Changes.{times}
use Rattle.pool_tables.specs.Eviction.{is_in_snapshot}
use Rattle.pool_tables.specs.FrameItems.{IsLatest, item_in, pin_count, snapshot_in}
use Rattle.pool_tables.specs.FrameMeaning.{AreFrames, IsFrameItem, IsItemOf, frame_at}
use Rattle.pool_tables.specs.FrameQueries.{is_live_in, is_owned, pins_page}
use Rattle.pool_tables.specs.PinLists.{PinLists, flagged, pinned_pages}
use Rattle.pool_tables.specs.declared.frame_item.FrameItem.{FrameItem}
use Rattle.pool_tables.proofs.FlaggedPages.{among-times, times-append, times-ascending, times-flagged}
use Rattle.pool_tables.proofs.FrameMeanings.{at-frame}
use Rattle.pool_tables.proofs.FrameNumbers.{any-found, any-numbered, found-any, has_number-found, passes}
use Rattle.pool_tables.proofs.ItemChanges.{is_at-eqb}

abbrev counted : ℕ → FrameItem → ℕ
counted page item = times (pinned_pages item.pins) page

pin_count-cons : (e : ℕ × FrameItem) (items : List (ℕ × FrameItem)) (page : ℕ)
    → pin_count (e ∷ items) page ≡ counted page e.1 + pin_count items page
pin_count-cons e items page = sum_by-cons (counted page) e.1 (values_of items)

-- an item counts
pub pin_count-least : (items : List (ℕ × FrameItem)) (n : ℕ) (item : FrameItem) (page : ℕ)
    → item_in items n ≡ Some item → counted page item ≤ pin_count items page
pin_count-least [] n item page at = cc
pin_count-least (e ∷ items) n item page at =
    let sum = pin_count-cons e items page in
    elim (is_at (nat_cmp n) e.0) as (λ b. cond b (Some e.1) (item_in items n) ≡ Some item →
    counted page item ≤ pin_count (e ∷ items) page) [
      | true ↦ λ k. let same : e.1 ≡ item =
          cc in let count : counted page e.1 ≡ counted page item = ap (counted page) same in omega (arith, sum, count)
      | false ↦ λ k. omega (arith, sum, pin_count-least items n item page k)
    ] at

-- what all keys have, the key of an item has
key-of : (P : ℕ → Type 0) (items : List (ℕ × FrameItem)) (n : ℕ) (item : FrameItem)
    → AllByRecursion P (keys_of items) → item_in items n ≡ Some item → P n
key-of P [] n item all at = cc
key-of P (e ∷ items) n item all at =
    elim (is_at (nat_cmp n) e.0) as (λ b. is_at (nat_cmp n) e.0 ≡ b → cond b (Some e.1) (item_in items n) ≡ Some item →
    P n) [
      | true ↦ λ yes k. subst P (sym (same-eqb n e.0 (sym (is_at-eqb n e.0) ∙ yes))) all.0
      | false ↦ λ no k. key-of P items n item all.1 k
    ] refl at

-- a key after another is another
apart : (a b : ℕ) → nat_cmp a b ≡ Less → is_at (nat_cmp b) a ≡ false
apart a b less = elim (is_at (nat_cmp b) a) as (λ t. is_at (nat_cmp b) a ≡ t → t ≡ false) [
  | true ↦ λ yes. let same =
      same-eqb b a (sym (is_at-eqb b a) ∙ yes) in let no : is_at (nat_cmp a) b ≡ false =
      ap is_eq less in let is : is_at (nat_cmp a) b ≡ true = is_at-eqb a b ∙ eq-eqb a b (sym same) in cc
  | false ↦ λ no. refl
] refl

-- a count above none is of some frame's item
pub pin_count-some : (items : List (ℕ × FrameItem)) (page : ℕ) → IsStrictlySortedBy nat_cmp (keys_of items)
    → 0 < pin_count items page
    → (n : ℕ) × (item : FrameItem) × (item_in items n ≡ Some item) × (0 < counted page item)
unfolding IsStrictlySortedBy
pin_count-some [] page ordered some = absurd (omega (arith, some))
pin_count-some (e ∷ items) page ordered some =
    elim (nat_lt 0 (counted page e.1)) as (λ b. nat_lt 0 (counted page e.1) ≡ b → (n : ℕ) × (item : FrameItem) ×
    (item_in (e ∷ items) n ≡ Some item) × (0 < counted page item)) [
      | true ↦ λ yes. let here : 0 < counted page e.1 =
          grind (arith, nat_tests) in (
            e.0,
            e.1,
            ap (λ b. cond b (Some e.1) (item_in items e.0))
                (is_at-eqb e.0 e.0 ∙ eq-eqb e.0 e.0 refl),
            here,
          )
      | false ↦ λ no.
          let none : counted page e.1 ≡ 0 = grind (arith, nat_tests) in
          let found = pin_count-some items page ordered.1 (omega (arith, some, none, pin_count-cons e items page)) in
          let above = key-of (λ k. nat_cmp e.0 k ≡ Less) items found.0 found.1 ordered.0 found.2 in (
            found.0,
            found.1,
            ap (λ b. cond b (Some e.1) (item_in items found.0)) (apart e.0 found.0 above) ∙ found.2,
            found.3,
          )
    ] refl

-- an item counts a page at most twice
counted-most : (item : FrameItem) (page : ℕ) → ascends item.pins.named ≡ true → ascends item.pins.missing ≡ true
    → counted page item ≤ 2
counted-most item page named missing =
    omega (
      arith,
      times-append item.pins.named (flagged item.pins.missing item.pins.flags) page,
      times-ascending 0 item.pins.named page named,
      times-flagged item.pins.missing item.pins.flags page,
      times-ascending 0 item.pins.missing page missing,
    )

sum-most : (items : List (ℕ × FrameItem)) (page : ℕ) → IsStrictlySortedBy nat_cmp (keys_of items)
    → ((n : ℕ) (item : FrameItem) → item_in items n ≡ Some item → counted page item ≤ 2)
    → pin_count items page ≤ 2 * length items
unfolding IsStrictlySortedBy
sum-most [] page ordered few = omega arith
sum-most (e ∷ items) page ordered few =
    let here =
    few e.0 e.1 (ap (λ b. cond b (Some e.1) (item_in items e.0)) (is_at-eqb e.0 e.0 ∙ eq-eqb e.0 e.0 refl)) in
    let rest = sum-most items page ordered.1 (λ n item at.
    let above = key-of (λ k. nat_cmp e.0 k ≡ Less) items n item ordered.0 at in
    few n item (ap (λ b. cond b (Some e.1) (item_in items n)) (apart e.0 n above) ∙ at)) in
    let long : length (e ∷ items) ≡ length items + 1 = omega arith in
    omega (arith, pin_count-cons e items page, here, rest, long)

-- a count of explicit pins is at most twice the number of frames
pub pin_count-most : (resident : List Bool) (installed_at : ℕ → ℕ) (frames : List Frame) (items : List (ℕ × FrameItem))
    (page : ℕ) → AreFrames resident installed_at frames items → pin_count items page ≤ 2 * length items
pin_count-most resident installed_at frames items page are =
    sum-most items page are.ordered (λ n item at. few (frame_at n frames) item
    (subst (λ (o : Option FrameItem). IsItemOf resident installed_at (frame_at n frames) o) at (are.items n)))
  where
    few : (f : Option Frame) (item : FrameItem) → IsItemOf resident installed_at f (Some item) → counted page item ≤ 2
    few None item is =
        let none : counted page item ≡ 0 = ap (λ (pins : PinLists). times (pinned_pages pins) page) is.pins in
        omega (arith, none)
    few (Some f) item is = counted-most item page is.named_ascend is.missing_ascend

-- ---- which pages are pinned

abbrev pinned_by : ℕ → Frame → Bool
pinned_by page f = get_or f.pins page false

-- the frame of an item that has a snapshot, or pins a page explicitly, is live
abbrev HasFrame : List Bool → (ℕ → ℕ) → List Frame → ℕ → FrameItem → Type 0
HasFrame resident installed_at frames n item =
    (f : Frame) × (frame_at n frames ≡ Some f) × IsFrameItem resident installed_at f item

frame-of : (resident : List Bool) (installed_at : ℕ → ℕ) (frames : List Frame) (items : List (ℕ × FrameItem)) (n : ℕ)
    (item : FrameItem)
    → AreFrames resident installed_at frames items → item_in items n ≡ Some item
    → ((item.snapshot ≡ None) → (item.pins ≡ record { named = []; missing = []; flags = [] }) → ⊥)
    → HasFrame resident installed_at frames n item
frame-of resident installed_at frames items n item are at some =
    pick (frame_at n frames) refl (subst (λ (o : Option FrameItem). IsItemOf resident installed_at
    (frame_at n frames) o) at (are.items n))
  where
    pick : (o : Option Frame) → frame_at n frames ≡ o → IsItemOf resident installed_at o (Some item)
        → HasFrame resident installed_at frames n item
    pick None is h = absurd (some h.snapshot h.pins)
    pick (Some f) is h = (f, is, h)

-- some live frame pins a resident page if its count of explicit pins is above 0, or if it was installed up to the
-- latest snapshot
pub is_pinned-counted : (s : State) (installed_at : ℕ → ℕ) (items : List (ℕ × FrameItem)) (latest : Option ℕ) (page : ℕ)
    → AreFrames s.resident installed_at s.frames items → IsLatest items latest → is_resident s page ≡ true
    → is_pinned s page ≡ (nat_lt 0 (pin_count items page) || is_in_snapshot latest (installed_at page))
is_pinned-counted s installed_at items latest page are is_latest resident = same-bools _ _ there back
  where
    covered : (snapshot last : Option ℕ) (n : ℕ) → snapshot_in (item_in items n) ≡ snapshot → IsLatest items last
        → is_in_snapshot snapshot (installed_at page) ≡ true → is_in_snapshot last (installed_at page) ≡ true
    covered None last n is top h = cc
    covered (Some c) None n is top h = let none = top n in cc
    covered (Some c) (Some l) n is top h =
        let below = top.1 n c is in
        let at : installed_at page ≤ c = grind (arith, nat_tests) in
        grind (arith, nat_tests)

    there : is_pinned s page ≡ true
        → (nat_lt 0 (pin_count items page) || is_in_snapshot latest (installed_at page)) ≡ true
    there h =
        let found = found-any (pinned_by page) s.frames are.distinct h in
        let item = at-frame s.resident installed_at s.frames items found.0 found.1 are found.2 in
        ⊎_elim
        (λ among.
        let some : nat_lt 0 (counted page item.0) ≡ true = sym (among-times (pinned_pages item.0.pins) page) ∙ among in
        let least = pin_count-least items found.0 item.0 page item.1 in
        let yes : nat_lt 0 (pin_count items page) ≡ true = grind (arith, nat_tests) in
        or-left (nat_lt 0 (pin_count items page)) (is_in_snapshot latest (installed_at page)) yes)
        (λ both.
        let parts = and-both (get_or s.resident page false) (is_in_snapshot item.0.snapshot (installed_at page)) both in
        or-right (nat_lt 0 (pin_count items page)) (is_in_snapshot latest (installed_at page))
        (covered item.0.snapshot latest found.0 (ap snapshot_in item.1) is_latest parts.1))
        (or-cases (is_among (pinned_pages item.0.pins) page)
        (get_or s.resident page false && is_in_snapshot item.0.snapshot (installed_at page))
        (sym (item.2.pins page) ∙ found.3))

    shown : (n : ℕ) (f : Frame) (item : FrameItem) → frame_at n s.frames ≡ Some f
        → IsFrameItem s.resident installed_at f item
        → (is_among (pinned_pages item.pins) page ||
        (get_or s.resident page false && is_in_snapshot item.snapshot (installed_at page))) ≡ true
        → is_pinned s page ≡ true
    shown n f item at is h = any-found (pinned_by page) n s.frames f at (is.pins page ∙ h)

    by_snapshot : (last : Option ℕ) → IsLatest items last → is_in_snapshot last (installed_at page) ≡ true
        → is_pinned s page ≡ true
    by_snapshot None top h = cc
    by_snapshot (Some l) top h = at_item (item_in items top.0.0) refl top.0.1
      where
        at_item : (o : Option FrameItem) → item_in items top.0.0 ≡ o → snapshot_in o ≡ Some l → is_pinned s page ≡ true
        at_item None at is = cc
        at_item (Some item) at is =
            let found = frame-of s.resident installed_at s.frames items top.0.0 item are at (λ none pins. cc) in
            let in_it : is_in_snapshot item.snapshot (installed_at page) ≡ true =
            ap (λ c. is_in_snapshot c (installed_at page)) is ∙ h in
            shown top.0.0 found.0 item found.1 found.2
            (or-right (is_among (pinned_pages item.pins) page)
            (get_or s.resident page false && is_in_snapshot item.snapshot (installed_at page))
            (ap (λ b. b && is_in_snapshot item.snapshot (installed_at page)) resident ∙ in_it))

    back : (nat_lt 0 (pin_count items page) || is_in_snapshot latest (installed_at page)) ≡ true
        → is_pinned s page ≡ true
    back h = ⊎_elim
        (λ count.
        let some : 0 < pin_count items page = grind (arith, nat_tests) in
        let item = pin_count-some items page are.ordered some in
        let found =
        frame-of s.resident installed_at s.frames items item.0 item.1 are item.2
        (λ none pins. let zero_times : counted page item.1 ≡ 0 =
        ap (λ (p : PinLists). times (pinned_pages p) page) pins in omega (arith, zero_times, item.3)) in
        let pos : nat_lt 0 (counted page item.1) ≡ true = let more = item.3 in grind (arith, nat_tests) in
        shown item.0 found.0 item.1 found.1 found.2
        (or-left (is_among (pinned_pages item.1.pins) page)
        (get_or s.resident page false && is_in_snapshot item.1.snapshot (installed_at page))
        (among-times (pinned_pages item.1.pins) page ∙ pos)))
        (λ covers. by_snapshot latest is_latest covers)
        (or-cases (nat_lt 0 (pin_count items page)) (is_in_snapshot latest (installed_at page)) h)

-- ---- what the item of a frame tells

abbrev IsTold : List Bool → (ℕ → ℕ) → (Frame → Bool) → (Option FrameItem → Bool) → Type 0
IsTold resident installed_at test answer =
    ((f : Frame) (item : FrameItem) → IsFrameItem resident installed_at f item → test f ≡ answer (Some item))

told : (resident : List Bool) (installed_at : ℕ → ℕ) (test : Frame → Bool) (answer : Option FrameItem → Bool)
    (f : Option Frame) (o : Option FrameItem)
    → IsItemOf resident installed_at f o → IsTold resident installed_at test answer → answer None ≡ false
    → ((item : FrameItem) → IsItemOf resident installed_at None (Some item) → answer (Some item) ≡ false)
    → passes test f ≡ answer o
told resident installed_at test answer None None is tells none ended = sym none
told resident installed_at test answer None (Some item) is tells none ended = sym (ended item is)
told resident installed_at test answer (Some f) None is tells none ended = absurd is
told resident installed_at test answer (Some f) (Some item) is tells none ended = tells f item is

pub owns-item : (s : State) (installed_at : ℕ → ℕ) (items : List (ℕ × FrameItem)) (by n : ℕ)
    → AreFrames s.resident installed_at s.frames items → owns s by n ≡ is_owned by (item_in items n)
owns-item s installed_at items by n are =
    any-numbered (λ f. f.owner == by) n s.frames are.distinct
    ∙ told s.resident installed_at (λ f. f.owner == by) (is_owned by) (frame_at n s.frames) (item_in items n)
    (are.items n)
    (λ f item is. sym (rw is.live (ap (λ owner. owner == by) is.owner)))
    refl
    (λ item is. rw is.ended refl)

pub is_live-item : (s : State) (installed_at : ℕ → ℕ) (items : List (ℕ × FrameItem)) (n : ℕ)
    → AreFrames s.resident installed_at s.frames items → is_live s.frames n ≡ is_live_in (item_in items n)
is_live-item s installed_at items n are =
    has_number-found n s.frames
    ∙ (some (frame_at n s.frames)
    ∙ told s.resident installed_at (λ f. true) is_live_in (frame_at n s.frames) (item_in items n) (are.items n)
    (λ f item is. sym (rw is.live refl))
    refl
    (λ item is. rw is.ended refl))
  where
    some : (o : Option Frame) → is_some o ≡ passes (λ f. true) o
    some None = refl
    some (Some f) = refl

pub pins-item : (s : State) (installed_at : ℕ → ℕ) (items : List (ℕ × FrameItem)) (n page : ℕ)
    → AreFrames s.resident installed_at s.frames items → is_live_in (item_in items n) ≡ true
    → pins s n page ≡ pins_page s.resident installed_at (item_in items n) page
pins-item s installed_at items n page are live =
    any-numbered (pinned_by page) n s.frames are.distinct
    ∙ pick (frame_at n s.frames) (item_in items n) (are.items n) live
  where
    pick : (f : Option Frame) (o : Option FrameItem) → IsItemOf s.resident installed_at f o → is_live_in o ≡ true
        → passes (pinned_by page) f ≡ pins_page s.resident installed_at o page
    pick None None is alive = refl
    pick None (Some item) is alive = let no : is_live_in (Some item) ≡ false = rw is.ended refl in cc
    pick (Some f) None is alive = absurd is
    pick (Some f) (Some item) is alive = is.pins page
