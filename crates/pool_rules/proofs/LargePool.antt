-- Where the slots are at least the pages, a page that can be taken has a free slot.
use Rattle.std.proofs.Common.{◌≡◌, ℕ, zero, suc, ◌+◌, ◌<◌, ◌≤◌, nat_lt, ◌==◌, List, [], ◌∷◌, Bool, true, false, not}
use Rattle.std.proofs.Common.{cond, ◌&&◌, Option, Some, None, is_some, find, get_or, length, refl, ap, arith}
use Rattle.std.proofs.lemmas.Bool.Decides.{Decides-ltb}
use Rattle.std.proofs.lemmas.List.Elements.{All-nil, All-head, All-tail, All-append, All-filter, All-map}
use Rattle.std.proofs.lemmas.List.Sums.{sum_by-cons}
use Rattle.std.specs.List.{All, count_by, list_all}
use Rattle.journal.specs.declared.entries.Entry.{Entry}
use Rattle.journal.specs.declared.entries.What.{What}
use Rattle.journal.specs.declared.entries.What.TheVariants.{Pin, Settle, Ask, Narrow, Unpin, Take, Install, Fail, Spoil}
use Rattle.journal.specs.declared.entries.What.TheVariants.{Starve, Full, Stop}
use Rattle.journal.specs.declared.layouts.Layout.{Layout}
use Rattle.journal.specs.Layout.{InBounds, all_below, uppers_of}
use Rattle.pool_rules.specs.declared.next_load.Next.TheVariants as Next
use Rattle.pool_rules.specs.declared.want.Want.{Want}
use Rattle.pool_rules.specs.Next.{is_want_for, can_take, is_takeable, first_takeable, first_loading, next_with, next_at}
use Rattle.pool_rules.specs.Next.{busy_with, next_without, next_of, next_after, is_full}
use Rattle.pool_rules.specs.Rules.{allows, IsLegal}
use Rattle.pool_rules.specs.Sound.{IsSound}
use Rattle.pool_rules.specs.State.{State, is_resident, is_loading, is_held, held_count, is_live, wants_after, wants_of}
use Rattle.pool_rules.specs.State.{wants_of_others, wants_without, state_of}
use Rattle.pool_rules.specs.Victim.{victim_for}
use Rattle.pool_rules.proofs.Arms.{settle-parts, ask-parts}
use Rattle.pool_rules.proofs.LegalJournals.{state_of-push, legal-keeps}
use Rattle.pool_rules.proofs.Lengths.{HasItemAPage, HasItemAPage-state_of}
use Rattle.pool_rules.proofs.Soundness.{IsSound-state_of, held-not}
use Rattle.pool_rules.proofs.Tests.{all-pass, and-both, not-false, find-passes}

-- ---- the wants are of pages of the layout

abbrev IsPage : Layout → ℕ → Type 0
IsPage layout page = nat_lt page layout.pages ≡ true

abbrev ArePages : Layout → List Want → Type 0
ArePages layout wants = All (λ want. IsPage layout want.page) wants

wants_of-pages : (layout : Layout) (frame : ℕ) (settled : Bool) (pages : List ℕ) → all_below layout.pages pages ≡ true →
    ArePages layout (wants_of frame settled pages)
wants_of-pages layout frame settled pages h =
    All-map (λ want. IsPage layout want.page) (λ page. record { frame = frame; page = page; settled = settled }) pages
    (all-pass (λ n. nat_lt n layout.pages) pages h)

others-pages : (layout : Layout) (s : State) (frame : ℕ) → ArePages layout s.wants →
    ArePages layout (wants_of_others s frame)
others-pages layout s frame pages =
    All-filter (λ w. not (w.frame == frame) && is_live s.frames w.frame) (λ want. IsPage layout want.page) s.wants pages

without-pages : (layout : Layout) (page : ℕ) (wants : List Want) → ArePages layout wants →
    ArePages layout (wants_without page wants)
without-pages layout page wants pages =
    All-filter (λ w. not (w.page == page)) (λ want. IsPage layout want.page) wants pages

pages-after : (layout : Layout) (s : State) (journal : List Entry) (by : ℕ) (what : What) → ArePages layout s.wants →
    allows layout s journal by what ≡ true → ArePages layout (wants_after s what)
pages-after layout s journal by (Pin frame) all h = all
pages-after layout s journal by (Settle frame pages missing) all h =
    All-append (λ want. IsPage layout want.page) (wants_of_others s frame) (wants_of frame true missing)
    (others-pages layout s frame all) (wants_of-pages layout frame true missing
    (settle-parts layout s journal by frame pages missing h).missing_list.below)
pages-after layout s journal by (Ask frame pages) all h =
    All-append (λ want. IsPage layout want.page) (wants_of_others s frame) (wants_of frame false pages)
    (others-pages layout s frame all) (wants_of-pages layout frame false pages
    (ask-parts layout s journal by frame pages h).page_list.below)
pages-after layout s journal by (Narrow frame pages) all h = all
pages-after layout s journal by (Unpin frame) all h = all
pages-after layout s journal by (Take frame page victim) all h = all
pages-after layout s journal by (Install page digest) all h = without-pages layout page s.wants all
pages-after layout s journal by (Fail page before after) all h = without-pages layout page s.wants all
pages-after layout s journal by (Spoil page why) all h = without-pages layout page s.wants all
pages-after layout s journal by (Starve page) all h = without-pages layout page s.wants all
pages-after layout s journal by (Full frame) all h = all
pages-after layout s journal by Stop all h = all

-- after every legal journal each want is of a page of the layout
pub wants-pages : (layout : Layout) (journal : List Entry) → IsLegal layout journal →
    All (λ want. nat_lt want.page layout.pages ≡ true) (state_of layout journal).wants
wants-pages layout journal legal =
    legal-keeps layout (λ j. ArePages layout (state_of layout j).wants)
    (λ j e allowed pages. rw (state_of-push layout j e)
    (pages-after layout (state_of layout j) j e.by e.what pages allowed))
    (All-nil (λ want. IsPage layout want.page)) journal legal

-- ---- how many pages are held

abbrev AreApart : List Bool → List (Option ℕ) → Type 0
AreApart resident loading =
    (page : ℕ) → get_or resident page false ≡ true → is_some (get_or loading page None) ≡ true → ⊥

abbrev held : List Bool → List (Option ℕ) → ℕ
held resident loading = count_by (λ b. b) resident + count_by is_some loading

later-apart : (r : Bool) (l : Option ℕ) (resident : List Bool) (loading : List (Option ℕ)) →
    AreApart (r ∷ resident) (l ∷ loading) → AreApart resident loading
later-apart r l resident loading apart = λ page res load. apart (suc page) res load

abbrev one : Bool → ℕ
one b = cond b 1 0

held-cons : (r : Bool) (l : Option ℕ) (resident : List Bool) (loading : List (Option ℕ)) →
    held (r ∷ resident) (l ∷ loading) ≡ (one r + one (is_some l)) + held resident loading
held-cons r l resident loading =
    omega (arith, sum_by-cons one r resident, sum_by-cons (λ m. one (is_some {T = ℕ} m)) l loading)

not-both : (r l : Bool) → (r ≡ true → l ≡ true → ⊥) → one r + one l ≤ 1
not-both true true both = absurd (both refl refl)
not-both true false both = omega arith
not-both false true both = omega arith
not-both false false both = omega arith

none-held : (r l : Bool) → r ≡ false → l ≡ false → one r + one l ≡ 0
none-held true l absent idle = cc
none-held false true absent idle = cc
none-held false false absent idle = refl

-- no page is held twice
apart-held : (resident : List Bool) (loading : List (Option ℕ)) → length resident ≡ length loading →
    AreApart resident loading → held resident loading ≤ length resident
apart-held [] [] same apart = omega arith
apart-held [] (l ∷ loading) same apart = absurd (omega arith)
apart-held (r ∷ resident) [] same apart = absurd (omega arith)
apart-held (r ∷ resident) (l ∷ loading) same apart =
    omega (
      arith,
      held-cons r l resident loading,
      not-both r (is_some l) (apart 0),
      apart-held resident loading
          (omega arith) (later-apart r l resident loading apart),
    )

-- and where some page is not held, fewer are held than there are
free-held : (resident : List Bool) (loading : List (Option ℕ)) (free : ℕ) → length resident ≡ length loading →
    AreApart resident loading → free < length resident → get_or resident free false ≡ false →
    is_some (get_or loading free None) ≡ false → held resident loading < length resident
free-held [] loading free same apart below absent idle = absurd (omega arith)
free-held (r ∷ resident) [] free same apart below absent idle = absurd (omega arith)
free-held (r ∷ resident) (l ∷ loading) zero same apart below absent idle =
    omega (
      arith,
      held-cons r l resident loading,
      none-held r (is_some l) absent idle,
      apart-held resident loading
          (omega arith) (later-apart r l resident loading apart),
    )
free-held (r ∷ resident) (l ∷ loading) (suc free) same apart below absent idle =
    omega (
      arith,
      held-cons r l resident loading,
      not-both r (is_some l) (apart 0),
      free-held resident loading free
          (omega arith) (later-apart r l resident loading apart) (omega arith) absent idle,
    )

-- ---- what comes next

-- what each element is, the first that passes is
found-is : {X : Type 0} (P : X → Type 0) (test : X → Bool) (xs : List X) (x : X) → All P xs → find test xs ≡ Some x →
    P x
found-is P test [] x all h = cc
found-is {X} P test (y ∷ xs) x all h =
    elim (test y) as (λ b. cond b (Some y) (find test xs) ≡ Some x → P x) [
      | true ↦ λ k. let same : y ≡ x = cc in rw same at (All-head P y xs all)
      | false ↦ λ k. found-is P test xs x (All-tail P y xs all) k
    ] h

busy-not_full : (want : Option Want) → is_full (busy_with want) ≡ false
busy-not_full None = refl
busy-not_full (Some want) = refl

without-not_full : (s : State) (frame : Option ℕ) → is_full (next_without s frame) ≡ false
without-not_full s None = refl
without-not_full s (Some frame) = busy-not_full (first_loading s frame)

at-not_full : (layout : Layout) (s : State) (page : ℕ) → held_count s < layout.slots →
    is_full (next_at layout s page) ≡ false
at-not_full layout s page free =
    let e : nat_lt (held_count s) layout.slots ≡ true = (Decides-ltb (held_count s) layout.slots).1 free in
    ap (λ b. is_full (cond b (Next.Take page None) (next_with page (victim_for layout s page)))) e

-- a page of the layout that is not held leaves a slot free
free-slot : (layout : Layout) (s : State) (page : ℕ) → HasItemAPage layout s → IsSound layout s →
    layout.pages ≤ layout.slots → nat_lt page layout.pages ≡ true → can_take layout s page ≡ true →
    held_count s < layout.slots
free-slot layout s page lists sound large below can =
    let absent = held-not (is_resident s page) (is_loading s page)
    (not-false (is_held s page) (and-both (not (is_held s page)) (list_all (is_resident s) (uppers_of layout page))
    can).0) in
    let lt = (Decides-ltb page layout.pages).0 below in
    let flags = lists.flag_a_page in
    let makers = lists.maker_a_page in
    let fewer : held_count s < length s.resident =
    free-held s.resident s.loading page (omega arith) sound.apart (omega arith) absent.0 absent.1 in
    omega arith

next_of-not_full : (layout : Layout) (s : State) (frame : Option ℕ) (want : Option Want) → HasItemAPage layout s →
    IsSound layout s → ArePages layout s.wants → layout.pages ≤ layout.slots → first_takeable layout s frame ≡ want →
    is_full (next_of layout s frame want) ≡ false
next_of-not_full layout s frame None lists sound pages large first = without-not_full s frame
next_of-not_full layout s frame (Some want) lists sound pages large first =
    let passes = find-passes (is_takeable layout s frame) s.wants want first in
    let can = (and-both (is_want_for frame want) (can_take layout s want.page) passes).1 in
    at-not_full layout s want.page (free-slot layout s want.page lists sound large
    (found-is (λ w. IsPage layout w.page) (is_takeable layout s frame) s.wants want pages first) can)

-- no frame is told that a pool is full that has a slot for each page
pub next_after-not_full : (layout : Layout) (journal : List Entry) (frame : Option ℕ) → InBounds layout →
    IsLegal layout journal → layout.pages ≤ layout.slots → is_full (next_after layout journal frame) ≡ false
next_after-not_full layout journal frame bounds legal large =
    let s = state_of layout journal in
    next_of-not_full layout s frame (first_takeable layout s frame) (HasItemAPage-state_of layout journal)
    (IsSound-state_of layout journal bounds legal) (wants-pages layout journal legal) large refl
