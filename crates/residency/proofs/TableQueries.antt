-- What the tables tell is what the rules say of the state.
use Rattle.std.proofs.Common.{◌≡◌, ◌==◌, ◌<◌, ℕ, zero, suc, List, [], ◌∷◌, Bool, true, false, not, ◌&&◌, ◌||◌, nat_lt}
use Rattle.std.proofs.Common.{Option, None, Some, is_some, get_or, length, count_by, find, refl, sym, ap, ◌∙◌, arith}
use Rattle.std.specs.List.{list_all, list_any}
use Rattle.std.proofs.lemmas.Bool.Decides.{nat_tests}
use Rattle.journal.specs.Layout.{InBounds, ascends, uppers_of}
use Rattle.journal.specs.declared.entries.Entry.{Entry}
use Rattle.journal.specs.declared.entries.What.TheVariants.{Narrow, Take}
use Rattle.journal.specs.declared.layouts.Layout.{Layout}
use Rattle.pool_rules.specs.Next.{first_loading, first_takeable, is_take, next_in}
use Rattle.pool_rules.specs.Numbers.{holds}
use Rattle.pool_rules.specs.Rules.{all_resident, allows, any_resident, loads, owns, pins}
use Rattle.pool_rules.specs.State.{State, held_count, is_resident, state_of}
use Rattle.pool_rules.specs.Victim.{victim_after}
use Rattle.pool_rules.proofs.Lengths.{HasItemAPage-state_of}
use Rattle.pool_rules.proofs.Soundness.{IsSound-state_of}
use Rattle.pool_tables.specs.Eviction.{IsFirst, is_in_snapshot, may_be_evicted}
use Rattle.pool_tables.specs.FrameItems.{IsLatest, item_of}
use Rattle.pool_tables.specs.FrameQueries.{is_live_in, is_owned}
use Rattle.pool_tables.specs.PageRecords.{is_record_held, record_at}
use Rattle.pool_tables.specs.PoolPages.{ArePinsOf, loader_number}
use Rattle.pool_tables.specs.declared.frame_item.FrameItem.{FrameItem}
use Rattle.pool_tables.proofs.PageRanges.{held-count}
use Rattle.pool_tables.proofs.PinCounts.{is_pinned-counted, owns-item, pins-item}
use Rattle.pool_tables.proofs.PoolPages.{loader-at, loading-at, resident-at}
use Rattle.pool_tables.proofs.Victims.{victim_for-first_evictable}
use Rattle.pool_tables.specs.WantQueue.{counts_in, is_loading_in, is_takeable_in, standing}
use Rattle.pool_tables.proofs.WantSearches.{SayHeld, first_loading-state, first_takeable-state}
use Rattle.residency.specs.Internal.Tables.{AreLegalTables, AreTables, installed_at, pins_by_records}
use Rattle.residency.specs.declared.tables.Tables.{Tables}

-- ---- frames

pub owns-told : (layout : Layout) (journal : List Entry) (tables : Tables) (by frame : ℕ) →
    AreTables layout journal tables →
    is_owned by (item_of tables.frames frame) ≡ owns (state_of layout journal) by frame
owns-told layout journal tables by frame are =
    sym (owns-item (state_of layout journal) (installed_at tables.pages.records) tables.frames.items by frame
    are.frames.frames)

all-alike : (p q : ℕ → Bool) (ns : List ℕ) → ((n : ℕ) → p n ≡ q n) → list_all p ns ≡ list_all q ns
all-alike p q [] same = refl
all-alike p q (n ∷ ns) same =
    ap (λ b. b && list_all p ns) (same n) ∙ ap (λ b. q n && b) (all-alike p q ns same)

any-alike : (p q : ℕ → Bool) (ns : List ℕ) → ((n : ℕ) → p n ≡ q n) → list_any p ns ≡ list_any q ns
any-alike p q [] same = refl
any-alike p q (n ∷ ns) same =
    ap (λ b. b || list_any p ns) (same n) ∙ ap (λ b. q n || b) (any-alike p q ns same)

-- an owned frame is live
owned-live : (by : ℕ) (item : FrameItem) → is_owned by (Some item) ≡ true → is_live_in (Some item) ≡ true
owned-live by item h = live (not (is_some item.ended_at)) (item.owner.0 == by) h
  where
    live : (a b : Bool) → (a && b) ≡ true → a ≡ true
    live true b h = refl
    live false b h = h

pins-told : (layout : Layout) (journal : List Entry) (tables : Tables) (frame : ℕ) (item : FrameItem) →
    AreTables layout journal tables → item_of tables.frames frame ≡ Some item → is_live_in (Some item) ≡ true →
    (page : ℕ) → pins_by_records tables.pages.records item page ≡ pins (state_of layout journal) frame page
pins-told layout journal tables frame item are at live page =
    let s = state_of layout journal in
    let records = tables.pages.records in
    let live_at : is_live_in (item_of tables.frames frame) ≡ true = ap is_live_in at ∙ live in
    let told = pins-item s (installed_at records) tables.frames.items frame page are.frames.frames live_at in
    let told_item = rw at at told in
    rw (resident-at layout s tables.pages are.pages.pages page) (sym told_item)

pub narrow-told : (layout : Layout) (journal : List Entry) (tables : Tables) (by frame : ℕ) (pages : List ℕ)
    (item : FrameItem) → AreTables layout journal tables → item_of tables.frames frame ≡ Some item →
    (is_owned by (Some item)
    && (ascends pages && list_all (pins_by_records tables.pages.records item) pages))
    ≡ allows layout (state_of layout journal) journal by (Narrow frame pages)
narrow-told layout journal tables by frame pages item are at =
    let s = state_of layout journal in
    let own : is_owned by (Some item) ≡ owns s by frame =
    sym (ap (is_owned by) at) ∙ owns-told layout journal tables by frame are in
    elim (is_owned by (Some item)) as (λ b. is_owned by (Some item) ≡ b →
    (b && (ascends pages && list_all (pins_by_records tables.pages.records item) pages))
    ≡ (owns s by frame && (ascends pages && list_all (pins s frame) pages))) [
      | true ↦ λ e. rw (sym own ∙ e)
          (ap (λ b. ascends pages && b) (all-alike (pins_by_records tables.pages.records item) (pins s frame) pages
          (pins-told layout journal tables frame item are at (owned-live by item e))))
      | false ↦ λ e. rw (sym own ∙ e) refl
    ] refl

-- ---- pages

pub loads-told : (layout : Layout) (journal : List Entry) (tables : Tables) (by page : ℕ) →
    AreTables layout journal tables →
    holds (loader_number (record_at tables.pages.records page)) by ≡ loads (state_of layout journal) by page
loads-told layout journal tables by page are =
    ap (λ o. holds o by) (loader-at layout (state_of layout journal) tables.pages are.pages.pages page)

pub all_resident-told : (layout : Layout) (journal : List Entry) (tables : Tables) (pages : List ℕ) →
    AreTables layout journal tables →
    list_all (λ p. (record_at tables.pages.records p).resident) pages ≡ all_resident (state_of layout journal) pages
all_resident-told layout journal tables pages are =
    all-alike (λ p. (record_at tables.pages.records p).resident) (is_resident (state_of layout journal)) pages
    (resident-at layout (state_of layout journal) tables.pages are.pages.pages)

pub any_resident-told : (layout : Layout) (journal : List Entry) (tables : Tables) (pages : List ℕ) →
    AreTables layout journal tables →
    list_any (λ p. (record_at tables.pages.records p).resident) pages ≡ any_resident (state_of layout journal) pages
any_resident-told layout journal tables pages are =
    any-alike (λ p. (record_at tables.pages.records p).resident) (is_resident (state_of layout journal)) pages
    (resident-at layout (state_of layout journal) tables.pages are.pages.pages)

pub SayHeld-told : (layout : Layout) (journal : List Entry) (tables : Tables) → AreTables layout journal tables →
    SayHeld tables.pages.records (state_of layout journal)
SayHeld-told layout journal tables are = record {
  resident = resident-at layout (state_of layout journal) tables.pages are.pages.pages;
  loading = loading-at layout (state_of layout journal) tables.pages are.pages.pages;
}

pub held-told : (layout : Layout) (journal : List Entry) (tables : Tables) → AreLegalTables layout journal tables →
    count_by is_record_held tables.pages.records ≡ held_count (state_of layout journal)
held-told layout journal tables past =
    held-count layout (state_of layout journal) tables.pages
    (IsSound-state_of layout journal past.in_bounds past.legal) past.tables.pages.pages

-- ---- the page to evict

uppers-ascend_from : (us : List (List ℕ)) (page : ℕ) → ((p : ℕ) → p < length us → ascends (get_or us p []) ≡ true) →
    ascends (get_or us page []) ≡ true
uppers-ascend_from [] page each = refl
uppers-ascend_from (u ∷ us) zero each = each 0 (omega arith)
uppers-ascend_from (u ∷ us) (suc page) each = uppers-ascend_from us page
    (λ p below. each (suc p) (omega (arith, below)))

pub uppers-ascend : (layout : Layout) (page : ℕ) → InBounds layout → ascends (uppers_of layout page) ≡ true
uppers-ascend layout page bounds = uppers-ascend_from layout.uppers page (λ p below. (bounds.uppers p below).0)

some-count : (n : ℕ) → nat_lt 0 n ≡ not (n == 0)
some-count zero = refl
some-count (suc n) =
    let some : nat_lt 0 (suc n) ≡ true = grind (arith, nat_tests) in
    let other : (suc n == 0) ≡ false = grind (arith, nat_tests) in
    rw (some, other) refl

ArePinsOf-told : (layout : Layout) (journal : List Entry) (tables : Tables) (latest : Option ℕ) →
    AreTables layout journal tables → IsLatest tables.frames.items latest →
    ArePinsOf (state_of layout journal) latest tables.pages.records
ArePinsOf-told layout journal tables latest are is_latest = λ page resident.
    let s = state_of layout journal in
    let records = tables.pages.records in
    let counted = is_pinned-counted s (installed_at records) tables.frames.items latest page are.frames.frames is_latest
    resident in
    counted ∙ ap (λ b. b || is_in_snapshot latest (installed_at records page))
    (ap (λ n. nat_lt 0 n) (sym (are.pages.pins page)) ∙ some-count (record_at records page).pins)

pub victim-told : (layout : Layout) (journal : List Entry) (tables : Tables) (page : ℕ) (latest found : Option ℕ) →
    AreLegalTables layout journal tables → IsLatest tables.frames.items latest →
    IsFirst (λ p. (record_at tables.pages.records p).last_used)
    (may_be_evicted tables.pages latest (uppers_of layout page)) found →
    found ≡ victim_after layout journal page
victim-told layout journal tables page latest found past is_latest first =
    sym (victim_for-first_evictable layout (state_of layout journal) tables.pages page latest found past.in_bounds
    (HasItemAPage-state_of layout journal) past.tables.pages.pages
    (ArePinsOf-told layout journal tables latest past.tables is_latest) first)

-- ---- wants

pub first_takeable-told : (layout : Layout) (journal : List Entry) (tables : Tables) (frame : Option ℕ) →
    AreLegalTables layout journal tables →
    find (is_takeable_in layout tables.pages.records frame)
    (standing (counts_in tables.pages.records tables.frames) tables.wants.wants)
    ≡ first_takeable layout (state_of layout journal) frame
first_takeable-told layout journal tables frame past =
    first_takeable-state layout tables.pages.records (state_of layout journal) frame
    (standing (counts_in tables.pages.records tables.frames) tables.wants.wants)
    (SayHeld-told layout journal tables past.tables) past.tables.wants.wants.standing

pub first_loading-told : (layout : Layout) (journal : List Entry) (tables : Tables) (frame : ℕ) →
    AreLegalTables layout journal tables →
    find (is_loading_in tables.pages.records frame)
    (standing (counts_in tables.pages.records tables.frames) tables.wants.wants)
    ≡ first_loading (state_of layout journal) frame
first_loading-told layout journal tables frame past =
    first_loading-state tables.pages.records (state_of layout journal) frame
    (standing (counts_in tables.pages.records tables.frames) tables.wants.wants)
    (SayHeld-told layout journal tables past.tables) past.tables.wants.wants.standing

pub narrow-none : (layout : Layout) (journal : List Entry) (tables : Tables) (by frame : ℕ) (pages : List ℕ) →
    AreTables layout journal tables → item_of tables.frames frame ≡ None →
    false ≡ allows layout (state_of layout journal) journal by (Narrow frame pages)
narrow-none layout journal tables by frame pages are at =
    let none : owns (state_of layout journal) by frame ≡ false =
    sym (owns-told layout journal tables by frame are) ∙ ap (is_owned by) at in
    rw none refl

-- ---- takes

pub take-refused : (layout : Layout) (s : State) (journal : List Entry) (by : ℕ) (frame : Option ℕ) (page : ℕ)
    (victim : Option ℕ) → (not s.stopped && is_take (next_in layout s frame) page victim) ≡ false →
    false ≡ allows layout s journal by (Take frame page victim)
take-refused layout s journal by None page victim h = sym h
take-refused layout s journal by (Some frame) page victim h =
    refused (not s.stopped) (is_take (next_in layout s (Some frame)) page victim) (owns s by frame) h
  where
    refused : (a b c : Bool) → (a && b) ≡ false → false ≡ (a && (b && c))
    refused true b c h = rw h refl
    refused false b c h = refl

pub take-owned : (layout : Layout) (s : State) (journal : List Entry) (by frame page : ℕ) (victim : Option ℕ) →
    (not s.stopped && is_take (next_in layout s (Some frame)) page victim) ≡ true →
    owns s by frame ≡ allows layout s journal by (Take (Some frame) page victim)
take-owned layout s journal by frame page victim h =
    granted (not s.stopped) (is_take (next_in layout s (Some frame)) page victim) (owns s by frame) h
  where
    granted : (a b c : Bool) → (a && b) ≡ true → c ≡ (a && (b && c))
    granted true b c h = rw h refl
    granted false b c h = cc

pub take-for_all : (layout : Layout) (s : State) (journal : List Entry) (by page : ℕ) (victim : Option ℕ) →
    (not s.stopped && is_take (next_in layout s None) page victim) ≡ true →
    true ≡ allows layout s journal by (Take None page victim)
take-for_all layout s journal by page victim h = sym h
