-- The page that the table finds to evict is the victim of the rules, where records and pins agree with the state.
use Rattle.std.proofs.Common.{◌≡◌, ℕ, ◌+◌, ◌-◌, ◌<◌, ◌≤◌, ◌==◌, nat_lt, List, [], Bool, true, false, not, ◌||◌, ◌&&◌}
use Rattle.std.proofs.Common.{inl, inr, ⊎_elim, Option, Some, None, get_or, length, refl, sym, ap, ◌∙◌, arith}
use Rattle.std.specs.List.{list_any, range_with_len}
use Rattle.std.proofs.lemmas.Bool.Decides.{nat_tests, Decides-ltb}
use Rattle.journal.specs.declared.layouts.Layout.{Layout}
use Rattle.journal.specs.Layout.{InBounds, uppers_of, is_upper}
use Rattle.pool_rules.specs.Numbers.{is_among}
use Rattle.pool_rules.specs.State.{State, is_resident, is_held}
use Rattle.pool_rules.specs.Victim.{last_used_of, is_pinned, is_stood_on, is_evictable, victim_for}
use Rattle.pool_rules.proofs.Flags.{place-within}
use Rattle.pool_rules.proofs.Lengths.{HasItemAPage}
use Rattle.pool_rules.proofs.Tests.{all-at_any, and-both}
use Rattle.pool_tables.specs.Eviction.{is_in_snapshot, is_candidate, may_be_evicted, IsFirst}
use Rattle.pool_tables.specs.PageRecords.{PageRecords, record_at}
use Rattle.pool_tables.specs.PoolPages.{dependent_count, ArePagesOf, ArePinsOf}
use Rattle.pool_tables.proofs.PageCounts.{count-none, any-from}
use Rattle.pool_tables.proofs.PoolPages.{resident-at, last_used-at}
use Rattle.pool_tables.proofs.Searches.{victim_for-from_first}

-- a page that has an upper is a page of the layout
upper-page : (uppers : List (List ℕ)) (upper page : ℕ) → is_among (get_or uppers page []) upper ≡ true →
    page < length uppers
upper-page uppers upper page h = place-within (λ (us : List ℕ). is_among us upper) uppers page [] refl h

-- an upper is below its page
pub upper-below : (layout : Layout) (upper page : ℕ) → InBounds layout → is_upper layout upper page ≡ true →
    upper < page
upper-below layout upper page bounds h =
    let fit = bounds.uppers page (upper-page layout.uppers upper page h) in
    (Decides-ltb upper page).0 (all-at_any (λ u. nat_lt u page) (uppers_of layout page) upper fit.1 h)

-- no root page depends on a page that is no root page
no-dependent : (layout : Layout) (page q : ℕ) → InBounds layout → layout.roots ≤ page → q < layout.roots →
    (b : Bool) → is_upper layout page q ≡ b → is_upper layout page q ≡ false
no-dependent layout page q bounds no_root root true h =
    absurd (omega (arith, upper-below layout page q bounds h, no_root, root))
no-dependent layout page q bounds no_root root false h = h

-- a page has no dependents where nothing depends on it
dependents-none : (layout : Layout) (s : State) (page : ℕ) → InBounds layout → layout.roots ≤ page →
    (dependent_count layout s page == 0) ≡ not (is_stood_on layout s page)
dependents-none layout s page bounds no_root =
    let test = λ (q : ℕ). is_held s q && is_upper layout page q in
    let others = layout.pages - layout.roots in
    let split : layout.pages ≡ layout.roots + others = omega (arith, bounds.counts.roots_are_pages) in
    let start : 0 + layout.roots ≡ layout.roots = omega arith in
    let later = any-from test 0 layout.roots others (λ q lt. last-false (is_held s q) (is_upper layout page q)
    (no-dependent layout page q bounds no_root (omega (arith, lt)) (is_upper layout page q) refl)) in
    count-none test (range_with_len layout.roots others)
    ∙ ap not (ap (λ n. list_any test (range_with_len n others)) (sym start)
    ∙ (sym later ∙ ap (λ n. list_any test (range_with_len 0 n)) (sym split)))
  where
    last-false : (a b : Bool) → b ≡ false → (a && b) ≡ false
    last-false true b h = h
    last-false false b h = refl

-- two ways to say that a page may be evicted: r resident, n no root page, p without pins by name, sn in the
-- snapshot, d without dependents, u an upper
same-tests : (r n p d sn u pinned stood : Bool) → (r ≡ true → pinned ≡ (not p || sn)) → (n ≡ true → d ≡ not stood) →
    (r && (n && ((p && (d && not sn)) && not u))) ≡ (r && (n && (not pinned && (not stood && not u))))
same-tests false n p d sn u pinned stood pins depends = refl
same-tests true false p d sn u pinned stood pins depends = refl
same-tests true true p d sn u pinned stood pins depends =
    rw (pins refl, depends refl) (by_cases p sn stood u)
  where
    by_cases : (p sn stood u : Bool) → ((p && (not stood && not sn)) && not u)
        ≡ (not (not p || sn) && (not stood && not u))
    by_cases false sn stood u = refl
    by_cases true true true u = refl
    by_cases true true false u = refl
    by_cases true false true u = refl
    by_cases true false false u = refl

no-root : (page roots : ℕ) → not (nat_lt page roots) ≡ true → roots ≤ page
no-root page roots h = grind (arith, nat_tests)

evictable-same : (layout : Layout) (s : State) (table : PageRecords) (page : ℕ) (snapshot : Option ℕ) →
    InBounds layout → ArePagesOf layout s table → ArePinsOf s snapshot table.records → (q : ℕ) →
    may_be_evicted table snapshot (uppers_of layout page) q ≡ is_evictable layout s page q
evictable-same layout s table page snapshot bounds are pins q =
    let r = record_at table.records q in
    let rest = is_candidate table.records snapshot (uppers_of layout page) q in
    ap (λ b. b && (not (nat_lt q table.roots) && rest)) (resident-at layout s table are q)
    ∙ (ap (λ roots. is_resident s q && (not (nat_lt q roots) && rest)) are.roots
    ∙ same-tests (is_resident s q) (not (nat_lt q layout.roots)) (r.pins == 0) (r.dependents == 0)
    (is_in_snapshot snapshot r.installed_at) (is_upper layout q page) (is_pinned s q) (is_stood_on layout s q)
    (pins q)
    (λ above. ap (λ n. n == 0) (are.dependents q) ∙ dependents-none layout s q bounds (no-root q layout.roots above)))

IsFirst-same : (f g : ℕ → ℕ) (test other : ℕ → Bool) (found : Option ℕ) → ((q : ℕ) → f q ≡ g q) →
    ((q : ℕ) → test q ≡ other q) → IsFirst f test found → IsFirst g other found
IsFirst-same f g test other None used same none = λ q. sym (same q) ∙ none q
IsFirst-same f g test other (Some page) used same first = (
  sym (same page) ∙ first.0,
  λ q passes ne. ⊎_elim
      (λ less. inl (omega (arith, used page, used q, less)))
      (λ tie. inr (sym (used page) ∙ (tie.0 ∙ used q), tie.1))
      (first.1 q (same q ∙ passes) ne),
)

evictable-page : (layout : Layout) (s : State) (page : ℕ) → HasItemAPage layout s → (q : ℕ) →
    is_evictable layout s page q ≡ true → q < layout.pages
evictable-page layout s page lists q h =
    let resident = (and-both (is_resident s q) _ h).0 in
    omega (arith, place-within (λ (b : Bool). b) s.resident q false refl resident, lists.flag_a_page)

-- what `first_evictable` answers
pub victim_for-first_evictable : (layout : Layout) (s : State) (table : PageRecords) (page : ℕ) (snapshot : Option ℕ)
    (found : Option ℕ) →
    InBounds layout → HasItemAPage layout s → ArePagesOf layout s table → ArePinsOf s snapshot table.records →
    IsFirst (λ p. (record_at table.records p).last_used) (may_be_evicted table snapshot (uppers_of layout page)) found →
    victim_for layout s page ≡ found
victim_for-first_evictable layout s table page snapshot found bounds lists are pins first =
    victim_for-from_first layout s page found (evictable-page layout s page lists)
    (IsFirst-same (λ p. (record_at table.records p).last_used) (last_used_of s)
    (may_be_evicted table snapshot (uppers_of layout page)) (is_evictable layout s page) found
    (last_used-at layout s table are) (evictable-same layout s table page snapshot bounds are pins) first)
