-- The first page that a search through the order of use finds comes first of all that pass.
use Rattle.std.proofs.Common.{◌≡◌, ◌≢◌, ℕ, ◌<◌, ◌==◌, nat_lt, List, [], ◌∷◌, Bool, true, false, not, cond, ◌&&◌, inl}
use Rattle.std.proofs.Common.{inr, ⊎_elim, Option, Some, None, find, refl, sym, ap, ◌∙◌, subst, arith, eq-eqb}
use Rattle.std.proofs.lemmas.Bool.{cases_eq}
use Rattle.journal.specs.declared.layouts.Layout.{Layout}
use Rattle.pool_rules.specs.Numbers.{is_among}
use Rattle.pool_rules.specs.State.{State}
use Rattle.pool_rules.specs.Victim.{last_used_of, is_evictable, victim_for, IsLessRecent}
use Rattle.pool_rules.proofs.Stalest.{IsVictim-from_some, HasNoVictim-from_none}
use Rattle.pool_rules.proofs.Tests.{or-cases, or-left, or-right, same-eqb, and-both}
use Rattle.pool_tables.specs.ListedPages.{ListedPages}
use Rattle.pool_tables.specs.PageRecords.{PageRecords, record_at}
use Rattle.pool_tables.specs.Eviction.{is_candidate, may_be_evicted, ComesBefore, IsFirst}
use Rattle.pool_tables.specs.Internal.UseOrder.{AreInOrder, used_at, IsUseOrder}
use Rattle.pool_tables.proofs.Apart.{all-among}

-- where none is found, none passes
pub find-none : (test : ℕ → Bool) (pages : List ℕ) (q : ℕ) → find test pages ≡ None → is_among pages q ≡ true →
    test q ≡ false
find-none test [] q none among = cc
find-none test (page ∷ pages) q none among =
    elim (test page) as (λ b. test page ≡ b → cond b (Some page) (find test pages) ≡ None → test q ≡ false) [
      | true ↦ λ passes k. cc
      | false ↦ λ fails k. ⊎_elim
          (λ here. subst (λ p. test p ≡ false) (same-eqb page q here) fails)
          (λ later. find-none test pages q k later)
          (or-cases (page == q) (is_among pages q) among)
    ] refl none

-- what is found passes, and comes before all others that pass
pub record IsFound (last_used : ℕ → ℕ) (test : ℕ → Bool) (pages : List ℕ) (page : ℕ) : Type 0 where
  pub among : is_among pages page ≡ true
  pub passes : test page ≡ true
  pub first : (q : ℕ) → is_among pages q ≡ true → test q ≡ true → q ≢ page → ComesBefore last_used page q

found-here : (last_used : ℕ → ℕ) (test : ℕ → Bool) (page : ℕ) (pages : List ℕ) → AreInOrder last_used (page ∷ pages) →
    test page ≡ true → IsFound last_used test (page ∷ pages) page
found-here last_used test page pages ordered passes = record {
  among = or-left (page == page) (is_among pages page) (eq-eqb page page refl);
  passes = passes;
  first = λ q among also ne. ⊎_elim
      (λ here. absurd (ne (sym (same-eqb page q here))))
      (λ later. all-among (ComesBefore last_used page) pages q ordered.0 later)
      (or-cases (page == q) (is_among pages q) among);
}

found-later : (last_used : ℕ → ℕ) (test : ℕ → Bool) (page p : ℕ) (pages : List ℕ) → test page ≡ false →
    IsFound last_used test pages p → IsFound last_used test (page ∷ pages) p
found-later last_used test page p pages fails rest = record {
  among = or-right (page == p) (is_among pages p) rest.among;
  passes = rest.passes;
  first = λ q among also ne. ⊎_elim
      (λ here. let fails_too : test q ≡ false = subst (λ r. test r ≡ false) (same-eqb page q here) fails in cc)
      (λ later. rest.first q later also ne)
      (or-cases (page == q) (is_among pages q) among);
}

pub IsFound-from_find : (last_used : ℕ → ℕ) (test : ℕ → Bool) (pages : List ℕ) (p : ℕ) → AreInOrder last_used pages →
    find test pages ≡ Some p → IsFound last_used test pages p
IsFound-from_find last_used test [] p ordered found = cc
IsFound-from_find last_used test (page ∷ pages) p ordered found =
    elim (test page) as (λ b. test page ≡ b → cond b (Some page) (find test pages) ≡ Some p →
    IsFound last_used test (page ∷ pages) p) [
      | true ↦ λ passes k. let same : page ≡ p = cc in
          subst (λ q. IsFound last_used test (page ∷ pages) q) same
          (found-here last_used test page pages ordered passes)
      | false ↦ λ fails k. found-later last_used test page p pages fails
          (IsFound-from_find last_used test pages p ordered.1 k)
    ] refl found

-- the first candidate in the order of use is the first of the pages that may be evicted
pub IsFirst-from_find : (table : PageRecords) (order : ListedPages) (snapshot : Option ℕ) (uppers : List ℕ)
    (found : Option ℕ) → IsUseOrder table.roots table.records order →
    find (is_candidate table.records snapshot uppers) order.pages ≡ found →
    IsFirst (used_at table.records) (may_be_evicted table snapshot uppers) found
IsFirst-from_find table order snapshot uppers None is_order none = λ q.
    by_listed q (is_among order.pages q) refl
  where
    both-first : (a b c : Bool) → (a && b) ≡ false → (a && (b && c)) ≡ false
    both-first true b c h = rw h refl
    both-first false b c h = refl

    both-last : (a b c : Bool) → c ≡ false → (a && (b && c)) ≡ false
    both-last true true c h = h
    both-last true false c h = refl
    both-last false b c h = refl

    by_listed : (q : ℕ) (b : Bool) → is_among order.pages q ≡ b → may_be_evicted table snapshot uppers q ≡ false
    by_listed q true among = both-last (record_at table.records q).resident (not (nat_lt q table.roots))
        (is_candidate table.records snapshot uppers q)
        (find-none (is_candidate table.records snapshot uppers) order.pages q none among)
    by_listed q false absent = both-first (record_at table.records q).resident (not (nat_lt q table.roots))
        (is_candidate table.records snapshot uppers q) (sym (is_order.listed q) ∙ absent)
IsFirst-from_find table order snapshot uppers (Some page) is_order some =
    let test = is_candidate table.records snapshot uppers in
    let found = IsFound-from_find (used_at table.records) test order.pages page is_order.ordered some in
    let mark = and-both (record_at table.records page).resident (not (nat_lt page table.roots))
    (sym (is_order.listed page) ∙ found.among) in (
      rw (mark.0, mark.1) found.passes,
      λ q passes ne.
          let resident = and-both (record_at table.records q).resident (not (nat_lt q table.roots) && test q) passes in
          let no_root = and-both (not (nat_lt q table.roots)) (test q) resident.1 in
          let among : is_among order.pages q ≡ true = is_order.listed q ∙ rw (resident.0, no_root.0) refl in
          found.first q among no_root.1 ne,
    )

-- two pages do not come before each other
not-both : (s : State) (v w : ℕ) → ComesBefore (last_used_of s) v w → IsLessRecent s w v → ⊥
not-both s v w (inl less) (inl more) = omega (arith, less, more)
not-both s v w (inl less) (inr (same, no_later)) = omega (arith, less, same)
not-both s v w (inr (same, below)) (inl more) = omega (arith, same, more)
not-both s v w (inr (same, below)) (inr (same_too, no_later)) = omega (arith, below, no_later)

-- the first of the evictable pages is the victim
pub victim_for-from_first : (layout : Layout) (s : State) (page : ℕ) (found : Option ℕ) →
    ((q : ℕ) → is_evictable layout s page q ≡ true → q < layout.pages) →
    IsFirst (last_used_of s) (is_evictable layout s page) found → victim_for layout s page ≡ found
victim_for-from_first layout s page found within first = by_victim (victim_for layout s page) refl found first
  where
    by_victim : (victim : Option ℕ) → victim_for layout s page ≡ victim → (found : Option ℕ) →
        IsFirst (last_used_of s) (is_evictable layout s page) found → victim_for layout s page ≡ found
    by_victim None is None none = is
    by_victim None is (Some v) found = absurd (HasNoVictim-from_none layout s page is v (within v found.0) found.0)
    by_victim (Some w) is None none = let passes : is_evictable layout s page w ≡ true =
        (IsVictim-from_some layout s page w is).evictable in let fails = none w in cc
    by_victim (Some w) is (Some v) found =
        let victim = IsVictim-from_some layout s page w is in
        ⊎_elim
        (λ same. is ∙ ap (λ q. Some q) same)
        (λ other. absurd (not-both s v w (found.1 w victim.evictable other)
        (victim.first v (within v found.0) found.0)))
        (cases_eq w v)
