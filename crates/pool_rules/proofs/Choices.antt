-- What an allowed Take tells of its page and its victim.
use Rattle.std.proofs.Common.{◌≡◌, ℕ, ◌<◌, List, [], ◌∷◌, Bool, true, false, cond, nat_lt, ◌==◌, ◌⊎◌, inl, inr, ⊎_elim}
use Rattle.std.proofs.Common.{Option, Some, None, filter, fold, refl}
use Rattle.std.specs.Option.{option_eq}
use Rattle.std.specs.Prelude.{nat_eq}
use Rattle.std.proofs.lemmas.Bool.Decides.{Decides-ltb}
use Rattle.pool_rules.specs.declared.want.Want.{Want}
use Rattle.journal.specs.declared.layouts.Layout.{Layout}
use Rattle.pool_rules.specs.declared.next_load.Next.TheVariants.{Take}
use Rattle.journal.specs.Layout.{page_numbers}
use Rattle.pool_rules.specs.Next.{is_want_for, can_take, is_takeable, first_takeable, first_loading, next_with, next_at}
use Rattle.pool_rules.specs.Next.{busy_with, next_without, next_of, next_in, is_take}
use Rattle.pool_rules.specs.State.{State, held_count}
use Rattle.pool_rules.specs.Victim.{is_evictable, last_used_of, less_recently_used, victim_for}
use Rattle.pool_rules.proofs.Tests.{and-both, same-eqb, find-passes}

staler-either : (s : State) (best : Option ℕ) (x v : ℕ) → less_recently_used s best x ≡ Some v →
    (best ≡ Some v) ⊎ (x ≡ v)
staler-either s None x v h = inr cc
staler-either s (Some b) x v h =
    elim (nat_lt (last_used_of s b) (last_used_of s x)) as (λ t. cond t (Some b) (Some x) ≡ Some v →
    (Some b ≡ Some v) ⊎ (x ≡ v)) [ true ↦ λ k. inl k | false ↦ λ k. inr cc ] h

-- the victim among those that pass is the one before, or it passes
victim-passes : (s : State) (test : ℕ → Bool) (xs : List ℕ) (best : Option ℕ) (v : ℕ) →
    fold (less_recently_used s) best (filter test xs) ≡ Some v → (best ≡ Some v) ⊎ (test v ≡ true)
victim-passes s test [] best v h = inl h
victim-passes s test (x ∷ xs) best v h =
    elim (test x) as (λ b. test x ≡ b → fold (less_recently_used s) best (cond b (x ∷ filter test xs) (filter test xs))
    ≡ Some v → (best ≡ Some v) ⊎ (test v ≡ true)) [
      | true ↦ λ e k. ⊎_elim (λ now. ⊎_elim (λ old. inl old) (λ same. inr cc) (staler-either s best x v now))
          (λ passes. inr passes) (victim-passes s test xs (less_recently_used s best x) v k)
      | false ↦ λ e k. victim-passes s test xs best v k
    ] refl h

-- the victim may be evicted
pub victim-evictable : (layout : Layout) (s : State) (page v : ℕ) → victim_for layout s page ≡ Some v →
    is_evictable layout s page v ≡ true
victim-evictable layout s page v h =
    ⊎_elim (λ none. cc) (λ passes. passes) (victim-passes s (is_evictable layout s page) (page_numbers layout) None v h)

abbrev pub Room : Layout → State → ℕ → Option ℕ → Type 0
Room layout s page victim =
    ((victim ≡ None) × (held_count s < layout.slots))
    ⊎ ((v : ℕ) × (victim ≡ Some v) × (is_evictable layout s page v ≡ true))

-- what is known where a page may be taken for a victim
pub record IsTaken (layout : Layout) (s : State) (page : ℕ) (victim : Option ℕ) : Type 0 where
  pub takeable : can_take layout s page ≡ true
  pub room : Room layout s page victim

same-none : (victim : Option ℕ) → option_eq nat_eq None victim ≡ true → victim ≡ None
same-none None h = refl
same-none (Some v) h = cc

same-some : (v : ℕ) (victim : Option ℕ) → option_eq nat_eq (Some v) victim ≡ true → victim ≡ Some v
same-some v None h = cc
same-some v (Some w) h = let e : v ≡ w = same-eqb v w h in cc

into_victim : (layout : Layout) (s : State) (p page : ℕ) (victim found : Option ℕ) → victim_for layout s p ≡ found →
    is_take (next_with p found) page victim ≡ true → (p ≡ page) × Room layout s p victim
into_victim layout s p page victim None found h = cc
into_victim layout s p page victim (Some v) found h =
    let parts = and-both (p == page) (option_eq nat_eq (Some v) victim) h in
    (same-eqb p page parts.0, inr (v, same-some v victim parts.1, victim-evictable layout s p v found))

into_free : (layout : Layout) (s : State) (p page : ℕ) (victim : Option ℕ) → nat_lt (held_count s) layout.slots ≡ true →
    is_take (Take p None) page victim ≡ true → (p ≡ page) × Room layout s p victim
into_free layout s p page victim free h =
    let parts = and-both (p == page) (option_eq nat_eq None victim) h in
    (same-eqb p page parts.0, inl (same-none victim parts.1, (Decides-ltb (held_count s) layout.slots).0 free))

pub take-at : (layout : Layout) (s : State) (p page : ℕ) (victim : Option ℕ) →
    is_take (next_at layout s p) page victim ≡ true → (p ≡ page) × Room layout s p victim
take-at layout s p page victim h =
    elim (nat_lt (held_count s) layout.slots) as (λ b. nat_lt (held_count s) layout.slots ≡ b →
    is_take (cond b (Take p None) (next_with p (victim_for layout s p))) page victim ≡ true →
    (p ≡ page) × Room layout s p victim) [
      | true ↦ λ free k. into_free layout s p page victim free k
      | false ↦ λ full k. into_victim layout s p page victim
          (victim_for layout s p) refl k
    ] refl h

busy-no_take : (want : Option Want) (page : ℕ) (victim : Option ℕ) → is_take (busy_with want) page victim ≡ true → ⊥
busy-no_take None page victim h = cc
busy-no_take (Some want) page victim h = cc

pub without-no_take : (s : State) (frame : Option ℕ) (page : ℕ) (victim : Option ℕ) →
    is_take (next_without s frame) page victim ≡ true → ⊥
without-no_take s None page victim h = cc
without-no_take s (Some frame) page victim h = busy-no_take (first_loading s frame) page victim h

take-of : (layout : Layout) (s : State) (frame : Option ℕ) (page : ℕ) (victim : Option ℕ) (want : Option Want) →
    first_takeable layout s frame ≡ want → is_take (next_of layout s frame want) page victim ≡ true →
    IsTaken layout s page victim
take-of layout s frame page victim None first h = absurd (without-no_take s frame page victim h)
take-of layout s frame page victim (Some want) first h =
    let at = take-at layout s want.page page victim h in
    let passes = find-passes (is_takeable layout s frame) s.wants want first in
    let can : can_take layout s want.page ≡ true =
    (and-both (is_want_for frame want) (can_take layout s want.page) passes).1 in
    record { takeable = rw (← at.0) can; room = rw (← at.0) at.1 }

-- where the next answer is to take the page for the victim, it can be taken and has room
pub IsTaken-from_next : (layout : Layout) (s : State) (frame : Option ℕ) (page : ℕ) (victim : Option ℕ) →
    is_take (next_in layout s frame) page victim ≡ true → IsTaken layout s page victim
IsTaken-from_next layout s frame page victim h =
    take-of layout s frame page victim (first_takeable layout s frame) refl h
