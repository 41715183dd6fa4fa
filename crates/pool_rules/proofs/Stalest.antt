-- The victim that a fold over the pages finds comes first of all that may be evicted.
use Rattle.std.proofs.Common.{◌≡◌, ℕ, zero, suc, ◌<◌, ◌≤◌, Bool, true, false, cond, nat_lt, ◌⊎◌, inl, inr, ⊎_elim}
use Rattle.std.proofs.Common.{Option, Some, None, refl, arith}
use Rattle.std.specs.List.{filter, fold, range_with_len}
use Rattle.std.proofs.lemmas.Bool.{cases_lt}
use Rattle.std.proofs.lemmas.Bool.Decides.{Decides-ltb, nat_tests}
use Rattle.journal.specs.declared.layouts.Layout.{Layout}
use Rattle.pool_rules.specs.State.{State}
use Rattle.pool_rules.specs.Victim.{last_used_of, less_recently_used, is_evictable, victim_for, IsLessRecent, IsVictim}
use Rattle.pool_rules.specs.Victim.{HasNoVictim}
use Rattle.pool_rules.proofs.Ranges.{fold-filter_more}

-- the best of the pages below n that pass
abbrev best : State → (ℕ → Bool) → ℕ → Option ℕ
best s test n = fold (less_recently_used s) None (filter test (range_with_len 0 n))

abbrev IsBest : State → (ℕ → Bool) → ℕ → Option ℕ → Type 0
IsBest s test n None = (q : ℕ) → q < n → test q ≡ true → ⊥
IsBest s test n (Some v) = (test v ≡ true) × ((q : ℕ) → q < n → test q ≡ true → IsLessRecent s v q)

-- a number below n + 1 is below n or is n
last-or-below : (q n : ℕ) → q < suc n → (q < n) ⊎ (q ≡ n)
last-or-below q n h = ⊎_elim (λ lt. inl lt) (λ ge. inr (omega arith)) (cases_lt q n)

-- the first of two stays the first of what the second came before
staler-through : (s : State) (v n q : ℕ) → last_used_of s n ≤ last_used_of s v → q < n → IsLessRecent s v q →
    IsLessRecent s n q
staler-through s v n q h below (inl less) = inl (omega arith)
staler-through s v n q h below (inr (same, no_later)) =
    ⊎_elim (λ less. inl less) (λ ge. inr (omega arith, omega arith)) (cases_lt (last_used_of s n) (last_used_of s q))

with-last : (s : State) (test : ℕ → Bool) (n : ℕ) (before : Option ℕ) → test n ≡ true → IsBest s test n before →
    IsBest s test (suc n) (less_recently_used s before n)
with-last s test n None passes none = (
  passes,
  λ q below h. ⊎_elim (λ lt. absurd (none q lt h)) (λ same. rw same (inr (refl, omega arith)))
      (last-or-below q n below),
)
with-last s test n (Some v) passes old =
    elim (nat_lt (last_used_of s v) (last_used_of s n)) as (λ b. nat_lt (last_used_of s v) (last_used_of s n) ≡ b →
    IsBest s test (suc n) (cond b (Some v) (Some n))) [
      | true ↦ λ e. (
        old.0,
        λ q below h. ⊎_elim (λ lt. old.1 q lt h)
            (λ same. let less = (Decides-ltb (last_used_of s v) (last_used_of s n)).0 e in rw same (inl less))
            (last-or-below q n below),
      )
      | false ↦ λ e. let ge : last_used_of s n ≤ last_used_of s v = grind (arith, nat_tests) in (
        passes,
        λ q below h. ⊎_elim (λ lt. staler-through s v n q ge lt (old.1 q lt h))
            (λ same. rw same (inr (refl, omega arith))) (last-or-below q n below),
      )
    ] refl

without-last : (s : State) (test : ℕ → Bool) (n : ℕ) (before : Option ℕ) → test n ≡ false → IsBest s test n before →
    IsBest s test (suc n) before
without-last s test n None fails none = λ q below h. ⊎_elim (λ lt. none q lt h)
    (λ same. let yes : test n ≡ true = rw same at h in cc) (last-or-below q n below)
without-last s test n (Some v) fails old = (
  old.0,
  λ q below h. ⊎_elim (λ lt. old.1 q lt h) (λ same. let yes : test n ≡ true = rw same at h in cc)
      (last-or-below q n below),
)

is-best : (s : State) (test : ℕ → Bool) (n : ℕ) → IsBest s test n (best s test n)
is-best s test zero = λ q below h. omega arith
is-best s test (suc n) =
    rw (fold-filter_more (less_recently_used s) test None n)
    (elim (test n) as (λ b. test n ≡ b → IsBest s test (suc n)
    (cond b (less_recently_used s (best s test n) n) (best s test n))) [
      | true ↦ λ passes. with-last s test n (best s test n) passes (is-best s test n)
      | false ↦ λ fails. without-last s
          test n (best s test n) fails (is-best s test n)
    ] refl)

pub IsVictim-from_some : (layout : Layout) (s : State) (page victim : ℕ) → victim_for layout s page ≡ Some victim →
    IsVictim layout s page victim
IsVictim-from_some layout s page victim h =
    let found = is-best s (is_evictable layout s page) layout.pages in
    let first : IsBest s (is_evictable layout s page) layout.pages (Some victim) = rw h at found in
    record { evictable = first.0; first = first.1 }

pub HasNoVictim-from_none : (layout : Layout) (s : State) (page : ℕ) → victim_for layout s page ≡ None →
    HasNoVictim layout s page
HasNoVictim-from_none layout s page h =
    let found = is-best s (is_evictable layout s page) layout.pages in
    let none : IsBest s (is_evictable layout s page) layout.pages None = rw h at found in
    none
