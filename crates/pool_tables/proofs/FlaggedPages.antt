-- Flags of missing pages, and how often a page is in a list.
use Rattle.std.proofs.Common.{◌≡◌, ℕ, zero, suc, ◌+◌, ◌<◌, ◌≤◌, ◌==◌, nat_lt, nat_le, List, [], ◌∷◌, ◌++◌, Bool, true}
use Rattle.std.proofs.Common.{false, not, cond, ◌&&◌, ◌||◌, length, get_or, set, refl, sym, ap, ◌∙◌, arith, eq-eqb}
use Rattle.std.proofs.lemmas.Bool.Decides.{nat_tests}
use Rattle.std.proofs.lemmas.List.Sums.{sum_by-cons, sum_by-append}
use Rattle.journal.specs.Layout.{ascends_from}
use Rattle.pool_rules.specs.Numbers.{is_among}
use Rattle.pool_rules.proofs.Tests.{and-both, or-left, same-eqb}
use Rattle.pool_tables.specs.Changes.{times}
use Rattle.pool_tables.specs.PinLists.{flagged, with_flag}
use Rattle.pool_tables.proofs.Apart.{or-none}
use Rattle.pool_tables.proofs.AscendingNumbers.{among-at}

-- ---- how often a page is in a list

pub times-cons : (n : ℕ) (ns : List ℕ) (p : ℕ) → times (n ∷ ns) p ≡ cond (n == p) 1 0 + times ns p
times-cons n ns p = sum_by-cons (λ m. cond (m == p) 1 0) n ns

pub times-append : (ms ns : List ℕ) (p : ℕ) → times (ms ++ ns) p ≡ times ms p + times ns p
times-append ms ns p = sum_by-append (λ m. cond (m == p) 1 0) ms ns

-- a page is among the numbers if it is one of them at least once
pub among-times : (ns : List ℕ) (p : ℕ) → is_among ns p ≡ nat_lt 0 (times ns p)
among-times [] p = refl
among-times (n ∷ ns) p =
    step (n == p) (is_among ns p) (times ns p) (times (n ∷ ns) p) (among-times ns p) (times-cons n ns p)
  where
    step : (b c : Bool) (t all : ℕ) → c ≡ nat_lt 0 t → all ≡ cond b 1 0 + t → (b || c) ≡ nat_lt 0 all
    step true c t all h sum = let some : 0 < all = omega (arith, sum) in grind (arith, nat_tests)
    step false c t all h sum = let same : t ≡ all = omega (arith, sum) in h ∙ ap (nat_lt 0) same

-- ---- numbers that ascend

none-below : (low : ℕ) (numbers : List ℕ) (p : ℕ) → ascends_from low numbers ≡ true → p < low
    → is_among numbers p ≡ false
none-below low [] p up below = refl
none-below low (n ∷ numbers) p up below =
    let parts = and-both (nat_le low n) (ascends_from (n + 1) numbers) up in
    let above : low < n + 1 = grind (arith, nat_tests, parts.0) in
    let other : (n == p) ≡ false = grind (arith, nat_tests) in
    rw other (none-below (n + 1) numbers p parts.1 (omega (arith, above, below)))

-- a number that is later is not the first
other-later : (n : ℕ) (numbers : List ℕ) (p : ℕ) → ascends_from (n + 1) numbers ≡ true → is_among numbers p ≡ true
    → (n == p) ≡ false
other-later n numbers p up among =
    elim (n == p) as (λ b. (n == p) ≡ b → b ≡ false) [
      | true ↦ λ e. let same = same-eqb n p e in let none = none-below (n + 1) numbers p up (omega (arith, same)) in cc
      | false ↦ λ e. refl
    ] refl

-- ---- flags

-- a page that is not missing has no flag
pub flagged-none : (missing : List ℕ) (flags : List Bool) (page : ℕ) → is_among missing page ≡ false
    → is_among (flagged missing flags) page ≡ false
flagged-none [] flags page h = refl
flagged-none (p ∷ ps) [] page h = refl
flagged-none (p ∷ ps) (true ∷ flags) page h =
    let parts = or-none (p == page) (is_among ps page) h in
    rw parts.0 (flagged-none ps flags page parts.1)
flagged-none (p ∷ ps) (false ∷ flags) page h =
    flagged-none ps flags page (or-none (p == page) (is_among ps page) h).1

pub with_flag-none : (missing : List ℕ) (flags : List Bool) (page : ℕ) → is_among missing page ≡ false
    → with_flag page missing flags ≡ flags
with_flag-none [] flags page h = refl
with_flag-none (p ∷ ps) [] page h = refl
with_flag-none (p ∷ ps) (flag ∷ flags) page h =
    let parts = or-none (p == page) (is_among ps page) h in
    rw parts.0 (ap (λ rest. flag ∷ rest) (with_flag-none ps flags page parts.1))

-- the flag at the page's place tells whether it is flagged
pub flagged-at : (low : ℕ) (missing : List ℕ) (flags : List Bool) (i page : ℕ) → ascends_from low missing ≡ true
    → length flags ≡ length missing → i < length missing → get_or missing i 0 ≡ page
    → get_or flags i false ≡ is_among (flagged missing flags) page
flagged-at low [] flags i page up len within here = absurd (omega (arith, within))
flagged-at low (p ∷ ps) [] i page up len within here = absurd (omega (arith, len))
flagged-at low (p ∷ ps) (true ∷ flags) zero page up len within here =
    sym (or-left (p == page) (is_among (flagged ps flags) page) (eq-eqb p page here))
flagged-at low (p ∷ ps) (false ∷ flags) zero page up len within here =
    let parts = and-both (nat_le low p) (ascends_from (p + 1) ps) up in
    sym (flagged-none ps flags page (none-below (p + 1) ps page parts.1 (omega (arith, here))))
flagged-at low (p ∷ ps) (true ∷ flags) (suc i) page up len within here =
    let parts = and-both (nat_le low p) (ascends_from (p + 1) ps) up in
    let other = other-later p ps page parts.1 (among-at ps i page (omega (arith, within)) here) in
    rw other (flagged-at (p + 1) ps flags i page parts.1 (omega (arith, len)) (omega (arith, within)) here)
flagged-at low (p ∷ ps) (false ∷ flags) (suc i) page up len within here =
    let parts = and-both (nat_le low p) (ascends_from (p + 1) ps) up in
    flagged-at (p + 1) ps flags i page parts.1 (omega (arith, len)) (omega (arith, within)) here

-- to set the flag at the page's place is to flag the page
pub with_flag-at : (low : ℕ) (missing : List ℕ) (flags : List Bool) (i page : ℕ) → ascends_from low missing ≡ true
    → length flags ≡ length missing → i < length missing → get_or missing i 0 ≡ page
    → set flags i true ≡ with_flag page missing flags
with_flag-at low [] flags i page up len within here = absurd (omega (arith, within))
with_flag-at low (p ∷ ps) [] i page up len within here = absurd (omega (arith, len))
with_flag-at low (p ∷ ps) (flag ∷ flags) zero page up len within here =
    let parts = and-both (nat_le low p) (ascends_from (p + 1) ps) up in
    let none = none-below (p + 1) ps page parts.1 (omega (arith, here)) in
    rw (eq-eqb p page here) (ap (λ rest. true ∷ rest) (sym (with_flag-none ps flags page none)))
with_flag-at low (p ∷ ps) (flag ∷ flags) (suc i) page up len within here =
    let parts = and-both (nat_le low p) (ascends_from (p + 1) ps) up in
    let other = other-later p ps page parts.1 (among-at ps i page (omega (arith, within)) here) in
    rw other (ap (λ rest. flag ∷ rest) (with_flag-at (p + 1) ps flags i page parts.1 (omega (arith, len))
    (omega (arith, within)) here))

-- the page is flagged once more if it was not
pub times-flag : (missing : List ℕ) (flags : List Bool) (i page q : ℕ) → length flags ≡ length missing
    → i < length missing → get_or missing i 0 ≡ page
    → times (flagged missing (set flags i true)) q ≡ times (flagged missing flags) q + cond
    (not (get_or flags i false) && (page == q)) 1 0
times-flag [] flags i page q len within here = absurd (omega (arith, within))
times-flag (p ∷ ps) [] i page q len within here = absurd (omega (arith, len))
times-flag (p ∷ ps) (true ∷ flags) zero page q len within here = omega arith
times-flag (p ∷ ps) (false ∷ flags) zero page q len within here =
    let same : ◌≡◌ {A = ℕ} (cond (p == q) 1 0) (cond (page == q) 1 0) = ap (λ n. cond (n == q) 1 0) here in
    omega (arith, times-cons p (flagged ps flags) q, same)
times-flag (p ∷ ps) (true ∷ flags) (suc i) page q len within here =
    omega (
      arith,
      times-cons p (flagged ps (set flags i true)) q,
      times-cons p (flagged ps flags) q,
      times-flag ps flags i page q (omega (arith, len)) (omega (arith, within)) here,
    )
times-flag (p ∷ ps) (false ∷ flags) (suc i) page q len within here =
    times-flag ps flags i page q (omega (arith, len)) (omega (arith, within)) here

-- ---- a page is at most once among numbers that ascend

pub times-ascending : (low : ℕ) (numbers : List ℕ) (p : ℕ) → ascends_from low numbers ≡ true → times numbers p ≤ 1
times-ascending low [] p up = omega arith
times-ascending low (n ∷ numbers) p up =
    let parts = and-both (nat_le low n) (ascends_from (n + 1) numbers) up in
    let rest = times-ascending (n + 1) numbers p parts.1 in
    elim (n == p) as (λ b. (n == p) ≡ b → times (n ∷ numbers) p ≤ 1) [
      | true ↦ λ e.
          let same = same-eqb n p e in
          let none = none-below (n + 1) numbers p parts.1 (omega (arith, same)) in
          let test : nat_lt 0 (times numbers p) ≡ false = sym (among-times numbers p) ∙ none in
          let no_more : times numbers p ≡ 0 = grind (arith, nat_tests) in
          let first : ◌≡◌ {A = ℕ} (cond (n == p) 1 0) 1 = ap (λ b. cond b 1 0) e in
          omega (arith, times-cons n numbers p, no_more, first)
      | false ↦ λ e.
          let first : ◌≡◌ {A = ℕ} (cond (n == p) 1 0) 0 = ap (λ b. cond b 1 0) e in
          omega (arith, times-cons n numbers p, first, rest)
    ] refl

-- no page is flagged more often than it is missing
pub times-flagged : (missing : List ℕ) (flags : List Bool) (p : ℕ) → times (flagged missing flags) p ≤ times missing p
times-flagged [] flags p = omega arith
times-flagged (q ∷ missing) [] p = omega arith
times-flagged (q ∷ missing) (true ∷ flags) p =
    omega (arith, times-cons q (flagged missing flags) p, times-cons q missing p, times-flagged missing flags p)
times-flagged (q ∷ missing) (false ∷ flags) p =
    omega (arith, times-cons q missing p, times-flagged missing flags p)
