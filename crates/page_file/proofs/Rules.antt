-- The first broken rule of heads, found among all indices, and what keeps the ranges of counts.
use Rattle.std.proofs.Common.{◌≡◌, ℕ, zero, suc, ◌+◌, ◌<◌, ◌≤◌, Bool, true, false, None, Some, refl, ap, ◌∙◌, arith}
use Rattle.std.proofs.Common.{inl, inr}
use Rattle.std.specs.List.{find, range_with_len}
use Rattle.std.specs.Option.{option_map}
use Rattle.std.proofs.Math.Nat.{eq-or-lt_of_le}
use Rattle.std.proofs.lemmas.Bool.Decides.{nat_tests}
use Rattle.std.proofs.lemmas.Bool.{both_ways, cases_lt}
use Rattle.dag_core.specs.declared.heads.Heads.{Heads}
use Rattle.dag_core.specs.Rules.{breaks, Checked, IsFirstBreak}
use Rattle.dag_core.proofs.RuleLaws.{members_beyond, maker_beyond, terminal_beyond, bound_beyond, page_beyond}
use Rattle.page_file.specs.declared.open_faults.OpenFault.TheVariants.{Rule}
use Rattle.page_file.specs.Judging.{places, rule_fault, rules_fault}

-- ---- searches

pub find-none : (test : ℕ → Bool) → ((i : ℕ) → test i ≡ false) → (a n : ℕ) → find test (range_with_len a n) ≡ None
find-none test none a zero = refl
find-none test none a (suc n) = rw (none a) (find-none test none (a + 1) n)

pub find-first : (test : ℕ → Bool) (a n i : ℕ) → a ≤ i → i < a + n → test i ≡ true → ((j : ℕ) → j < i → test j ≡ false)
    → find test (range_with_len a n) ≡ Some i
find-first test a zero i from below is before = absurd (omega arith)
find-first test a (suc n) i from below is before = elim (eq-or-lt_of_le from) [
  | inl same ↦ let here : test a ≡ true = ap test same ∙ is in rw here (ap (λ (k : ℕ). Some k) same)
  | inr later ↦ rw (before a later) (find-first test (a + 1) n i (omega arith) (omega arith) is before)
]

-- ---- one rule

-- a broken rule is broken at an index that is looked at
below-places : (heads : Heads) (rule i : ℕ) → ((past : ℕ) → places heads ≤ past → breaks rule heads past ≡ false) →
    breaks rule heads i ≡ true → i < places heads
below-places heads rule i kept broken = elim (cases_lt i (places heads)) [
  | inl below ↦ below
  | inr past ↦ absurd (both_ways (breaks rule heads i) (kept i past) broken)
]

rule-kept : (heads : Heads) (rule : ℕ) → ((i : ℕ) → breaks rule heads i ≡ false) → rule_fault heads rule ≡ None
unfolding rule_fault
rule-kept heads rule kept =
    ap (option_map (λ index. Rule rule index)) (find-none (breaks rule heads) kept 0 (places heads))

rule-broken : (heads : Heads) (rule i : ℕ) → i < places heads → breaks rule heads i ≡ true →
    ((j : ℕ) → j < i → breaks rule heads j ≡ false)
    → rule_fault heads rule ≡ Some (Rule rule i)
unfolding rule_fault
rule-broken heads rule i below broken before =
    ap (option_map (λ index. Rule rule index))
    (find-first (breaks rule heads) 0 (places heads) i (omega arith) (omega (arith, below)) broken before)

-- ---- all five

no_rule : (rule : ℕ) (heads : Heads) (i : ℕ) → 6 ≤ rule → breaks rule heads i ≡ false
no_rule rule heads i past = grind (arith, nat_tests)

pub rules-kept : (heads : Heads) → Checked heads → rules_fault heads ≡ None
unfolding rules_fault
rules-kept heads checked =
    rw (
      rule-kept heads 1 (checked 1),
      rule-kept heads 2 (checked 2),
      rule-kept heads 3 (checked 3),
      rule-kept heads 4 (checked 4),
      rule-kept heads 5 (checked 5),
    ) refl

pub rules-broken : (heads : Heads) (rule i : ℕ) → IsFirstBreak heads rule i → rules_fault heads ≡ Some (Rule rule i)
unfolding rules_fault
rules-broken heads zero i first = absurd (both_ways false refl first.broken)
rules-broken heads (suc zero) i first =
    let below = below-places heads 1 i (λ past far. members_beyond heads past (omega arith)) first.broken in
    rw (rule-broken heads 1 i below first.broken first.first_index) refl
rules-broken heads (suc (suc zero)) i first =
    let below = below-places heads 2 i (λ past far. maker_beyond heads past (omega arith)) first.broken in
    rw (
      rule-kept heads 1 (λ j. first.first_rule 1 j (omega arith)),
      rule-broken heads 2 i below first.broken first.first_index,
    ) refl
rules-broken heads (suc (suc (suc zero))) i first =
    let below = below-places heads 3 i (λ past far. terminal_beyond heads past (omega arith)) first.broken in
    rw (
      rule-kept heads 1 (λ j. first.first_rule 1 j (omega arith)),
      rule-kept heads 2 (λ j. first.first_rule 2 j (omega arith)),
      rule-broken heads 3 i below first.broken first.first_index,
    ) refl
rules-broken heads (suc (suc (suc (suc zero)))) i first =
    let below = below-places heads 4 i (λ past far. bound_beyond heads past (omega arith)) first.broken in
    rw (
      rule-kept heads 1 (λ j. first.first_rule 1 j (omega arith)),
      rule-kept heads 2 (λ j. first.first_rule 2 j (omega arith)),
      rule-kept heads 3 (λ j. first.first_rule 3 j (omega arith)),
      rule-broken heads 4 i below first.broken first.first_index,
    ) refl
rules-broken heads (suc (suc (suc (suc (suc zero))))) i first =
    let below = below-places heads 5 i (λ past far. page_beyond heads past (omega arith)) first.broken in
    rw (
      rule-kept heads 1 (λ j. first.first_rule 1 j (omega arith)),
      rule-kept heads 2 (λ j. first.first_rule 2 j (omega arith)),
      rule-kept heads 3 (λ j. first.first_rule 3 j (omega arith)),
      rule-kept heads 4 (λ j. first.first_rule 4 j (omega arith)),
      rule-broken heads 5 i below first.broken first.first_index,
    ) refl
rules-broken heads (suc (suc (suc (suc (suc (suc rule)))))) i first =
    absurd (both_ways (breaks (suc (suc (suc (suc (suc (suc rule)))))) heads i)
    (no_rule (suc (suc (suc (suc (suc (suc rule)))))) heads i (omega arith)) first.broken)
