-- Each path meets the cut once: up to some place the homes of its clusters are not open, and from there on they are.
use Rattle.std.proofs.Common.{◌≡◌, ◌==◌, ◌<◌, ◌≤◌, ◌+◌, ◌-◌, ◌∙◌, ap, sym, refl, subst, filter, inl, inr, ℕ, zero, suc}
use Rattle.std.proofs.Common.{Bool, true, false, not, ◌&&◌, List, length, slice_index, arith}
use Rattle.std.specs.List.{range_with_len, position_or_len}
use Rattle.std.proofs.lemmas.Bool.{and_parts, and_from, cases_lt}
use Rattle.std.proofs.lemmas.Bool.Decides.{nat_tests}
use Rattle.std.proofs.lemmas.List.Sums.{fails_before_first, passes_at_first}
use Rattle.geom_core.specs.declared.views.Lens.{Lens}
use Rattle.geom_core.proofs.PointLaws.{true≢false}
use Rattle.dag_core.specs.declared.heads.Heads.{Heads}
use Rattle.dag_core.specs.Cuts.{IsPath, MeetsOnce, cut_of, has_cluster, is_in_cut, is_maker_open, is_open}
use Rattle.dag_core.specs.Members.{cluster_at, home}
use Rattle.dag_core.specs.PageSets.{IsClosed}
use Rattle.dag_core.specs.Ranges.{IsInRange}
use Rattle.dag_core.specs.Rules.{Checked}
use Rattle.dag_core.proofs.ListSteps.{list_any-filter, range_any, range_found}
use Rattle.dag_core.proofs.MemberLaws.{home_below, in_turn}
use Rattle.dag_core.proofs.OpenLaws.{home_is_open, terminal_is_open}

-- ---- what is in a cut

same_number : (n : ℕ) → (n == n) ≡ true
same_number n = grind (arith, nat_tests)

is_same : (n m : ℕ) → (n == m) ≡ true → n ≡ m
is_same n m same = grind (arith, nat_tests)

-- a filter of the numbers below n has those that pass
pub in_filter : (test : ℕ → Bool) (n c : ℕ) → c < n → test c ≡ true →
    has_cluster (filter test (range_with_len 0 n)) c ≡ true
in_filter test n c below passes =
    list_any-filter (λ d. d == c) test (range_with_len 0 n)
    ∙ range_any (λ d. test d && d == c) n c below (and_from (test c) (c == c) passes (same_number c))

pub from_filter : (test : ℕ → Bool) (n c : ℕ) → has_cluster (filter test (range_with_len 0 n)) c ≡ true → test c ≡ true
from_filter test n c has =
    let found = range_found (λ d. test d && d == c) n (sym (list_any-filter (λ d. d == c) test (range_with_len 0 n))
    ∙ has) in
    let both = and_parts (test found.number) (found.number == c) found.passes in
    subst (λ d. test d ≡ true) (is_same found.number c both.1) both.0

pub below_filter : (test : ℕ → Bool) (n c : ℕ) → has_cluster (filter test (range_with_len 0 n)) c ≡ true → c < n
below_filter test n c has =
    let found = range_found (λ d. test d && d == c) n (sym (list_any-filter (λ d. d == c) test (range_with_len 0 n))
    ∙ has) in
    let both = and_parts (test found.number) (found.number == c) found.passes in
    subst (λ d. d < n) (is_same found.number c both.1) found.below

-- ---- along a path

-- the home of the cluster is open
abbrev is_home_open : Heads → Lens → List ℕ → ℕ → Bool
is_home_open heads lens resident c = is_open heads lens resident (home heads c)

-- what the laws take: checked heads, a closed set of pages, a path
record Walk (heads : Heads) (resident path : List ℕ) : Type 0 where
  range : IsInRange heads
  checked : Checked heads
  closed : IsClosed heads resident
  is_path : IsPath heads path

-- the home of the last cluster is open
end_is_open : (heads : Heads) (lens : Lens) (resident path : List ℕ) (k : ℕ) → Walk heads resident path →
    k + 1 ≡ length path →
    is_home_open heads lens resident (slice_index path k) ≡ true
end_is_open heads lens resident path k walk last =
    let turn = in_turn heads (λ rule index below. walk.checked rule index) in
    terminal_is_open heads lens resident (home heads (slice_index path k)) walk.range walk.checked walk.closed
    (home_below heads (slice_index path k) turn (walk.is_path.clusters k (omega arith)))
    (walk.is_path.end k last)

-- the next cluster's maker is this one's home
next_maker : (heads : Heads) (lens : Lens) (resident path : List ℕ) (k : ℕ) → IsPath heads path → k + 1 < length path →
    is_maker_open heads lens resident (cluster_at heads (slice_index path (k + 1))).made
    ≡ is_home_open heads lens resident (slice_index path k)
next_maker heads lens resident path k is_path below =
    ap (is_maker_open heads lens resident) (is_path.made k below)

-- where one home is open, so are those that follow
stays_open : (heads : Heads) (lens : Lens) (resident path : List ℕ) (k more : ℕ) → Walk heads resident path →
    k + more < length path →
    is_home_open heads lens resident (slice_index path k) ≡ true →
    is_home_open heads lens resident (slice_index path (k + more)) ≡ true
stays_open heads lens resident path k zero walk below here =
    let same : k ≡ k + 0 = omega arith in
    subst (λ n. is_home_open heads lens resident (slice_index path n) ≡ true) same here
stays_open heads lens resident path k (suc more) walk below here =
    let before = stays_open heads lens resident path k more walk (omega arith) here in
    let same : k + more + 1 ≡ k + suc more = omega arith in
    subst (λ n. is_home_open heads lens resident (slice_index path n) ≡ true) same
    (home_is_open heads lens resident (slice_index path (k + more + 1)) (home heads (slice_index path (k + more)))
    walk.range walk.checked walk.closed (walk.is_path.clusters (k + more + 1) (omega arith))
    (walk.is_path.made (k + more) (omega arith)) before)

stays_open_to : (heads : Heads) (lens : Lens) (resident path : List ℕ) (k later : ℕ) → Walk heads resident path →
    k ≤ later →
    later < length path → is_home_open heads lens resident (slice_index path k) ≡ true →
    is_home_open heads lens resident (slice_index path later) ≡ true
stays_open_to heads lens resident path k later walk le below here =
    let same : k + (later - k) ≡ later = omega arith in
    subst (λ n. is_home_open heads lens resident (slice_index path n) ≡ true) same
    (stays_open heads lens resident path k (later - k) walk (omega arith) here)

-- the first place whose cluster has an open home
abbrev first_open : Heads → Lens → List ℕ → List ℕ → ℕ
first_open heads lens resident path = position_or_len (is_home_open heads lens resident) path

before_last : (n first : ℕ) → 0 < n → n ≤ first → n - 1 < first
before_last n first some beyond = omega arith

first_within : (heads : Heads) (lens : Lens) (resident path : List ℕ) → Walk heads resident path →
    first_open heads lens resident path < length path
first_within heads lens resident path walk =
    elim (cases_lt (first_open heads lens resident path) (length path)) [
      | inl within ↦ within
      | inr beyond ↦
          let some : 0 < length path = walk.is_path.some in
          let last : length path - 1 + 1 ≡ length path = omega arith in
          absurd (true≢false (sym (end_is_open heads lens resident path (length path - 1) walk last)
          ∙ fails_before_first (is_home_open heads lens resident) path (length path - 1) 0
          (before_last (length path) (position_or_len (is_home_open heads lens resident) path) some beyond)))
    ]

-- no maker of the cluster at the first place is open
first_maker : (heads : Heads) (lens : Lens) (resident path : List ℕ) (k : ℕ) → Walk heads resident path →
    k ≡ first_open heads lens resident path → k < length path →
    is_maker_open heads lens resident (cluster_at heads (slice_index path k)).made ≡ false
first_maker heads lens resident path zero walk first within = ap (is_maker_open heads lens resident) walk.is_path.leaf
first_maker heads lens resident path (suc k) walk first within =
    let same : k + 1 ≡ suc k = omega arith in
    let before : k < first_open heads lens resident path = omega arith in
    subst (λ n. is_maker_open heads lens resident (cluster_at heads (slice_index path n)).made ≡ false) same
    (next_maker heads lens resident path k walk.is_path (omega arith)
    ∙ fails_before_first (is_home_open heads lens resident) path k 0 before)

cut_here : (heads : Heads) (lens : Lens) (resident : List ℕ) (c : ℕ) → is_home_open heads lens resident c ≡ true →
    is_maker_open heads lens resident (cluster_at heads c).made ≡ false → is_in_cut heads lens resident c ≡ true
cut_here heads lens resident c home_open no_maker =
    and_from (is_home_open heads lens resident c) (not (is_maker_open heads lens resident
    (cluster_at heads c).made)) home_open (ap not no_maker)

negated : (b : Bool) → not b ≡ true → b ≡ false
negated true is = sym is
negated false is = refl

cut_parts : (heads : Heads) (lens : Lens) (resident : List ℕ) (c : ℕ) → is_in_cut heads lens resident c ≡ true →
    (is_home_open heads lens resident c ≡ true) × (is_maker_open heads lens resident (cluster_at heads c).made ≡ false)
cut_parts heads lens resident c is =
    let both = and_parts (is_home_open heads lens resident c) (not (is_maker_open heads lens resident
    (cluster_at heads c).made)) is in
    (both.0, negated (is_maker_open heads lens resident (cluster_at heads c).made) both.1)

-- a place of the cut is not after the first
not_after : (heads : Heads) (lens : Lens) (resident path : List ℕ) (first k : ℕ) → Walk heads resident path →
    k < length path → first < k →
    is_home_open heads lens resident (slice_index path first) ≡ true →
    is_in_cut heads lens resident (slice_index path k) ≡ true → ⊥
not_after heads lens resident path first zero walk within after here is = omega arith
not_after heads lens resident path first (suc k) walk within after here is =
    let same : suc k ≡ k + 1 = omega arith in
    let cut = subst (λ n. is_in_cut heads lens resident (slice_index path n) ≡ true) same is in
    true≢false (sym (next_maker heads lens resident path k walk.is_path (omega arith)
    ∙ stays_open_to heads lens resident path first k walk (omega arith) (omega arith) here)
    ∙ (cut_parts heads lens resident (slice_index path (k + 1)) cut).1)

only_first : (heads : Heads) (lens : Lens) (resident path : List ℕ) (k : ℕ) → Walk heads resident path →
    k < length path →
    is_in_cut heads lens resident (slice_index path k) ≡ true → k ≡ first_open heads lens resident path
only_first heads lens resident path k walk within is =
    let first : ℕ = first_open heads lens resident path in
    let here : is_home_open heads lens resident (slice_index path first) ≡ true =
    passes_at_first (is_home_open heads lens resident) path 0 (first_within heads lens resident path walk) in
    elim (cases_lt k first) [
      | inl before ↦ absurd (true≢false (sym (cut_parts heads lens resident (slice_index path k) is).0
          ∙ fails_before_first (is_home_open heads lens resident) path k 0 before))
      | inr from ↦
          elim (cases_lt first k) [
            | inl after ↦ absurd (not_after heads lens resident path first k walk within after here is)
            | inr to ↦ omega arith
          ]
    ]

pub meets_once : (heads : Heads) (lens : Lens) (resident path : List ℕ) → IsInRange heads → Checked heads →
    IsClosed heads resident →
    IsPath heads path → MeetsOnce (cut_of heads lens resident) path
meets_once heads lens resident path range checked closed is_path =
    let walk : Walk heads resident path = record {
      range = range;
      checked = checked;
      closed = closed;
      is_path = is_path;
    } in
    let first : ℕ = first_open heads lens resident path in
    let within = first_within heads lens resident path walk in
    record {
      place = first;
      within = within;
      there = in_filter (is_in_cut heads lens resident) (length heads.clusters) (slice_index path first)
          (is_path.clusters first within)
          (cut_here heads lens resident (slice_index path first)
          (passes_at_first (is_home_open heads lens resident) path 0 within)
          (first_maker heads lens resident path first walk refl within));
      only = λ k below has. only_first heads lens resident path k walk below
          (from_filter (is_in_cut heads lens resident) (length heads.clusters) (slice_index path k) has);
    }
