-- The home of a cluster, by halving: the last group whose first member isn't after it.
use Rattle.std.proofs.Common.{◌≡◌, ◌<◌, ◌≤◌, ◌+◌, ◌-◌, ℕ, zero, suc, List, length, get_or, ap, sym, ◌∙◌, subst, arith}
use Rattle.std.proofs.Common.{inl, inr, true, false, leb, leb-true, leb-false}
use Rattle.std.specs.List.Sorted.{IsNonDecreasingBy, IsPartitionedBy, IsPartitionPoint}
use Rattle.std.proofs.lemmas.List.{get_or_default}
use Rattle.std.proofs.lemmas.List.Sorted.{IsPartitionedBy-leb}
use Rattle.std.proofs.lemmas.Bool.{cases_lt}
use Rattle.dag_core.specs.declared.groups.Group.{Group}
use Rattle.dag_core.specs.declared.heads.Heads.{Heads}
use Rattle.dag_core.specs.Members.{group_at, home, no_group}
use Rattle.dag_core.specs.Rules.{Checked, members_before}
use Rattle.dag_core.proofs.MemberLaws.{AreMembersInTurn, first_is, home_is, members_are_all, members_more, members_none}
use Rattle.dag_core.proofs.MemberLaws.{members_rise_to}

pub checked_in_turn : (heads : Heads) → Checked heads → AreMembersInTurn heads
checked_in_turn heads checked = λ g. checked 1 g

pub firsts_rise : (heads : Heads) → AreMembersInTurn heads →
    IsNonDecreasingBy (λ (group : Group). group.first) heads.groups
firsts_rise heads turn = λ i j d before below.
    let here = ap (λ (group : Group). group.first) (get_or_default heads.groups i d no_group (omega arith)) in
    let there = ap (λ (group : Group). group.first) (get_or_default heads.groups j d no_group below) in
    let first = first_is heads i turn (omega arith) in
    let second = first_is heads j turn below in
    let rise = members_rise_to heads i j before (omega arith) in
    omega arith

-- where the first `after` groups begin at c or before, and the others after c
pub home_is_last : (heads : Heads) (after c : ℕ) → AreMembersInTurn heads → 1 ≤ length heads.groups →
    c < length heads.clusters → after ≤ length heads.groups →
    ((k : ℕ) → k < after → (group_at heads k).first ≤ c) →
    ((k : ℕ) → after ≤ k → k < length heads.groups → c < (group_at heads k).first) →
    (1 ≤ after) × (home heads c ≡ after - 1)
home_is_last heads zero c turn some below within begun later =
    let first = first_is heads 0 turn (omega arith) in
    let none = members_none heads in
    let beyond = later 0 (omega arith) (omega arith) in
    absurd (omega arith)
home_is_last heads (suc last) c turn some below within begun later =
    let first = first_is heads last turn (omega arith) in
    let more = members_more heads last (omega arith) in
    let e : suc last - 1 ≡ last = omega arith in
    let ends : c < (group_at heads last).first + (group_at heads last).count = omega (arith, end) in
    (omega arith, home_is heads last c turn (omega arith) (begun last (omega arith)) ends ∙ sym e)
  where
    end : c < members_before heads (last + 1)
    end = elim (cases_lt (last + 1) (length heads.groups)) [
      | inl less ↦
          let next = first_is heads (last + 1) turn less in
          let beyond = later (last + 1) (omega arith) less in
          omega arith
      | inr all ↦
          let same : last + 1 ≡ length heads.groups = omega arith in
          let whole = ap (members_before heads) same ∙ members_are_all heads turn in
          omega arith
    ]

pub firsts_parted : (heads : Heads) (groups : List Group) (c : ℕ) → groups ≡ heads.groups → AreMembersInTurn heads →
    IsPartitionedBy (λ (group : Group). leb group.first c) groups
firsts_parted heads groups c same turn =
    subst (λ (gs : List Group). IsPartitionedBy (λ (group : Group). leb group.first c) gs) (sym same)
    (IsPartitionedBy-leb (λ (group : Group). group.first) heads.groups c (firsts_rise heads turn))

-- what a halving by the first members finds
pub home_found : (heads : Heads) (groups : List Group) (after c : ℕ) → groups ≡ heads.groups → AreMembersInTurn heads →
    1 ≤ length heads.groups →
    c < length heads.clusters → after ≤ length groups →
    IsPartitionPoint (λ (group : Group). leb group.first c ≡ true)
    (λ (group : Group). leb group.first c ≡ false) groups after →
    (1 ≤ after) × (home heads c ≡ after - 1)
home_found heads groups after c same turn some below within point =
    let len : length groups ≡ length heads.groups = ap (λ (gs : List Group). length gs) same in
    home_is_last heads after c turn some below (omega arith)
    (λ k before. leb-true (group_at heads k).first c
    (subst (λ (gs : List Group). leb (get_or gs k no_group).first c ≡ true) same
    (point.0 k no_group (omega arith) before)))
    (λ k from less. leb-false (group_at heads k).first c
    (subst (λ (gs : List Group). leb (get_or gs k no_group).first c ≡ false) same
    (point.1 k no_group from (omega arith))))
