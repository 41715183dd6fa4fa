-- Where rule 1 is kept, the groups' members follow one another: each cluster has a home, and only one.
use Rattle.std.proofs.Common.{◌≡◌, ◌<◌, ◌≤◌, ◌+◌, ◌-◌, ℕ, zero, suc, true, false, ◌++◌, ◌∷◌, [], length, map, refl}
use Rattle.std.proofs.Common.{subst, arith, inl, inr, zero-add}
use Rattle.std.specs.List.{range_with_len, position_or_len}
use Rattle.std.proofs.lemmas.Bool.{cases_lt}
use Rattle.std.proofs.lemmas.Bool.Decides.{nat_tests}
use Rattle.std.proofs.lemmas.List.Sums.{sum_by_more, position_or_len_is, fails_before_first, passes_at_first}
use Rattle.std.proofs.lemmas.List.FromFn.{map-range_with_len_more}
use Rattle.dag_core.specs.declared.groups.Group.{Group}
use Rattle.dag_core.specs.declared.heads.Heads.{Heads}
use Rattle.dag_core.specs.Members.{no_group, group_at, has_member, home}
use Rattle.dag_core.specs.Rules.{KeepsRulesBelow, breaks_members, members_before}

-- no break of rule 1
abbrev pub AreMembersInTurn : Heads → Type 0
AreMembersInTurn heads = (g : ℕ) → breaks_members heads g ≡ false

pub in_turn : (heads : Heads) → KeepsRulesBelow 2 heads → AreMembersInTurn heads
in_turn heads kept = λ g. kept 1 g (omega arith)

pub first_is : (heads : Heads) (g : ℕ) → AreMembersInTurn heads → g < length heads.groups →
    (group_at heads g).first ≡ members_before heads g
unfolding breaks_members
first_is heads g turn below = let here = turn g in grind (arith, nat_tests)

pub members_are_all : (heads : Heads) → AreMembersInTurn heads →
    members_before heads (length heads.groups) ≡ length heads.clusters
unfolding breaks_members
members_are_all heads turn = let here = turn (length heads.groups) in grind (arith, nat_tests)

pub members_none : (heads : Heads) → members_before heads 0 ≡ 0
unfolding members_before
members_none heads = refl

pub members_more : (heads : Heads) (g : ℕ) → g < length heads.groups →
    members_before heads (g + 1) ≡ members_before heads g + (group_at heads g).count
unfolding members_before
members_more heads g below = sum_by_more (λ (group : Group). group.count) heads.groups g no_group below

pub members_rise : (heads : Heads) (g more : ℕ) → g + more ≤ length heads.groups →
    members_before heads g ≤ members_before heads (g + more)
members_rise heads g zero within = let e : g + 0 ≡ g = omega arith in rw e (omega arith)
members_rise heads g (suc more) within =
    let e : g + suc more ≡ (g + more) + 1 = omega arith in
    let step = members_more heads (g + more) (omega arith) in
    let rest = members_rise heads g more (omega arith) in
    rw e (omega arith)

pub members_rise_to : (heads : Heads) (g later : ℕ) → g ≤ later → later ≤ length heads.groups →
    members_before heads g ≤ members_before heads later
members_rise_to heads g later before within =
    let e : g + (later - g) ≡ later = omega arith in
    subst (λ k. members_before heads g ≤ members_before heads k) e (members_rise heads g (later - g) (omega arith))

is_member : (c : ℕ) (group : Group) → group.first ≤ c → c < group.first + group.count → has_member c group ≡ true
is_member c group from below = grind (arith, nat_tests)

is_no_member : (c : ℕ) (group : Group) → group.first + group.count ≤ c → has_member c group ≡ false
is_no_member c group after = grind (arith, nat_tests)

member_from : (c : ℕ) (group : Group) → has_member c group ≡ true → (group.first ≤ c) × (c < group.first + group.count)
member_from c group is = (grind (arith, nat_tests), grind (arith, nat_tests))

-- a group that ends at or before c
ends_before : (heads : Heads) (g k c : ℕ) → AreMembersInTurn heads → g < length heads.groups → k < g →
    (group_at heads g).first ≤ c →
    (group_at heads k).first + (group_at heads k).count ≤ c
ends_before heads g k c turn below before from =
    let here = first_is heads g turn below in
    let there = first_is heads k turn (omega arith) in
    let more = members_more heads k (omega arith) in
    let rise = members_rise_to heads (k + 1) g (omega arith) (omega arith) in
    omega arith

-- a member's home is the group that has it
pub home_is : (heads : Heads) (g c : ℕ) → AreMembersInTurn heads → g < length heads.groups →
    (group_at heads g).first ≤ c →
    c < (group_at heads g).first + (group_at heads g).count → home heads c ≡ g
unfolding home
home_is heads g c turn below from to =
    position_or_len_is (has_member c) heads.groups g no_group (omega arith)
    (λ k before. is_no_member c (group_at heads k) (ends_before heads g k c turn below before from))
    (λ _. is_member c (group_at heads g) from to)

-- where no group has c, c comes after all of their members
passed : (heads : Heads) (c g : ℕ) → AreMembersInTurn heads → g ≤ length heads.groups →
    ((k : ℕ) → k < g → has_member c (group_at heads k) ≡ false) → members_before heads g ≤ c
passed heads c zero turn within fails = let none = members_none heads in omega arith
passed heads c (suc g) turn within fails =
    let e : suc g ≡ g + 1 = omega arith in
    let before = passed heads c g turn (omega arith) (λ k below. fails k (omega arith)) in
    let first = first_is heads g turn (omega arith) in
    let more = members_more heads g (omega arith) in
    let here = no_member_after c (group_at heads g) (omega arith) (fails g (omega arith)) in
    rw e (omega arith)
  where
    no_member_after : (c : ℕ) (group : Group) → group.first ≤ c → has_member c group ≡ false →
        group.first + group.count ≤ c
    no_member_after c group from not = grind (arith, nat_tests)

-- each cluster has a home
pub home_below : (heads : Heads) (c : ℕ) → AreMembersInTurn heads → c < length heads.clusters →
    home heads c < length heads.groups
unfolding home
home_below heads c turn below =
    elim (cases_lt (position_or_len (has_member c) heads.groups) (length heads.groups)) [
      | inl less ↦ less
      | inr beyond ↦
          let all = passed heads c (length heads.groups) turn (omega arith)
          (λ k within. fails_before_first (has_member c) heads.groups k no_group (omega arith)) in
          let whole = members_are_all heads turn in
          absurd (omega arith)
    ]

pub home_has : (heads : Heads) (c : ℕ) → AreMembersInTurn heads → c < length heads.clusters →
    ((group_at heads (home heads c)).first ≤ c) ×
    (c < (group_at heads (home heads c)).first + (group_at heads (home heads c)).count)
unfolding home
home_has heads c turn below =
    member_from c (group_at heads (home heads c))
    (passes_at_first (has_member c) heads.groups no_group (home_below heads c turn below))

-- the homes of the clusters before c, and c's
pub homes_more : (heads : Heads) (c : ℕ) →
    map (home heads) (range_with_len 0 (c + 1)) ≡ map (home heads) (range_with_len 0 c) ++ home heads c ∷ []
homes_more heads c = map-range_with_len_more (home heads) 0 c c (zero-add c)
