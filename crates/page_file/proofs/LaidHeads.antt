-- Laid-out heads keep the rules of members, makers, terminal groups and bounds: only pages change.
use Rattle.std.proofs.Common.{◌≡◌, ℕ, zero, suc, ◌+◌, ◌<◌, ◌≤◌, false, not, cond, List, length, get_or, Option, None}
use Rattle.std.proofs.Common.{Some, refl, sym, ap, ◌∙◌, subst, inl, inr, arith, add-one, zero-add}
use Rattle.std.specs.List.{range_with_len, sum_by}
use Rattle.std.proofs.Math.Nat.{eq-or-lt_of_le}
use Rattle.std.proofs.lemmas.Bool.{cases_lt}
use Rattle.std.proofs.lemmas.List.{get_or_past}
use Rattle.std.proofs.lemmas.List.FromFn.{get_or-map-range_with_len, length-map-range_with_len}
use Rattle.dag_core.specs.declared.groups.Group.{Group}
use Rattle.dag_core.specs.declared.heads.Heads.{Heads}
use Rattle.dag_core.specs.Members.{no_group, group_at, cluster_at, home}
use Rattle.dag_core.specs.Rules.{KeepsRulesBelow, breaks_bound, breaks_maker, breaks_members, breaks_terminal, has_made}
use Rattle.dag_core.specs.Rules.{is_maker_at_most, is_maker_outside, is_outgrown, members_before}
use Rattle.dag_core.proofs.MemberLaws.{AreMembersInTurn, in_turn, first_is, members_none, members_more, members_are_all}
use Rattle.dag_core.proofs.MemberLaws.{home_below, home_has, home_is}
use Rattle.dag_core.proofs.RuleLaws.{bound_at, bound_beyond, maker_at, maker_beyond, members_at, members_all}
use Rattle.dag_core.proofs.RuleLaws.{members_beyond, terminal_at, terminal_beyond}
use Rattle.page_file.specs.PagesRule.{group_size, page_of_group, laid_group, laid_heads}
use Rattle.page_file.proofs.GroupSizes.{fewer}

pub laid_count : (heads : Heads) → length (laid_heads heads).groups ≡ length heads.groups
unfolding laid_heads
laid_count heads = length-map-range_with_len (laid_group heads) 0 (length heads.groups)

pub laid_clusters : (heads : Heads) → (laid_heads heads).clusters ≡ heads.clusters
unfolding laid_heads
laid_clusters heads = refl

pub laid_at : (heads : Heads) (g : ℕ) → g < length heads.groups → group_at (laid_heads heads) g ≡ laid_group heads g
unfolding laid_heads
laid_at heads g below =
    get_or-map-range_with_len (laid_group heads) 0 (length heads.groups) g g no_group below (zero-add g)

-- a group that has only moved to another page
pub record IsMoved (group other : Group) : Type 0 where
  pub page : ℕ
  pub same : other ≡ record group { page = page }

past : (groups others : List Group) (g : ℕ) → length groups ≤ g → length others ≤ g →
    get_or others g no_group ≡ record (get_or groups g no_group) { page = 0 }
past groups others g beyond also = rw (get_or_past groups g no_group beyond, get_or_past others g no_group also) refl

pub moved : (heads : Heads) (g : ℕ) → IsMoved (group_at heads g) (group_at (laid_heads heads) g)
moved heads g = elim (cases_lt g (length heads.groups)) [
  | inl below ↦ record { page = page_of_group heads g; same = laid_at heads g below }
  | inr beyond ↦ record {
    page = 0;
    same = past heads.groups (laid_heads heads).groups g beyond (omega (arith, laid_count heads, beyond));
  }
]

pub same_first : (heads : Heads) (g : ℕ) → (group_at (laid_heads heads) g).first ≡ (group_at heads g).first
same_first heads g = let m = moved heads g in ap (λ (group : Group). group.first) m.same

pub same_count : (heads : Heads) (g : ℕ) → (group_at (laid_heads heads) g).count ≡ (group_at heads g).count
same_count heads g = let m = moved heads g in ap (λ (group : Group). group.count) m.same

pub same_terminal : (heads : Heads) (g : ℕ) → (group_at (laid_heads heads) g).terminal ≡ (group_at heads g).terminal
same_terminal heads g = let m = moved heads g in ap (λ (group : Group). group.terminal) m.same

-- ---- rule 1

same_before : (heads : Heads) (g : ℕ) → g ≤ length heads.groups →
    members_before (laid_heads heads) g ≡ members_before heads g
same_before heads zero within = members_none (laid_heads heads) ∙ sym (members_none heads)
same_before heads (suc g) within =
    let e : suc g ≡ g + 1 = sym (add-one g) in
    let count = laid_count heads in
    let more : members_before (laid_heads heads) (suc g) ≡ members_before (laid_heads heads) g +
    (group_at (laid_heads heads) g).count =
    ap (members_before (laid_heads heads)) e ∙ members_more (laid_heads heads) g (omega (arith, count)) in
    let plain : members_before heads (suc g) ≡ members_before heads g + (group_at heads g).count =
    ap (members_before heads) e ∙ members_more heads g (omega arith) in
    omega (arith, more, plain, same_before heads g (omega arith), same_count heads g)

pub laid_in_turn : (heads : Heads) → AreMembersInTurn heads → AreMembersInTurn (laid_heads heads)
laid_in_turn heads turn g = elim (cases_lt g (length heads.groups)) [
  | inl below ↦
      members_at (laid_heads heads) g (omega (arith, laid_count heads, below))
      (same_first heads g ∙ first_is heads g turn below ∙ sym (same_before heads g (omega arith)))
  | inr from ↦
      let whole : members_before (laid_heads heads) (length (laid_heads heads).groups) ≡ length
      (laid_heads heads).clusters =
      ap (members_before (laid_heads heads)) (laid_count heads) ∙ same_before heads (length heads.groups) (omega arith)
      ∙ members_are_all heads turn ∙ sym (ap length (laid_clusters heads)) in
      elim (eq-or-lt_of_le from) [
        | inl end ↦ subst (λ k. breaks_members (laid_heads heads) k ≡ false) (laid_count heads ∙ end)
            (members_all (laid_heads heads) whole)
        | inr beyond ↦ members_beyond (laid_heads heads) g (omega (arith, laid_count heads, beyond))
      ]
]

-- each cluster keeps its home
pub same_home : (heads : Heads) (c : ℕ) → AreMembersInTurn heads → c < length heads.clusters →
    home (laid_heads heads) c ≡ home heads c
same_home heads c turn below =
    let has = home_has heads c turn below in
    let within = home_below heads c turn below in
    home_is (laid_heads heads) (home heads c) c (laid_in_turn heads turn) (omega (arith, laid_count heads, within))
    (omega (arith, has.0, same_first heads (home heads c)))
    (omega (arith, has.1, same_first heads (home heads c), same_count heads (home heads c)))

pub same_cluster : (heads : Heads) (c : ℕ) → cluster_at (laid_heads heads) c ≡ cluster_at heads c
unfolding laid_heads
same_cluster heads c = refl

-- ---- rules 2 to 4

pub laid_maker : (heads : Heads) → KeepsRulesBelow 5 heads → (c : ℕ) → breaks_maker (laid_heads heads) c ≡ false
laid_maker heads kept c = elim (cases_lt c (length heads.clusters)) [
  | inl below ↦
      let turn = in_turn heads (fewer heads 5 2 (omega arith) kept) in
      maker_at (laid_heads heads) c (omega (arith, ap length (laid_clusters heads), below))
      ∙ ap (λ h. is_maker_at_most h (cluster_at (laid_heads heads) c).made) (same_home heads c turn below)
      ∙ ap (λ cluster. is_maker_at_most (home heads c) cluster.made) (same_cluster heads c)
      ∙ sym (maker_at heads c below) ∙ kept 2 c (omega arith)
  | inr beyond ↦ maker_beyond (laid_heads heads) c (omega (arith, ap length (laid_clusters heads), beyond))
]

same_made : (heads : Heads) (g : ℕ) → has_made (laid_heads heads) g ≡ has_made heads g
unfolding has_made laid_heads
same_made heads g = refl

pub laid_terminal : (heads : Heads) → KeepsRulesBelow 5 heads → (g : ℕ) → breaks_terminal (laid_heads heads) g ≡ false
laid_terminal heads kept g = elim (cases_lt g (length heads.groups)) [
  | inl below ↦
      terminal_at (laid_heads heads) g (omega (arith, laid_count heads, below))
      ∙ ap (λ b. cond b (has_made (laid_heads heads) g) (not (has_made (laid_heads heads) g))) (same_terminal heads g)
      ∙ ap (λ b. cond (group_at heads g).terminal b (not b)) (same_made heads g)
      ∙ sym (terminal_at heads g below) ∙ kept 3 g (omega arith)
  | inr beyond ↦ terminal_beyond (laid_heads heads) g (omega (arith, laid_count heads, beyond))
]

outgrown_moved : (home maker : Group) (p q : ℕ) →
    is_outgrown (record home { page = p }) (record maker { page = q }) ≡ is_outgrown home maker
unfolding is_outgrown
outgrown_moved home maker p q = refl

same_outside : (heads : Heads) (h : ℕ) (made : Option ℕ) →
    is_maker_outside (laid_heads heads) h made ≡ is_maker_outside heads h made
same_outside heads h None = refl
same_outside heads h (Some m) =
    let here = moved heads h in
    let there = moved heads m in
    ap (λ (group : Group). is_outgrown group (group_at (laid_heads heads) m)) here.same
    ∙ ap (λ (group : Group). is_outgrown (record (group_at heads h) { page = here.page }) group) there.same
    ∙ outgrown_moved (group_at heads h) (group_at heads m) here.page there.page

pub laid_bound : (heads : Heads) → KeepsRulesBelow 5 heads → (c : ℕ) → breaks_bound (laid_heads heads) c ≡ false
laid_bound heads kept c = elim (cases_lt c (length heads.clusters)) [
  | inl below ↦
      let turn = in_turn heads (fewer heads 5 2 (omega arith) kept) in
      bound_at (laid_heads heads) c (omega (arith, ap length (laid_clusters heads), below))
      ∙ ap (λ h. is_maker_outside (laid_heads heads) h (cluster_at (laid_heads heads) c).made)
      (same_home heads c turn below)
      ∙ ap (λ cluster. is_maker_outside (laid_heads heads) (home heads c) cluster.made) (same_cluster heads c)
      ∙ same_outside heads (home heads c) (cluster_at heads c).made
      ∙ sym (bound_at heads c below) ∙ kept 4 c (omega arith)
  | inr beyond ↦ bound_beyond (laid_heads heads) c (omega (arith, ap length (laid_clusters heads), beyond))
]

-- a group's members and their triangles
pub same_size : (heads : Heads) (g : ℕ) → group_size (laid_heads heads) g ≡ group_size heads g
unfolding group_size laid_heads
same_size heads g =
    ap (λ first. sum_by (λ c. (cluster_at heads c).tris) (range_with_len first (group_at (laid_heads heads) g).count))
    (same_first heads g)
    ∙ ap (λ count. sum_by (λ c. (cluster_at heads c).tris) (range_with_len (group_at heads g).first count))
    (same_count heads g)
