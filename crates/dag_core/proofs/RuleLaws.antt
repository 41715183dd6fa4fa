-- The rules at a place: what each says there, and that it isn't broken beyond the last place.
use Rattle.std.proofs.Common.{◌≡◌, ◌<◌, ◌≤◌, ℕ, Bool, true, false, not, ◌&&◌, length, nat_lt, arith, cond, inl, inr}
use Rattle.std.proofs.Common.{subst}
use Rattle.std.proofs.Math.Nat.{eq-or-lt_of_le}
use Rattle.std.proofs.lemmas.Bool.Decides.{nat_tests}
use Rattle.dag_core.specs.declared.heads.Heads.{Heads}
use Rattle.dag_core.specs.Members.{group_at, cluster_at, home}
use Rattle.std.specs.List.{list_any}
use Rattle.dag_core.specs.Pages.{has_terminal_on, tris_on, uppers_of}
use Rattle.dag_core.specs.Internal.Tables.{is_bad_page}
use Rattle.dag_core.specs.Rules.{breaks_bound, breaks_maker, breaks_members, breaks_page, breaks_terminal, has_made}
use Rattle.dag_core.specs.Rules.{is_maker_at_most, is_maker_outside, members_before}

-- ---- beyond the last place

pub members_beyond : (heads : Heads) (g : ℕ) → length heads.groups < g → breaks_members heads g ≡ false
unfolding breaks_members
members_beyond heads g beyond = grind (arith, nat_tests)

pub maker_beyond : (heads : Heads) (c : ℕ) → length heads.clusters ≤ c → breaks_maker heads c ≡ false
unfolding breaks_maker
maker_beyond heads c beyond = grind (arith, nat_tests)

pub terminal_beyond : (heads : Heads) (g : ℕ) → length heads.groups ≤ g → breaks_terminal heads g ≡ false
unfolding breaks_terminal
terminal_beyond heads g beyond = grind (arith, nat_tests)

pub bound_beyond : (heads : Heads) (c : ℕ) → length heads.clusters ≤ c → breaks_bound heads c ≡ false
unfolding breaks_bound
bound_beyond heads c beyond = grind (arith, nat_tests)

pub page_beyond : (heads : Heads) (p : ℕ) → heads.pages ≤ p → breaks_page heads p ≡ false
unfolding breaks_page
page_beyond heads p beyond = grind (arith, nat_tests)

-- ---- at a place

pub members_at : (heads : Heads) (g : ℕ) → g < length heads.groups → (group_at heads g).first ≡ members_before heads g →
    breaks_members heads g ≡ false
unfolding breaks_members
members_at heads g below same = grind (arith, nat_tests)

pub members_broken : (heads : Heads) (g : ℕ) → g < length heads.groups →
    ((group_at heads g).first ≡ members_before heads g → ⊥) → breaks_members heads g ≡ true
unfolding breaks_members
members_broken heads g below differ = grind (arith, nat_tests)

pub members_all : (heads : Heads) → members_before heads (length heads.groups) ≡ length heads.clusters →
    breaks_members heads (length heads.groups) ≡ false
unfolding breaks_members
members_all heads same = grind (arith, nat_tests)

pub members_not_all : (heads : Heads) → (members_before heads (length heads.groups) ≡ length heads.clusters → ⊥) →
    breaks_members heads (length heads.groups) ≡ true
unfolding breaks_members
members_not_all heads differ = grind (arith, nat_tests)

-- from the number of groups on
pub members_from : (heads : Heads) (g : ℕ) → members_before heads (length heads.groups) ≡ length heads.clusters →
    length heads.groups ≤ g → breaks_members heads g ≡ false
members_from heads g same from = elim (eq-or-lt_of_le from) [
  | inl end ↦ subst (λ k. breaks_members heads k ≡ false) end (members_all heads same)
  | inr beyond ↦ members_beyond heads g beyond
]

at_place : (limit n : ℕ) (test : Bool) → n < limit → (nat_lt n limit && test) ≡ test
at_place limit n true below = grind (arith, nat_tests)
at_place limit n false below = grind (arith, nat_tests)

pub maker_at : (heads : Heads) (c : ℕ) → c < length heads.clusters →
    breaks_maker heads c ≡ is_maker_at_most (home heads c) (cluster_at heads c).made
unfolding breaks_maker
maker_at heads c below = at_place (length heads.clusters) c _ below

pub terminal_at : (heads : Heads) (g : ℕ) → g < length heads.groups →
    breaks_terminal heads g ≡ cond (group_at heads g).terminal (has_made heads g) (not (has_made heads g))
unfolding breaks_terminal
terminal_at heads g below = at_place (length heads.groups) g _ below

pub bound_at : (heads : Heads) (c : ℕ) → c < length heads.clusters →
    breaks_bound heads c ≡ is_maker_outside heads (home heads c) (cluster_at heads c).made
unfolding breaks_bound
bound_at heads c below = at_place (length heads.clusters) c _ below

-- the same of rule 5, by the number of triangles, the terminal groups and the later uppers of the page
pub page_at : (heads : Heads) (p : ℕ) → p < heads.pages →
    breaks_page heads p ≡ is_bad_page heads.roots p (tris_on heads p) (has_terminal_on heads p)
    (list_any (nat_lt p) (uppers_of heads p))
unfolding breaks_page is_bad_page
page_at heads p below = at_place heads.pages p _ below
