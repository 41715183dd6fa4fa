-- The rules of a DAG's heads, by number: 1 members, 2 makers, 3 terminal groups, 4 errors and boxes, 5 pages.
use Rattle.std.specs.Prelude.{◌≡◌, Bool, true, false, not, ◌&&◌, ◌||◌, ◌==◌, nat_le, nat_lt, ℕ, ◌<◌, length, take}
use Rattle.std.specs.Prelude.{sum_by, Option, Some, None, if◌then◌else◌}
use Rattle.std.specs.List.{list_any}
use Rattle.geom_core.specs.declared.limits.TheConstants.{PAGE_TRIANGLES}
use Rattle.geom_core.specs.Boxes.{holds_box}
use Rattle.dag_core.specs.declared.groups.Group.{Group}
use Rattle.dag_core.specs.declared.heads.Heads.{Heads}
use Rattle.dag_core.specs.Members.{group_at, cluster_at, home, is_made_by}
use Rattle.dag_core.specs.Pages.{has_terminal_on, tris_on, uppers_of}
use Rattle.dag_core.specs.Ranges.{is_count_to}

-- the number of members of the first g groups together
unfoldable pub members_before : Heads → ℕ → ℕ
members_before heads g = sum_by (λ group. group.count) (take g heads.groups)

-- rule 1, at a group: its members don't follow those of the groups before it. At the number of groups: all groups
-- together haven't as many members as there are clusters
unfoldable pub breaks_members : Heads → ℕ → Bool
breaks_members heads g =
    if nat_lt g (length heads.groups) then not ((group_at heads g).first == members_before heads g)
    else g == length heads.groups && not (members_before heads g == length heads.clusters)

-- a maker that isn't a greater group than the home
abbrev pub is_maker_at_most : ℕ → Option ℕ → Bool
is_maker_at_most home None = false
is_maker_at_most home (Some maker) = nat_le maker home

-- rule 2, at a cluster: its maker isn't a greater group than its home
unfoldable pub breaks_maker : Heads → ℕ → Bool
breaks_maker heads c = nat_lt c (length heads.clusters) && is_maker_at_most (home heads c) (cluster_at heads c).made

-- the group made a cluster
unfoldable pub has_made : Heads → ℕ → Bool
has_made heads g = list_any (is_made_by g) heads.clusters

-- rule 3, at a group: it is terminal and made a cluster, or it is neither
unfoldable pub breaks_terminal : Heads → ℕ → Bool
breaks_terminal heads g =
    nat_lt g (length heads.groups) && (if (group_at heads g).terminal then has_made heads g else not (has_made heads g))

-- the maker's error is greater than that of a home that isn't terminal, or its box doesn't lie in the home's
unfoldable pub is_outgrown : Group → Group → Bool
is_outgrown home maker = not home.terminal && nat_lt home.error maker.error || not (holds_box home.cube maker.cube)

-- a maker that the home doesn't bound
abbrev pub is_maker_outside : Heads → ℕ → Option ℕ → Bool
is_maker_outside heads home None = false
is_maker_outside heads home (Some maker) = is_outgrown (group_at heads home) (group_at heads maker)

-- rule 4, at a cluster: its home doesn't bound its maker
unfoldable pub breaks_bound : Heads → ℕ → Bool
breaks_bound heads c =
    nat_lt c (length heads.clusters) && is_maker_outside heads (home heads c) (cluster_at heads c).made

-- rule 5, at a page: it has no triangle or too many, or a terminal group though it is no root page, or an upper of a
-- greater number
unfoldable pub breaks_page : Heads → ℕ → Bool
breaks_page heads p =
    nat_lt p heads.pages && (not (is_count_to PAGE_TRIANGLES (tris_on heads p))
    || nat_le heads.roots p && has_terminal_on heads p
    || list_any (nat_lt p) (uppers_of heads p))

-- the rule of this number is broken at this index
abbrev pub breaks : ℕ → Heads → ℕ → Bool
breaks rule heads index =
    if rule == 1 then breaks_members heads index
    else (if rule == 2 then breaks_maker heads index
    else (if rule == 3 then breaks_terminal heads index
    else (if rule == 4 then breaks_bound heads index
    else (if rule == 5 then breaks_page heads index
    else false))))

-- no rule of a number below this one is broken
abbrev pub KeepsRulesBelow : ℕ → Heads → Type 0
KeepsRulesBelow number heads = (rule index : ℕ) → rule < number → breaks rule heads index ≡ false

-- no rule is broken
abbrev pub Checked : Heads → Type 0
Checked heads = (rule index : ℕ) → breaks rule heads index ≡ false

-- the first rule that is broken, at the first index where it is
pub record IsFirstBreak (heads : Heads) (rule index : ℕ) : Type 0 where
  pub broken : breaks rule heads index ≡ true
  pub first_index : (before : ℕ) → before < index → breaks rule heads before ≡ false
  pub first_rule : KeepsRulesBelow rule heads
