-- A built DAG keeps rules 1 to 4, and its numbers keep their ranges.
use Rattle.std.proofs.Common.{◌≡◌, ◌∙◌, ◌<◌, ◌≤◌, ◌+◌, ◌==◌, ◌&&◌, ◌||◌, nat_le, nat_lt, not, cond, ℕ, zero, suc, Bool}
use Rattle.std.proofs.Common.{true, false, List, [], length, Option, None, Some, refl, sym, ap, subst, arith}
use Rattle.std.specs.List.{list_any}
use Rattle.std.proofs.lemmas.Bool.{and_from, eqb-true, false≢true, false_from_ne_true, not_from_true, or_from}
use Rattle.std.proofs.lemmas.Bool.Decides.{nat_tests}
use Rattle.std.proofs.lemmas.List.Elements.{All-from_get_or}
use Rattle.std.proofs.lemmas.List.Folds.{list_any_none}
use Rattle.geom_core.specs.declared.limits.TheConstants.{CLUSTERS_PER_GROUP, MAX_CLUSTERS, MAX_ERROR, MAX_GROUPS}
use Rattle.geom_core.specs.declared.limits.TheConstants.{MAX_PAGES, MAX_TRIANGLES, TRIANGLES_PER_CLUSTER}
use Rattle.geom_core.specs.declared.triangles.Tri.{Tri}
use Rattle.geom_core.specs.Boxes.{holds_box}
use Rattle.dag_core.specs.declared.cluster_heads.ClusterHead.{ClusterHead}
use Rattle.dag_core.specs.declared.counts.Counts.{Counts}
use Rattle.dag_core.specs.declared.groups.Group.{Group}
use Rattle.dag_core.specs.declared.heads.Heads.{Heads}
use Rattle.dag_core.specs.Members.{group_at, home, is_made_by, is_maker, no_group}
use Rattle.dag_core.specs.Members as dag_members
use Rattle.dag_core.specs.Ranges.{AreCountsInRange, IsClusterInRange, IsGroupInRange, IsInRange, counts_of, is_count_to}
use Rattle.dag_core.specs.Ranges.{is_group_or_none}
use Rattle.dag_core.specs.Rules.{KeepsRulesBelow, breaks, breaks_bound, breaks_maker, breaks_terminal, has_made}
use Rattle.dag_core.specs.Rules.{is_maker_at_most, is_maker_outside, is_outgrown}
use Rattle.dag_core.proofs.PlaceLaws.{none_at_all}
use Rattle.dag_core.proofs.RuleLaws.{bound_at, bound_beyond, maker_at, maker_beyond, terminal_at, terminal_beyond}
use Rattle.dag_build.specs.declared.level_clusters.LevelCluster.{LevelCluster}
use Rattle.dag_build.specs.declared.level_clusters.Maker.{Maker}
use Rattle.dag_build.specs.Built.{AreLevels}
use Rattle.dag_build.specs.Grouping.{full_sizes, no_cluster}
use Rattle.dag_build.specs.Levels.{LevelGroup}
use Rattle.dag_build.specs.Numbers.{group_head, groups_in, maker_number, members_in}
use Rattle.dag_build.proofs.GroupNumbers.{AreHeadsOf, cluster-count, first_at, group-at, group-count, home-at, in-turn}
use Rattle.dag_build.proofs.GroupNumbers.{member-below, member-is}
use Rattle.dag_build.proofs.ClusterHomes.{IsClusterAt, cluster-at, groups-good, members-good}
use Rattle.dag_build.proofs.GoodLevels.{AreGoodLevels}
use Rattle.dag_build.proofs.GoodClusters.{HasMaker, IsBound, IsBoundOf, IsGood, IsGoodGroup, group_of_level}
use Rattle.dag_build.proofs.GoodClusters.{no_level_group}
use Rattle.dag_build.proofs.MadeLaws.{has-made}

-- ---- rule 2

after_home : (home base place : ℕ) → home < base → nat_le (base + place) home ≡ false
after_home home base place h = grind (arith, nat_tests)

maker-after : (home base : ℕ) (maker : Option Maker) → home < base →
    is_maker_at_most home (maker_number base maker) ≡ false
maker-after home base None h = refl
maker-after home base (Some maker) h = after_home home base maker.group h

maker-kept : (tris : List Tri) (levels : List (List LevelGroup)) (heads : Heads) (c : ℕ) → AreHeadsOf levels heads →
    AreGoodLevels tris [] levels → c < length heads.clusters → breaks_maker heads c ≡ false
maker-kept tris levels heads c are good below =
    let at = cluster-at tris levels heads c are good below in
    let home_is : home heads c ≡ at.home = ap (home heads) at.number
    ∙ home-at levels heads at.home at.item are at.home_within at.item_within in
    maker_at heads c below
    ∙ (ap (λ h. is_maker_at_most h (dag_members.cluster_at heads c).made) home_is
    ∙ (ap (λ (head : ClusterHead). is_maker_at_most at.home head.made) at.head
    ∙ maker-after at.home at.base at.cluster.maker at.home_before))

-- ---- rule 4

bounded : (terminal : Bool) (error other : ℕ) (held : Bool) → (terminal ≡ false → other ≤ error) → held ≡ true →
    (not terminal && nat_lt error other || not held) ≡ false
bounded true error other held below inside = not_from_true held inside
bounded false error other held below inside =
    or_from (nat_lt error other) (not held) (not_less error other (below refl)) (not_from_true held inside)
  where
    not_less : (m n : ℕ) → n ≤ m → nat_lt m n ≡ false
    not_less m n h = grind (arith, nat_tests)

not_outgrown : (first other : ℕ) (group maker_group : LevelGroup) (maker : Maker) → IsBoundOf group maker →
    maker_group.error ≡ maker.error →
    maker_group.cube ≡ maker.cube → is_outgrown (group_head first group) (group_head other maker_group) ≡ false
unfolding is_outgrown
not_outgrown first other group maker_group maker bound error cube =
    bounded group.terminal group.error maker_group.error (holds_box group.cube maker_group.cube)
    (λ off. let below = bound.error off in omega (arith, error, below))
    (ap (holds_box group.cube) cube ∙ bound.cube)

bound-held : (levels : List (List LevelGroup)) (heads : Heads) (before : List LevelGroup) (g base : ℕ)
    (maker : Option Maker) →
    AreHeadsOf levels heads → g < length (groups_in levels) → HasMaker before maker →
    IsBound (group_of_level (groups_in levels) g) maker →
    ((j : ℕ) → j < length before → (base + j < length (groups_in levels)) × (group_of_level (groups_in levels)
    (base + j) ≡ group_of_level before j)) →
    is_maker_outside heads g (maker_number base maker) ≡ false
bound-held levels heads before g base None are within has bound makers = refl
bound-held levels heads before g base (Some maker) are within has bound makers =
    let gs : List LevelGroup = groups_in levels in
    let there = makers maker.group has.within in
    let m : ℕ = base + maker.group in
    let error : (group_of_level gs m).error ≡ maker.error = ap (λ (group : LevelGroup). group.error) there.1
    ∙ has.error in
    let cube : (group_of_level gs m).cube ≡ maker.cube = ap (λ (group : LevelGroup). group.cube) there.1 ∙ has.cube in
    ap (λ group. is_outgrown group (group_at heads m)) (group-at levels heads g are within)
    ∙ (ap (is_outgrown (group_head (first_at gs g) (group_of_level gs g))) (group-at levels heads m are there.0)
    ∙ not_outgrown (first_at gs g) (first_at gs m) (group_of_level gs g) (group_of_level gs m) maker bound error cube)

bound-kept : (tris : List Tri) (levels : List (List LevelGroup)) (heads : Heads) (c : ℕ) → AreHeadsOf levels heads →
    AreGoodLevels tris [] levels → c < length heads.clusters → breaks_bound heads c ≡ false
bound-kept tris levels heads c are good below =
    let gs : List LevelGroup = groups_in levels in
    let at = cluster-at tris levels heads c are good below in
    let home_is : home heads c ≡ at.home = ap (home heads) at.number
    ∙ home-at levels heads at.home at.item are at.home_within at.item_within in
    let group : IsGoodGroup (group_of_level gs at.home) = groups-good tris [] levels good at.home no_level_group
    at.home_within in
    let bound : IsBound (group_of_level gs at.home) at.cluster.maker =
    subst (λ (cluster : LevelCluster). IsBound (group_of_level gs at.home) cluster.maker) at.is
    (group.bounds at.item no_cluster at.item_within) in
    bound_at heads c below
    ∙ (ap (λ h. is_maker_outside heads h (dag_members.cluster_at heads c).made) home_is
    ∙ (ap (λ (head : ClusterHead). is_maker_outside heads at.home head.made) at.head
    ∙ bound-held levels heads at.before at.home at.base at.cluster.maker are at.home_within at.maker bound at.makers))

-- ---- rule 3

-- a terminal group made nothing
maker-goes_on : (groups before : List LevelGroup) (g base : ℕ) (maker : Option Maker) → HasMaker before maker →
    ((j : ℕ) → j < length before → (base + j < length groups) × (group_of_level groups
    (base + j) ≡ group_of_level before j)) →
    (group_of_level groups g).terminal ≡ true → is_maker g (maker_number base maker) ≡ false
maker-goes_on groups before g base None has makers ends = refl
maker-goes_on groups before g base (Some maker) has makers ends =
    false_from_ne_true (base + maker.group == g)
    (λ same. let there = makers maker.group has.within in
    let terminal : LevelGroup → Bool = λ group. group.terminal in
    let off : (group_of_level groups (base + maker.group)).terminal ≡ false = ap terminal there.1 ∙ has.goes_on in
    let at : (group_of_level groups (base + maker.group)).terminal ≡ (group_of_level groups g).terminal =
    ap (λ n. (group_of_level groups n).terminal) (eqb-true (base + maker.group) g same) in
    false≢true (sym off ∙ (at ∙ ends)))

none-made : (tris : List Tri) (levels : List (List LevelGroup)) (heads : Heads) (g : ℕ) → AreHeadsOf levels heads →
    AreGoodLevels tris [] levels → (group_of_level (groups_in levels) g).terminal ≡ true → has_made heads g ≡ false
unfolding has_made
none-made tris levels heads g are good ends =
    let P : ClusterHead → Type 0 = λ head. is_made_by g head ≡ false in
    list_any_none (is_made_by g) heads.clusters
    (All-from_get_or P heads.clusters dag_members.no_cluster
    (λ c below. let at = cluster-at tris levels heads c are good below in
    ap (is_made_by g) at.head ∙ maker-goes_on (groups_in levels) at.before g at.base at.cluster.maker at.maker
    at.makers ends))

some-made : (levels : List (List LevelGroup)) (heads : Heads) (clusters : List LevelCluster) (g : ℕ) →
    AreHeadsOf levels heads →
    AreLevels full_sizes clusters levels → g < length (groups_in levels) →
    (group_of_level (groups_in levels) g).terminal ≡ false →
    has_made heads g ≡ true
unfolding has_made
some-made levels heads clusters g are grown within off =
    ap (list_any (is_made_by g)) are.clusters ∙ has-made full_sizes clusters levels g grown within off

terminal-kept : (tris : List Tri) (levels : List (List LevelGroup)) (heads : Heads) (clusters : List LevelCluster)
    (g : ℕ) →
    AreHeadsOf levels heads → AreGoodLevels tris [] levels → AreLevels full_sizes clusters levels →
    g < length heads.groups →
    breaks_terminal heads g ≡ false
terminal-kept tris levels heads clusters g are good grown below =
    let count = group-count levels heads are in
    let within : g < length (groups_in levels) = omega arith in
    terminal_at heads g below
    ∙ (ap (λ (group : Group). cond group.terminal (has_made heads g) (not (has_made heads g)))
    (group-at levels heads g are within)
    ∙ go (group_of_level (groups_in levels) g).terminal refl within)
  where
    go : (b : Bool) → (group_of_level (groups_in levels) g).terminal ≡ b → g < length (groups_in levels) →
        cond (group_of_level (groups_in levels) g).terminal (has_made heads g) (not (has_made heads g)) ≡ false
    go true ends within =
        ap (λ b. cond b (has_made heads g) (not (has_made heads g))) ends ∙ none-made tris levels heads g are good ends
    go false off within =
        ap (λ b. cond b (has_made heads g) (not (has_made heads g))) off
        ∙ not_from_true (has_made heads g) (some-made levels heads clusters g are grown within off)

-- ---- all four

rule_below : (P : ℕ → Type 0) (rule : ℕ) → rule < 5 → P 0 → P 1 → P 2 → P 3 → P 4 → P rule
rule_below P zero below a b c d e = a
rule_below P (suc zero) below a b c d e = b
rule_below P (suc (suc zero)) below a b c d e = c
rule_below P (suc (suc (suc zero))) below a b c d e = d
rule_below P (suc (suc (suc (suc zero)))) below a b c d e = e
rule_below P (suc (suc (suc (suc (suc n))))) below a b c d e = absurd (omega arith)

pub rules-kept : (tris : List Tri) (levels : List (List LevelGroup)) (heads : Heads) (clusters : List LevelCluster) →
    AreHeadsOf levels heads →
    AreGoodLevels tris [] levels → AreLevels full_sizes clusters levels → KeepsRulesBelow 5 heads
rules-kept tris levels heads clusters are good grown rule index below =
    rule_below (λ number. breaks number heads index ≡ false) rule below refl
    (in-turn levels heads are index)
    (none_at_all (breaks_maker heads) (length heads.clusters)
    (λ c within. maker-kept tris levels heads c are good within)
    (maker_beyond heads) index)
    (none_at_all (breaks_terminal heads) (length heads.groups)
    (λ g within. terminal-kept tris levels heads clusters g are good grown within)
    (terminal_beyond heads) index)
    (none_at_all (breaks_bound heads) (length heads.clusters)
    (λ c within. bound-kept tris levels heads c are good within)
    (bound_beyond heads) index)

-- ---- ranges

-- how many groups, clusters and sources there are
pub record AreCounts (sources : ℕ) (levels : List (List LevelGroup)) (heads : Heads) : Type 0 where
  pub some_groups : 1 ≤ length (groups_in levels)
  pub group_limit : length (groups_in levels) ≤ MAX_GROUPS
  pub some_clusters : 1 ≤ length (members_in (groups_in levels))
  pub cluster_limit : length (members_in (groups_in levels)) ≤ MAX_CLUSTERS
  pub some_sources : 1 ≤ sources
  pub source_limit : sources ≤ MAX_TRIANGLES
  pub sources_are : heads.sources ≡ sources
  pub pages : heads.pages ≡ 1
  pub roots : heads.roots ≡ 1
  pub are : AreHeadsOf levels heads

counted : (most n : ℕ) → 1 ≤ n → n ≤ most → is_count_to most n ≡ true
counted most n some limit = grind (arith, nat_tests)

less : (m n : ℕ) → m < n → nat_lt m n ≡ true
less m n h = grind (arith, nat_tests)

most : (m n : ℕ) → m ≤ n → nat_le m n ≡ true
most m n h = grind (arith, nat_tests)

counts-in-range : (sources : ℕ) (levels : List (List LevelGroup)) (heads : Heads) → AreCounts sources levels heads →
    AreCountsInRange (counts_of heads)
counts-in-range sources levels heads are =
    let groups = group-count levels heads are.are in
    let clusters = cluster-count levels heads are.are in
    record {
      groups = counted MAX_GROUPS (length heads.groups) (omega (arith, are.some_groups)) (omega
          (arith, are.group_limit));
      clusters = counted MAX_CLUSTERS (length heads.clusters) (omega (arith, are.some_clusters)) (omega
          (arith, are.cluster_limit));
      pages = counted MAX_PAGES heads.pages (omega (arith, are.pages)) (omega (arith, are.pages));
      roots = counted heads.pages heads.roots (omega (arith, are.roots)) (omega (arith, are.roots, are.pages));
      sources = counted MAX_TRIANGLES heads.sources (omega (arith, are.sources_are, are.some_sources)) (omega
          (arith, are.sources_are, are.source_limit));
    }

group-in-range : (heads : Heads) (levels : List (List LevelGroup)) (sources g : ℕ) → AreCounts sources levels heads →
    g < length (groups_in levels) →
    IsGoodGroup (group_of_level (groups_in levels) g) →
    IsGroupInRange (counts_of heads) (group_head (first_at (groups_in levels) g) (group_of_level (groups_in levels) g))
group-in-range heads levels sources g are within good =
    let gs : List LevelGroup = groups_in levels in
    let group : LevelGroup = group_of_level gs g in
    let clusters = cluster-count levels heads are.are in
    let first = member-below gs g 0 within (omega (arith, good.some)) in
    record {
      error = most group.error MAX_ERROR good.error_limit;
      box = good.box;
      page = less 0 heads.pages (omega (arith, are.pages));
      members = and_from (is_count_to CLUSTERS_PER_GROUP (length group.members)) (nat_le (first_at gs g)
          (length heads.clusters))
          (counted CLUSTERS_PER_GROUP (length group.members) good.some good.member_limit)
          (most (first_at gs g) (length heads.clusters) (omega arith));
    }

maker-in-range : (counts : Counts) (groups before : List LevelGroup) (base : ℕ) (maker : Option Maker) →
    HasMaker before maker →
    counts.groups ≡ length groups →
    ((j : ℕ) → j < length before → (base + j < length groups) × (group_of_level groups
    (base + j) ≡ group_of_level before j)) →
    is_group_or_none counts (maker_number base maker) ≡ true
maker-in-range counts groups before base None has count makers = refl
maker-in-range counts groups before base (Some maker) has count makers =
    let there = makers maker.group has.within in
    less (base + maker.group) counts.groups (omega (arith, there.0))

-- the cluster is one of a level
pub cluster-good : (tris : List Tri) (levels : List (List LevelGroup)) (heads : Heads) (c : ℕ) →
    AreGoodLevels tris [] levels →
    (at : IsClusterAt (groups_in levels) heads.clusters c) → IsGood tris at.cluster
cluster-good tris levels heads c good at =
    let gs : List LevelGroup = groups_in levels in
    let number : ℕ = first_at gs at.home + at.item in
    let below = member-below gs at.home at.item at.home_within at.item_within in
    subst (IsGood tris) (member-is gs at.home at.item at.home_within at.item_within ∙ at.is)
    (members-good tris [] levels good number no_cluster below)

cluster-in-range : (tris : List Tri) (heads : Heads) (levels : List (List LevelGroup)) (sources c : ℕ) →
    AreCounts sources levels heads →
    AreGoodLevels tris [] levels → c < length heads.clusters →
    IsClusterInRange (counts_of heads) (dag_members.cluster_at heads c)
cluster-in-range tris heads levels sources c are good below =
    let at = cluster-at tris levels heads c are.are good below in
    let one = cluster-good tris levels heads c good at in
    let size = one.proper in
    subst (IsClusterInRange (counts_of heads)) (sym at.head) (record {
      maker = maker-in-range (counts_of heads) (groups_in levels) at.before at.base at.cluster.maker at.maker
          (group-count levels heads are.are) at.makers;
      size = counted TRIANGLES_PER_CLUSTER (length at.cluster.tris) size.some size.triangle_limit;
    })

pub heads-in-range : (tris : List Tri) (heads : Heads) (levels : List (List LevelGroup)) (sources : ℕ) →
    AreCounts sources levels heads →
    AreGoodLevels tris [] levels → IsInRange heads
heads-in-range tris heads levels sources are good =
    let count = group-count levels heads are.are in
    record {
      counts = counts-in-range sources levels heads are;
      groups = All-from_get_or (IsGroupInRange (counts_of heads)) heads.groups no_group
          (λ g below. let within : g < length (groups_in levels) = omega arith in
          subst (IsGroupInRange (counts_of heads)) (sym (group-at levels heads g are.are within))
          (group-in-range heads levels sources g are within (groups-good tris [] levels good g no_level_group within)));
      clusters = All-from_get_or (IsClusterInRange (counts_of heads)) heads.clusters dag_members.no_cluster
          (λ c below. cluster-in-range tris heads levels sources c are good below);
    }
