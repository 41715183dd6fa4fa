-- What holds of each cluster and each group of the levels of a mesh.
use Rattle.std.proofs.Common.{◌≡◌, ◌∙◌, ◌≤◌, ◌+◌, cond, ℕ, Bool, true, false, List, [], ◌∷◌, length, map, get_or, All}
use Rattle.std.proofs.Common.{refl, sym, ap, subst, arith}
use Rattle.std.specs.Bool.{⊤}
use Rattle.std.proofs.lemmas.List.{length-map}
use Rattle.std.proofs.lemmas.List.Elements.{All-append, All-head, All-map, All-nil, All-tail, All-weaker}
use Rattle.std.proofs.lemmas.List.Sorted.{All-permutation}
use Rattle.geom_core.specs.declared.limits.TheConstants.{CLUSTERS_PER_GROUP, MAX_ERROR, MAX_TRIANGLES}
use Rattle.geom_core.specs.declared.limits.TheConstants.{TRIANGLES_PER_CLUSTER}
use Rattle.geom_core.specs.declared.triangles.Tri.{Tri}
use Rattle.rim_collapse.specs.Moved.{moved_of}
use Rattle.partition.specs.Batches.{pick}
use Rattle.partition.specs.Groups.{rim_edges, shape_key}
use Rattle.partition.proofs.BatchLaws.{full_of_items}
use Rattle.dag_build.specs.declared.level_clusters.LevelCluster.{LevelCluster}
use Rattle.dag_build.specs.Built.{AreLevels, IsLevel}
use Rattle.dag_build.specs.Grouping.{AreGrouped, full_sizes, no_cluster}
use Rattle.dag_build.specs.Levels.{LevelGroup, clusters_of, made_from, next_clusters, tris_in}
use Rattle.dag_build.specs.Numbers.{members_in}
use Rattle.dag_build.specs.Outcomes.{IsOutcome, greatest_error, points_of}
use Rattle.dag_build.specs.Internal.DoneLevels.{IsProper}
use Rattle.dag_build.proofs.ElementLaws.{All-first, All-mapped, All-parts, All-second}
use Rattle.dag_build.proofs.LevelLaws.{LevelIs, level-is, members-moved}
use Rattle.dag_build.proofs.OutcomeLaws.{goes_on}
use Rattle.dag_build.proofs.GoodClusters.{HasMaker, IsGood, IsGoodGroup}
use Rattle.dag_build.proofs.GroupBounds.{hull-box, points-grid, full_error, bounds_of}
use Rattle.dag_build.proofs.MadeClusters.{next-have, made-good}

-- ---- groups

outcome-limit : (size level_clusters : ℕ) (group : LevelGroup) → IsOutcome size level_clusters group →
    group.error ≤ MAX_ERROR
outcome-limit size level_clusters group is = go group.terminal refl
  where
    go : (b : Bool) → group.terminal ≡ b → group.error ≤ MAX_ERROR
    go true ends =
        let zero : group.error ≡ 0 = is.error ∙ ap (λ b. cond b 0
        (moved_of is.kept + greatest_error group.members)) ends in
        omega (arith, zero)
    go false off =
        let same = is.error ∙ full_error group.terminal (moved_of is.kept + greatest_error group.members) off in
        let on = goes_on level_clusters (length (tris_in group.members)) (length is.kept)
        (moved_of is.kept + greatest_error group.members)
        (sym is.terminal ∙ off) in
        omega (arith, same, on.error_limit)

-- 1 to 8 members
record HasFew (members : List LevelCluster) : Type 0 where
  some : 1 ≤ length members
  limit : length members ≤ CLUSTERS_PER_GROUP

members-few : (clusters : List LevelCluster) (groups : List LevelGroup) →
    AreGrouped CLUSTERS_PER_GROUP clusters (map (λ group. group.members) groups) →
    All (λ group. HasFew group.members) groups
members-few clusters groups g =
    let keys = map shape_key g.shapes in
    let full = full_of_items keys (map rim_edges g.shapes) CLUSTERS_PER_GROUP g.batches (omega arith) g.grown in
    let members : LevelGroup → List LevelCluster = λ group. group.members in
    All-mapped HasFew members groups
    (subst (All HasFew) (sym g.picked)
    (All-map HasFew (pick clusters no_cluster) g.batches
    (λ k d h. let named : ℕ → LevelCluster = λ n. get_or clusters n no_cluster in
    let len = length-map (get_or g.batches k d) named in
    let some = full.not_empty k d h in
    let limit = full.size_limit k d h in
    record { some = omega arith; limit = omega arith })))

-- ---- levels

-- a level of a mesh, and the groups of the level before it; where there are none, it is level 0
pub record IsGoodLevel (tris : List Tri) (before groups : List LevelGroup) : Type 0 where
  pub members : All (IsGood tris) (members_in groups)
  pub makers : All (λ cluster. HasMaker before cluster.maker) (members_in groups)
  pub groups_good : All IsGoodGroup groups

unfoldable pub AreGoodLevels : List Tri → List LevelGroup → List (List LevelGroup) → Type 0
AreGoodLevels tris before [] = ⊤
AreGoodLevels tris before (groups ∷ levels) = IsGoodLevel tris before groups × AreGoodLevels tris groups levels

-- the clusters of a level
pub record AreGoodClusters (tris : List Tri) (before : List LevelGroup) (clusters : List LevelCluster) : Type 0 where
  pub good : All (IsGood tris) clusters
  pub makers : All (λ cluster. HasMaker before cluster.maker) clusters
  pub limit : length (tris_in clusters) ≤ MAX_TRIANGLES

-- a level and the clusters of the next one
pub record LeadsOn (tris : List Tri) (before groups : List LevelGroup) : Type 0 where
  pub level : IsGoodLevel tris before groups
  pub next : AreGoodClusters tris groups (next_clusters groups)

groups-made : (tris : List Tri) (level_clusters place : ℕ) (groups : List LevelGroup) →
    All (IsOutcome TRIANGLES_PER_CLUSTER level_clusters) groups → All IsGoodGroup groups →
    All (λ group. All (IsGood tris) group.members) groups → All IsProper (made_from place groups) →
    All (IsGood tris) (made_from place groups)
unfolding made_from
groups-made tris level_clusters place [] outcomes good members proper = All-nil (IsGood tris)
groups-made tris level_clusters place (group ∷ groups) outcomes good members proper =
    let P : LevelGroup → Type 0 = IsOutcome TRIANGLES_PER_CLUSTER level_clusters in
    let M : LevelGroup → Type 0 = λ g. All (IsGood tris) g.members in
    let here : IsGoodGroup group = All-head IsGoodGroup group groups good in
    All-append (IsGood tris) (clusters_of place group) (made_from (place + 1) groups)
    (made-good tris level_clusters place group (All-head P group groups outcomes) here.box
    (All-head M group groups members)
    (All-first IsProper (clusters_of place group) (made_from (place + 1) groups) proper))
    (groups-made tris level_clusters (place + 1) groups (All-tail P group groups outcomes)
    (All-tail IsGoodGroup group groups good)
    (All-tail M group groups members) (All-second IsProper (clusters_of place group) (made_from
    (place + 1) groups) proper))

pub level-good : (tris : List Tri) (before : List LevelGroup) (clusters : List LevelCluster)
    (groups : List LevelGroup) →
    AreGoodClusters tris before clusters → IsLevel full_sizes clusters groups → LeadsOn tris before groups
level-good tris before clusters groups are level =
    let moved = members-moved CLUSTERS_PER_GROUP clusters groups level.grouped in
    let members : LevelGroup → List LevelCluster = λ group. group.members in
    let good = All-permutation (IsGood tris) clusters (members_in groups) moved are.good in
    let Q : LevelCluster → Type 0 = λ cluster. HasMaker before cluster.maker in
    let by_group = All-parts (IsGood tris) members groups good in
    let few = members-few clusters groups level.grouped in
    let proper = All-weaker (IsGood tris) IsProper (λ cluster h. h.proper) clusters are.good in
    let on : LevelIs clusters groups = level-is clusters groups proper are.limit level in
    let each : All IsGoodGroup groups = λ k d within.
    let group = get_or groups k d in
    let outcome : IsOutcome TRIANGLES_PER_CLUSTER (length clusters) group = level.outcomes k d within in
    let size : HasFew group.members = few k d within in
    record {
      some = size.some;
      member_limit = size.limit;
      error_limit = outcome-limit TRIANGLES_PER_CLUSTER (length clusters) group outcome;
      box = hull-box (points_of group.members) group.cube outcome.cube (points-grid tris group.members
          (by_group k d within));
      bounds = bounds_of TRIANGLES_PER_CLUSTER (length clusters) group outcome;
    } in
    record {
      level = record {
        members = good;
        makers = All-permutation Q clusters (members_in groups) moved are.makers;
        groups_good = each;
      };
      next = record {
        good = groups-made tris (length clusters) 0 groups level.outcomes each by_group on.next;
        makers = next-have TRIANGLES_PER_CLUSTER (length clusters) groups level.outcomes;
        limit = omega (arith, on.shrinks, are.limit);
      };
    }

pub levels-good : (tris : List Tri) (before : List LevelGroup) (clusters : List LevelCluster) (levels : List
    (List LevelGroup)) →
    AreGoodClusters tris before clusters → AreLevels full_sizes clusters levels → AreGoodLevels tris before levels
unfolding AreLevels AreGoodLevels
levels-good tris before clusters [] are levels = tt
levels-good tris before clusters (groups ∷ rest) are levels =
    let on = level-good tris before clusters groups are levels.1.0 in
    (on.level, levels-good tris groups (next_clusters groups) rest on.next levels.1.1)
