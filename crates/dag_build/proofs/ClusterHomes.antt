-- Where the clusters of all levels are: in which group, and which group made them.
use Rattle.std.proofs.Common.{◌≡◌, ◌∙◌, ◌<◌, ◌+◌, ◌-◌, inl, inr, ℕ, List, [], ◌∷◌, ◌++◌, length, map, take, get_or, All}
use Rattle.std.proofs.Common.{sym, ap, subst, arith}
use Rattle.std.proofs.Math.Seq.{take-append-add}
use Rattle.std.proofs.lemmas.Bool.{cases_lt}
use Rattle.std.proofs.lemmas.List.{append-nil, append_assoc, get_or-append-add, get_or-map, get_or_append_left}
use Rattle.std.proofs.lemmas.List.{length-append, length-map, take-append-le}
use Rattle.std.proofs.lemmas.List.Elements.{All-append, All-nil}
use Rattle.geom_core.specs.declared.triangles.Tri.{Tri}
use Rattle.dag_core.specs.declared.cluster_heads.ClusterHead.{ClusterHead}
use Rattle.dag_core.specs.declared.heads.Heads.{Heads}
use Rattle.dag_core.specs.Members.{cluster_at, group_at, home, no_group}
use Rattle.dag_core.specs.Members as dag_members
use Rattle.dag_build.specs.declared.level_clusters.LevelCluster.{LevelCluster}
use Rattle.dag_build.specs.Grouping.{no_cluster}
use Rattle.dag_build.specs.Levels.{LevelGroup}
use Rattle.dag_build.specs.Numbers.{clusters_in, groups_in, head_of, members_in}
use Rattle.dag_build.proofs.GoodLevels.{AreGoodLevels, IsGoodLevel}
use Rattle.dag_build.proofs.GoodClusters.{HasMaker, IsGood, IsGoodGroup, group_of_level, no_level_group}
use Rattle.dag_build.proofs.NumberLaws.{clusters_in-length, members_in-append}
use Rattle.dag_build.proofs.GroupNumbers.{first_at, AreHeadsOf, member-at, member-is}

-- ---- levels among others

-- the groups and clusters of these levels come first; then those of the level before them
pub record ArePart (groups : List LevelGroup) (clusters : List ClusterHead) (before : List LevelGroup)
    (levels : List (List LevelGroup)) : Type 0 where
  pub more : List LevelGroup
  pub more_heads : List ClusterHead
  pub groups_are : groups ≡ groups_in levels ++ (before ++ more)
  pub clusters_are : clusters ≡ clusters_in levels ++ more_heads

pub part-all : (levels : List (List LevelGroup)) → ArePart (groups_in levels) (clusters_in levels) [] levels
part-all levels = record {
  more = [];
  more_heads = [];
  groups_are = sym (append-nil (groups_in levels));
  clusters_are = sym (append-nil (clusters_in levels));
}

pub part-later : (groups : List LevelGroup) (clusters : List ClusterHead) (before level : List LevelGroup)
    (levels : List (List LevelGroup)) →
    ArePart groups clusters before (level ∷ levels) → ArePart groups clusters level levels
unfolding groups_in clusters_in
part-later groups clusters before level levels part = record {
  more = before ++ part.more;
  more_heads = map (head_of (length (groups_in levels ++ level))) (members_in level) ++ part.more_heads;
  groups_are = part.groups_are ∙ append_assoc (groups_in levels) level (before ++ part.more);
  clusters_are = part.clusters_are
      ∙ append_assoc (clusters_in levels) (map (head_of (length (groups_in levels ++ level)))
      (members_in level)) part.more_heads;
}

-- the cluster of this number: its home, its place there, and where the groups of its maker's level are numbered from
pub record IsClusterAt (groups : List LevelGroup) (clusters : List ClusterHead) (c : ℕ) : Type 0 where
  pub before : List LevelGroup
  pub base : ℕ
  pub home : ℕ
  pub item : ℕ
  pub cluster : LevelCluster
  pub home_within : home < length groups
  pub item_within : item < length (group_of_level groups home).members
  pub number : c ≡ first_at groups home + item
  pub is : get_or (group_of_level groups home).members item no_cluster ≡ cluster
  pub head : get_or clusters c dag_members.no_cluster ≡ head_of base cluster
  pub maker : HasMaker before cluster.maker
  pub home_before : home < base
  pub makers : (j : ℕ) → j < length before → (base + j < length groups) × (group_of_level groups
      (base + j) ≡ group_of_level before j)

-- a cluster of the first of these levels
cluster-here : (tris : List Tri) (groups : List LevelGroup) (clusters : List ClusterHead)
    (before level : List LevelGroup)
    (levels : List (List LevelGroup)) (k : ℕ) → ArePart groups clusters before (level ∷ levels) →
    IsGoodLevel tris before level →
    k < length (members_in level) → IsClusterAt groups clusters (length (clusters_in levels) + k)
unfolding groups_in clusters_in
cluster-here tris groups clusters before level levels k part good within =
    let m = member-at level k within in
    let later : List LevelGroup = groups_in levels in
    let base : ℕ = length (later ++ level) in
    let heads : List ClusterHead = map (head_of base) (members_in level) in
    let rest : List LevelGroup = before ++ part.more in
    let order : groups ≡ later ++ (level ++ rest) = part.groups_are ∙ append_assoc later level rest in
    let at : group_of_level groups (length later + m.group) ≡ group_of_level level m.group =
    ap (λ list. group_of_level list (length later + m.group)) order
    ∙ (get_or-append-add later (level ++ rest) m.group no_level_group
    ∙ get_or_append_left level rest no_level_group m.group m.within) in
    let count = ap length order in
    let count_later = length-append later (level ++ rest) in
    let count_level = length-append level rest in
    let count_rest = length-append before part.more in
    let base_is = length-append later level in
    let cluster : LevelCluster = get_or (group_of_level level m.group).members m.item no_cluster in
    let named : get_or (members_in level) k no_cluster ≡ cluster =
    ap (λ n. get_or (members_in level) n no_cluster) m.number ∙ member-is level m.group m.item m.within m.item_within in
    let first : first_at groups (length later + m.group) ≡ length (members_in later) + first_at level m.group =
    ap (λ list. first_at list (length later + m.group)) order
    ∙ (ap (λ list. length (members_in list)) (take-append-add later (level ++ rest) m.group
    ∙ ap (λ list. later ++ list) (take-append-le m.group level rest (omega (arith, m.within))))
    ∙ (ap length (members_in-append later (take m.group level)) ∙ length-append (members_in later) (members_in
    (take m.group level)))) in
    let size = clusters_in-length levels in
    let heads_order : clusters ≡ clusters_in levels ++ (heads ++ part.more_heads) =
    part.clusters_are ∙ append_assoc (clusters_in levels) heads part.more_heads in
    let heads_count = length-map (members_in level) (head_of base) in
    record {
      before = before;
      base = base;
      home = length later + m.group;
      item = m.item;
      cluster = cluster;
      home_within = omega (arith, m.within);
      item_within = subst (λ (g : LevelGroup). m.item < length g.members) (sym at) m.item_within;
      number = omega (arith, m.number);
      is = ap (λ (g : LevelGroup). get_or g.members m.item no_cluster) at;
      head = ap (λ list. get_or list (length (clusters_in levels) + k) dag_members.no_cluster) heads_order
          ∙ (get_or-append-add (clusters_in levels) (heads ++ part.more_heads) k dag_members.no_cluster
          ∙ (get_or_append_left heads part.more_heads dag_members.no_cluster k (omega arith)
          ∙ (get_or-map (head_of base) (members_in level) k no_cluster dag_members.no_cluster within ∙ ap
          (head_of base) named)));
      maker = subst (λ (c : LevelCluster). HasMaker before c.maker) named (good.makers k no_cluster within);
      home_before = omega (arith, m.within);
      makers = λ j inside. (
        omega arith,
        ap (λ list. group_of_level list (base + j)) part.groups_are
            ∙ (get_or-append-add (later ++ level) rest j no_level_group
            ∙ get_or_append_left before part.more no_level_group j inside),
      );
    }

clusters-at : (tris : List Tri) (groups : List LevelGroup) (clusters : List ClusterHead) (before : List LevelGroup)
    (levels : List (List LevelGroup)) (c : ℕ) → ArePart groups clusters before levels →
    AreGoodLevels tris before levels →
    c < length (clusters_in levels) → IsClusterAt groups clusters c
unfolding clusters_in AreGoodLevels
clusters-at tris groups clusters before [] c part good below = absurd (omega arith)
clusters-at tris groups clusters before (level ∷ levels) c part good below =
    let heads : List ClusterHead = map (head_of (length (groups_in (level ∷ levels)))) (members_in level) in
    let len = length-append (clusters_in levels) heads in
    let heads_count = length-map (members_in level) (head_of (length (groups_in (level ∷ levels)))) in
    elim (cases_lt c (length (clusters_in levels))) [
      | inl later ↦ clusters-at tris groups clusters level levels c
          (part-later groups clusters before level levels part) good.1 later
      | inr here ↦
          let k : ℕ = c - length (clusters_in levels) in
          let same : length (clusters_in levels) + k ≡ c = omega arith in
          subst (IsClusterAt groups clusters) same
          (cluster-here tris groups clusters before level levels k part good.0 (omega arith))
    ]

-- each cluster of the heads of these levels
pub cluster-at : (tris : List Tri) (levels : List (List LevelGroup)) (heads : Heads) (c : ℕ) → AreHeadsOf levels heads →
    AreGoodLevels tris [] levels → c < length heads.clusters → IsClusterAt (groups_in levels) heads.clusters c
cluster-at tris levels heads c are good below =
    let count = ap length are.clusters in
    subst (λ list. IsClusterAt (groups_in levels) list c) (sym are.clusters)
    (clusters-at tris (groups_in levels) (clusters_in levels) [] levels c (part-all levels) good (omega arith))

-- ---- all groups and clusters

pub groups-good : (tris : List Tri) (before : List LevelGroup) (levels : List (List LevelGroup)) →
    AreGoodLevels tris before levels →
    All IsGoodGroup (groups_in levels)
unfolding AreGoodLevels groups_in
groups-good tris before [] good = All-nil IsGoodGroup
groups-good tris before (level ∷ levels) good =
    All-append IsGoodGroup (groups_in levels) level (groups-good tris level levels good.1) good.0.groups_good

pub members-good : (tris : List Tri) (before : List LevelGroup) (levels : List (List LevelGroup)) →
    AreGoodLevels tris before levels →
    All (IsGood tris) (members_in (groups_in levels))
unfolding AreGoodLevels groups_in
members-good tris before [] good = All-nil (IsGood tris)
members-good tris before (level ∷ levels) good =
    subst (All (IsGood tris)) (sym (members_in-append (groups_in levels) level))
    (All-append (IsGood tris) (members_in (groups_in levels)) (members_in level)
    (members-good tris level levels good.1) good.0.members)
