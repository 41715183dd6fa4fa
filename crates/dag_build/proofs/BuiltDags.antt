-- A built DAG keeps rules 1 to 4 and the ranges, has its triangles, and is small.
use Rattle.std.proofs.Common.{◌≡◌, ◌∙◌, ◌<◌, ◌≤◌, ◌+◌, ◌*◌, ℕ, List, [], ◌∷◌, ◌++◌, length, map, flat_map, get_or, All}
use Rattle.std.proofs.Common.{refl, sym, ap, subst, arith}
use Rattle.std.proofs.Math.Seq.{get_or-append_seam}
use Rattle.std.proofs.lemmas.List.{append_assoc, length-append, map-append}
use Rattle.std.proofs.lemmas.List.Elements.{All-cons, All-head, All-map, All-nil, All-tail, All-weaker}
use Rattle.std.proofs.lemmas.List.Folds.{flat_map-map}
use Rattle.geom_core.specs.declared.limits.TheConstants.{CLUSTERS_PER_GROUP, TRIANGLES_PER_CLUSTER}
use Rattle.geom_core.specs.declared.triangles.Tri.{Tri}
use Rattle.geom_core.specs.declared.triangles.Tagged.{Tagged}
use Rattle.geom_core.specs.Limits.{AreGridTriangles, IsGridTriangle}
use Rattle.geom_core.specs.Shift.{shift_of}
use Rattle.geom_core.proofs.DistanceLaws.{shift_of-same}
use Rattle.dag_core.specs.declared.cluster_heads.ClusterHead.{ClusterHead}
use Rattle.dag_core.specs.declared.dags.Dag.{Dag}
use Rattle.dag_core.specs.Ranges.{IsInRange}
use Rattle.dag_core.specs.Rules.{KeepsRulesBelow}
use Rattle.dag_core.specs.TriangleRules.{CanBeLaidOut, IsSourcedTriangle}
use Rattle.dag_core.specs.Triangles.{HasTris}
use Rattle.dag_build.specs.declared.level_clusters.LevelCluster.{LevelCluster}
use Rattle.dag_build.specs.Built.{AreLevels, AreLevelsOf, IsBuilt}
use Rattle.dag_build.specs.Grouping.{AreCut, full_sizes, no_triangle}
use Rattle.dag_build.specs.Levels.{LevelGroup, next_clusters, numbered, source_cluster, tris_in}
use Rattle.dag_build.specs.Numbers.{clusters_in, dag_of, groups_in, head_of, members_in}
use Rattle.dag_build.specs.Outcomes.{maker_error}
use Rattle.dag_build.specs.Internal.DoneLevels.{IsProper}
use Rattle.dag_build.proofs.BuiltRules.{AreCounts, heads-in-range, rules-kept}
use Rattle.dag_build.proofs.GroupNumbers.{AreHeadsOf}
use Rattle.dag_build.proofs.ClusterHomes.{members-good}
use Rattle.dag_build.proofs.ElementLaws.{All-mapped, cut-each}
use Rattle.dag_build.proofs.GoodLevels.{AreGoodClusters, AreGoodLevels, level-good, levels-good}
use Rattle.dag_build.proofs.GoodClusters.{HasMaker, IsGood, IsNear}
use Rattle.dag_build.proofs.LeadLaws.{leaves-proper, leaves-total}
use Rattle.dag_build.proofs.LevelLaws.{clusters-few, level-is, members-moved, tris_in-append, tris_in-moved}
use Rattle.dag_build.proofs.NumberLaws.{members_in-append}

-- ---- level 0

numbered-near : (tris front rest : List Tri) → tris ≡ front ++ rest → All IsGridTriangle rest →
    All (IsNear tris 0) (numbered (length front) rest)
unfolding numbered
numbered-near tris front [] is grid = All-nil (IsNear tris 0)
numbered-near tris front (t ∷ rest) is grid =
    let len : length (front ++ t ∷ []) ≡ length front + 1 = length-append front (t ∷ []) in
    let here : get_or tris (length front) no_triangle.tri ≡ t =
    ap (λ list. get_or list (length front) no_triangle.tri) is ∙ get_or-append_seam front t rest no_triangle.tri in
    let count = ap length is in
    let parts = length-append front (t ∷ rest) in
    let same : shift_of t (get_or tris (length front) no_triangle.tri) ≡ 0 = ap (shift_of t) here ∙ shift_of-same t in
    All-cons (IsNear tris 0) (record { tri = t; source = length front }) (numbered (length front + 1) rest)
    (record { grid = All-head IsGridTriangle t rest grid; within = omega arith; near = omega arith })
    (subst (λ n. All (IsNear tris 0) (numbered n rest)) len
    (numbered-near tris (front ++ t ∷ []) rest (is ∙ sym (append_assoc front (t ∷ []) rest))
    (All-tail IsGridTriangle t rest grid)))

pub sources-good : (tris : List Tri) (leaves : List (List Tagged)) → AreGridTriangles tris →
    AreCut TRIANGLES_PER_CLUSTER (numbered 0 tris) leaves →
    AreGoodClusters tris [] (map source_cluster leaves)
sources-good tris leaves mesh cut =
    let near = cut-each (IsNear tris 0) TRIANGLES_PER_CLUSTER (numbered 0 tris) leaves cut
    (numbered-near tris [] tris refl mesh.each) in
    let proper = All-mapped IsProper source_cluster leaves (leaves-proper (numbered 0 tris) leaves cut) in
    let each : All (λ leaf. IsGood tris (source_cluster leaf)) leaves = λ k d within.
    record { proper = proper k d within; near = near k d within; maker = tt } in
    let total = leaves-total tris leaves cut in
    record {
      good = All-map (IsGood tris) source_cluster leaves each;
      makers = All-map (λ (cluster : LevelCluster). HasMaker [] cluster.maker) source_cluster leaves
          (λ k d within. refl);
      limit = omega (arith, total, mesh.triangle_limit);
    }

-- ---- how many

-- the levels from one with these clusters on have few groups, clusters and triangles
pub record AreFew (clusters : List LevelCluster) (levels : List (List LevelGroup)) : Type 0 where
  pub some : length clusters ≤ length (members_in (groups_in levels))
  pub groups : length (groups_in levels) ≤ length (members_in (groups_in levels))
  pub clusters_limit : length (members_in (groups_in levels)) ≤ length (tris_in (members_in (groups_in levels)))
  pub triangles : length (tris_in (members_in (groups_in levels))) ≤ 8 * length (tris_in clusters)

pub levels-few : (tris : List Tri) (before : List LevelGroup) (clusters : List LevelCluster) (levels : List
    (List LevelGroup)) →
    AreGoodClusters tris before clusters → AreLevels full_sizes clusters levels → AreFew clusters levels
unfolding AreLevels groups_in
levels-few tris before clusters [] are levels =
    let none = ap length levels in
    record { some = omega arith; groups = omega arith; clusters_limit = omega arith; triangles = omega arith }
levels-few tris before clusters (groups ∷ rest) are levels =
    let on = level-good tris before clusters groups are levels.1.0 in
    let later = levels-few tris groups (next_clusters groups) rest on.next levels.1.1 in
    let proper = All-weaker (IsGood tris) IsProper (λ cluster h. h.proper) clusters are.good in
    let level = level-is clusters groups proper are.limit levels.1.0 in
    let tris_here = tris_in-moved clusters (members_in groups)
    (members-moved CLUSTERS_PER_GROUP clusters groups levels.1.0.grouped) in
    let some = clusters-few clusters proper in
    let a = length-append (groups_in rest) groups in
    let order = members_in-append (groups_in rest) groups in
    let b = ap length order in
    let d = length-append (members_in (groups_in rest)) (members_in groups) in
    let e = ap (λ list. length (tris_in list)) order in
    let f = ap length (tris_in-append (members_in (groups_in rest)) (members_in groups)) in
    let g = length-append (tris_in (members_in (groups_in rest))) (tris_in (members_in groups)) in
    record {
      some = omega (arith, level.same_count);
      groups = omega (arith, level.same_count, level.few_groups, later.groups);
      clusters_limit = omega (arith, level.same_count, later.clusters_limit);
      triangles = omega (arith, level.shrinks, later.triangles);
    }

some_groups : (groups : List LevelGroup) → 1 ≤ length (members_in groups) → 1 ≤ length groups
some_groups [] h = absurd (omega arith)
some_groups (group ∷ groups) h = omega arith

some_clusters : (clusters : List LevelCluster) → 1 ≤ length (tris_in clusters) → 1 ≤ length clusters
some_clusters [] h = absurd (omega arith)
some_clusters (cluster ∷ clusters) h = omega arith

-- ---- the DAG of a mesh

-- what holds of the levels of a mesh and of their DAG
pub record AreBuilt (tris : List Tri) (levels : List (List LevelGroup)) (dag : Dag) : Type 0 where
  pub leaves : List (List Tagged)
  pub cut : AreCut TRIANGLES_PER_CLUSTER (numbered 0 tris) leaves
  pub grown : AreLevels full_sizes (map source_cluster leaves) levels
  pub good : AreGoodLevels tris [] levels
  pub counts : AreCounts (length tris) levels dag.heads
  pub triangles : length (tris_in (members_in (groups_in levels))) ≤ 8 * length tris
  pub tris_are : dag.tris ≡ map (λ cluster. cluster.tris) (members_in (groups_in levels))

dag-parts : (sources : ℕ) (levels : List (List LevelGroup)) → AreHeadsOf levels (dag_of sources levels).heads
unfolding dag_of
dag-parts sources levels = record { groups = refl; clusters = refl }

-- of the DAG itself
built-self : (tris : List Tri) (levels : List (List LevelGroup)) → AreGridTriangles tris →
    AreLevelsOf full_sizes tris levels →
    AreBuilt tris levels (dag_of (length tris) levels)
unfolding dag_of
built-self tris levels mesh of_mesh =
    let first : List LevelCluster = map source_cluster of_mesh.leaves in
    let total = leaves-total tris of_mesh.leaves of_mesh.cut in
    let good = sources-good tris of_mesh.leaves mesh of_mesh.cut in
    let few = levels-few tris [] first levels good of_mesh.grown in
    let some = some_clusters first (omega (arith, mesh.some)) in
    let some_members : 1 ≤ length (members_in (groups_in levels)) = omega (arith, few.some) in
    record {
      leaves = of_mesh.leaves;
      cut = of_mesh.cut;
      grown = of_mesh.grown;
      good = levels-good tris [] first levels good of_mesh.grown;
      counts = record {
        some_groups = some_groups (groups_in levels) some_members;
        group_limit = omega (arith, few.groups, few.clusters_limit, few.triangles, mesh.triangle_limit);
        some_clusters = some_members;
        cluster_limit = omega (arith, few.clusters_limit, few.triangles, mesh.triangle_limit);
        some_sources = mesh.some;
        source_limit = mesh.triangle_limit;
        sources_are = refl;
        pages = refl;
        roots = refl;
        are = dag-parts (length tris) levels;
      };
      triangles = omega (arith, few.triangles, total);
      tris_are = refl;
    }

pub built : (tris : List Tri) (dag : Dag) → AreGridTriangles tris → (is : IsBuilt tris dag) →
    AreBuilt tris is.levels dag
built tris dag mesh is =
    subst (AreBuilt tris is.levels) (sym is.numbered) (built-self tris is.levels mesh is.of_mesh)

-- ---- laws

pub in_range : (tris : List Tri) (dag : Dag) → AreGridTriangles tris → IsBuilt tris dag → IsInRange dag.heads
in_range tris dag mesh is =
    let all = built tris dag mesh is in
    heads-in-range tris dag.heads is.levels (length tris) all.counts all.good

pub rules : (tris : List Tri) (dag : Dag) → AreGridTriangles tris → IsBuilt tris dag → KeepsRulesBelow 5 dag.heads
rules tris dag mesh is =
    let all = built tris dag mesh is in
    rules-kept tris is.levels dag.heads (map source_cluster all.leaves) all.counts.are all.good all.grown

lengths-of : (levels : List (List LevelGroup)) →
    map (λ (list : List Tagged). length list) (map (λ (cluster : LevelCluster). cluster.tris) (members_in
    (groups_in levels)))
    ≡ map (λ (head : ClusterHead). head.tris) (clusters_in levels)
unfolding groups_in clusters_in
lengths-of [] = refl
lengths-of (groups ∷ levels) =
    let size : List Tagged → ℕ = λ list. length list in
    let own : LevelCluster → List Tagged = λ cluster. cluster.tris in
    let of_head : ClusterHead → ℕ = λ head. head.tris in
    let head : LevelCluster → ClusterHead = head_of (length (groups_in levels ++ groups)) in
    ap (λ list. map size (map own list)) (members_in-append (groups_in levels) groups)
    ∙ (ap (map size) (map-append own (members_in (groups_in levels)) (members_in groups))
    ∙ (map-append size (map own (members_in (groups_in levels))) (map own (members_in groups))
    ∙ (ap (λ list. list ++ map size (map own (members_in groups))) (lengths-of levels)
    ∙ (ap (λ list. map of_head (clusters_in levels) ++ list) (one_map (members_in groups))
    ∙ sym (map-append of_head (clusters_in levels) (map head (members_in groups)))))))
  where
    one_map : (list : List LevelCluster) → map (λ (tris : List Tagged). length tris) (map (λ
        (cluster : LevelCluster). cluster.tris) list)
        ≡ map (λ (head : ClusterHead). head.tris) (map (head_of (length (groups_in levels ++ groups))) list)
    one_map [] = refl
    one_map (cluster ∷ list) = ap (λ rest. length cluster.tris ∷ rest) (one_map list)

pub has_tris : (tris : List Tri) (dag : Dag) → AreGridTriangles tris → IsBuilt tris dag → HasTris dag
has_tris tris dag mesh is =
    let all = built tris dag mesh is in
    ap (map (λ (list : List Tagged). length list)) all.tris_are
    ∙ (lengths-of is.levels ∙ sym (ap (map (λ (head : ClusterHead). head.tris)) all.counts.are.clusters))

sourced : (tris : List Tri) (sources : ℕ) (cluster : LevelCluster) → sources ≡ length tris → IsGood tris cluster →
    All (IsSourcedTriangle sources) cluster.tris
sourced tris sources cluster same good =
    All-weaker (IsNear tris (maker_error cluster.maker)) (IsSourcedTriangle sources)
    (λ t near. record {
      triangle = near.grid;
      source = subst (λ n. t.source < n)
          (sym same) near.within;
    }) cluster.tris good.near

pub all_sourced : (tris : List Tri) (dag : Dag) → AreGridTriangles tris → IsBuilt tris dag →
    All (All (IsSourcedTriangle dag.heads.sources)) dag.tris
all_sourced tris dag mesh is =
    let all = built tris dag mesh is in
    let P : List Tagged → Type 0 = All (IsSourcedTriangle dag.heads.sources) in
    subst (All P) (sym all.tris_are)
    (All-map P (λ (cluster : LevelCluster). cluster.tris) (members_in (groups_in is.levels))
    (All-weaker (IsGood tris) (λ cluster. P cluster.tris) (λ cluster. sourced tris dag.heads.sources cluster
    all.counts.sources_are)
    (members_in (groups_in is.levels)) (members-good tris [] is.levels all.good)))

pub laid_out : (tris : List Tri) (dag : Dag) → AreGridTriangles tris → IsBuilt tris dag → CanBeLaidOut dag
laid_out tris dag mesh is = record {
  range = in_range tris dag mesh is;
  rules = rules tris dag mesh is;
  counts = has_tris tris dag mesh is;
  triangles = all_sourced tris dag mesh is;
}

pub total : (tris : List Tri) (dag : Dag) → AreGridTriangles tris → IsBuilt tris dag →
    length (flat_map (λ list. list) dag.tris) ≤ 8 * length tris
total tris dag mesh is =
    let all = built tris dag mesh is in
    let joined : flat_map (λ list. list) dag.tris ≡ tris_in (members_in (groups_in is.levels)) =
    ap (flat_map (λ (list : List Tagged). list)) all.tris_are
    ∙ flat_map-map (λ (list : List Tagged). list) (λ (cluster : LevelCluster). cluster.tris) (members_in
    (groups_in is.levels)) in
    let size = ap length joined in
    omega (arith, all.triangles)
