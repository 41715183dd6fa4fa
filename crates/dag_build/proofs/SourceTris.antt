-- Built DAGs have each source triangle once, in a leaf; and their corners stay near to those of their source triangles.
use Rattle.std.proofs.Common.{◌≡◌, ◌∙◌, ◌<◌, ◌≤◌, ◌+◌, ◌==◌, ◌&&◌, nat_le, nat_lt, not, zero-add, ℕ, Bool, true, false}
use Rattle.std.proofs.Common.{List, [], ◌∷◌, length, flat_map, get_or, All, Option, None, Some, refl, sym, ap, arith}
use Rattle.std.specs.List.{list_all, range_with_len}
use Rattle.std.proofs.lemmas.Bool.{and_from, and_parts, false_from_ne_true, false≢true, not_from_true}
use Rattle.std.proofs.lemmas.Bool.Decides.{nat_tests}
use Rattle.std.proofs.lemmas.List.{map-id}
use Rattle.std.proofs.lemmas.List.Concat.{flat_map_single}
use Rattle.std.proofs.lemmas.List.Elements.{All-head, All-tail, All-weaker}
use Rattle.geom_core.specs.declared.triangles.Tri.{Tri}
use Rattle.geom_core.specs.declared.triangles.Tagged.{Tagged}
use Rattle.geom_core.specs.Distance.{distance}
use Rattle.geom_core.specs.Limits.{AreGridTriangles}
use Rattle.geom_core.specs.Shift.{shift_of}
use Rattle.geom_core.specs.TaggedLists.{tris_of}
use Rattle.geom_core.proofs.DistanceLaws.{max3-first, max3-second, max3-third}
use Rattle.dag_core.specs.declared.cluster_heads.ClusterHead.{ClusterHead}
use Rattle.dag_core.specs.declared.dags.Dag.{Dag}
use Rattle.dag_core.specs.declared.groups.Group.{Group}
use Rattle.dag_core.specs.declared.heads.Heads.{Heads}
use Rattle.dag_core.specs.TriangleRules.{breaks_corners, breaks_source, dag_breaks, error_of, error_of_maker, is_near}
use Rattle.dag_core.specs.TriangleRules.{is_near_source}
use Rattle.dag_core.specs.Triangles.{leaf_tris_from, source_of, tris_at}
use Rattle.dag_build.specs.declared.level_clusters.LevelCluster.{LevelCluster}
use Rattle.dag_build.specs.declared.level_clusters.Maker.{Maker}
use Rattle.dag_build.specs.Built.{IsBuilt}
use Rattle.dag_build.specs.Grouping.{no_cluster, no_triangle}
use Rattle.dag_build.specs.Levels.{LevelGroup}
use Rattle.dag_build.specs.Numbers.{groups_in, maker_number, members_in}
use Rattle.dag_build.specs.Outcomes.{maker_error}
use Rattle.dag_build.proofs.BuiltDags.{AreBuilt, built}
use Rattle.dag_build.proofs.BuiltRules.{cluster-good}
use Rattle.dag_build.proofs.GroupNumbers.{AreHeadsOf, group-at, member-is}
use Rattle.dag_build.proofs.ClusterHomes.{cluster-at}
use Rattle.dag_build.proofs.Entries.{in-a-row, mapped-at}
use Rattle.dag_build.proofs.GoodClusters.{HasMaker, IsNear, group_of_level}
use Rattle.dag_build.proofs.LeafTris.{leaf-is}

-- ---- rule 7

sources-kept : (tris : List Tri) (levels : List (List LevelGroup)) (dag : Dag) (source : ℕ) →
    AreBuilt tris levels dag → breaks_source dag source ≡ false
unfolding breaks_source
sources-kept tris levels dag source all =
    false_from_ne_true (nat_lt source dag.heads.sources && not (length (leaf_tris_from dag source) == 1))
    (λ broken.
    let both = and_parts (nat_lt source dag.heads.sources) (not (length (leaf_tris_from dag source) == 1)) broken in
    let within : source < length tris = below source dag.heads.sources (length tris) both.0 all.counts.sources_are in
    let one = ap (λ list. not (length list == 1)) (leaf-is tris levels dag source all within) in
    false≢true (sym one ∙ both.1))
  where
    below : (g m n : ℕ) → nat_lt g m ≡ true → m ≡ n → g < n
    below g m n h same = grind (arith, nat_tests)

pub each_source : (tris : List Tri) (dag : Dag) (source : ℕ) → AreGridTriangles tris → IsBuilt tris dag →
    dag_breaks 7 dag source ≡ false
each_source tris dag source mesh is = sources-kept tris is.levels dag source (built tris dag mesh is)

pub source_is : (tris : List Tri) (dag : Dag) → AreGridTriangles tris → IsBuilt tris dag → source_of dag ≡ tris
source_is tris dag mesh is =
    let all = built tris dag mesh is in
    let one : Tri → List Tri = λ t. t ∷ [] in
    ap (λ n. flat_map (λ source. tris_of (leaf_tris_from dag source)) (range_with_len 0 n)) all.counts.sources_are
    ∙ (in-a-row one (λ source. tris_of (leaf_tris_from dag source)) 0 tris no_triangle.tri
    (λ i below. ap (λ list. tris_of list) (ap (leaf_tris_from dag) (zero-add i)
    ∙ leaf-is tris is.levels dag i all below))
    ∙ (flat_map_single (λ (t : Tri). t) tris ∙ map-id tris))

-- ---- rule 8

near-from : (most : ℕ) (t s : Tri) → shift_of t s ≤ most → is_near most t s ≡ true
unfolding shift_of is_near
near-from most t s h =
    let a = max3-first (distance t.a s.a) (distance t.b s.b) (distance t.c s.c) in
    let b = max3-second (distance t.a s.a) (distance t.b s.b) (distance t.c s.c) in
    let c = max3-third (distance t.a s.a) (distance t.b s.b) (distance t.c s.c) in
    and_from (nat_le (distance t.a s.a) most && nat_le (distance t.b s.b) most) (nat_le (distance t.c s.c) most)
    (and_from (nat_le (distance t.a s.a) most) (nat_le (distance t.b s.b) most) (at_most (distance t.a s.a) most
    (omega arith))
    (at_most (distance t.b s.b) most (omega arith))) (at_most (distance t.c s.c) most (omega arith))
  where
    at_most : (m n : ℕ) → m ≤ n → nat_le m n ≡ true
    at_most m n h = grind (arith, nat_tests)

all-pass : {X : Type 0} (test : X → Bool) (xs : List X) → All (λ x. test x ≡ true) xs → list_all test xs ≡ true
all-pass test [] all = refl
all-pass {X} test (x ∷ xs) all =
    let P : X → Type 0 = λ y. test y ≡ true in
    and_from (test x) (list_all test xs) (All-head P x xs all) (all-pass test xs (All-tail P x xs all))

near-source : (tris : List Tri) (levels : List (List LevelGroup)) (dag : Dag) (most : ℕ) (t : Tagged) →
    AreBuilt tris levels dag →
    IsNear tris most t → is_near_source dag most t ≡ true
unfolding is_near_source
near-source tris levels dag most t all near =
    let s : Tri = get_or tris t.source no_triangle.tri in
    ap (list_all (λ (leaf : Tagged). is_near most t.tri leaf.tri)) (leaf-is tris levels dag t.source all near.within)
    ∙ and_from (is_near most t.tri s) true (near-from most t.tri s near.near) refl

error-is : (levels : List (List LevelGroup)) (heads : Heads) (before : List LevelGroup) (base : ℕ)
    (maker : Option Maker) →
    AreHeadsOf levels heads → HasMaker before maker →
    ((j : ℕ) → j < length before → (base + j < length (groups_in levels)) × (group_of_level (groups_in levels)
    (base + j) ≡ group_of_level before j)) →
    error_of_maker heads (maker_number base maker) ≡ maker_error maker
error-is levels heads before base None are has makers = refl
error-is levels heads before base (Some maker) are has makers =
    let there = makers maker.group has.within in
    ap (λ (group : Group). group.error) (group-at levels heads (base + maker.group) are there.0)
    ∙ (ap (λ (group : LevelGroup). group.error) there.1 ∙ has.error)

corners-near : (tris : List Tri) (levels : List (List LevelGroup)) (dag : Dag) (c : ℕ) → AreBuilt tris levels dag →
    c < length dag.heads.clusters →
    list_all (is_near_source dag (error_of dag.heads c)) (tris_at dag c) ≡ true
corners-near tris levels dag c all below =
    let gs : List LevelGroup = groups_in levels in
    let heads : Heads = dag.heads in
    let at = cluster-at tris levels heads c all.counts.are all.good below in
    let good = cluster-good tris levels heads c all.good at in
    let own : LevelCluster → List Tagged = λ cluster. cluster.tris in
    let list : tris_at dag c ≡ at.cluster.tris =
    ap (λ lists. get_or lists c []) all.tris_are
    ∙ (mapped-at own (members_in gs) c no_cluster
    ∙ ap own (ap (λ n. get_or (members_in gs) n no_cluster) at.number
    ∙ (member-is gs at.home at.item at.home_within at.item_within ∙ at.is))) in
    let error : error_of heads c ≡ maker_error at.cluster.maker =
    ap (λ (head : ClusterHead). error_of_maker heads head.made) at.head
    ∙ error-is levels heads at.before at.base at.cluster.maker all.counts.are at.maker at.makers in
    let most : ℕ = maker_error at.cluster.maker in
    ap (λ n. list_all (is_near_source dag n) (tris_at dag c)) error
    ∙ (ap (list_all (is_near_source dag most)) list
    ∙ all-pass (is_near_source dag most) at.cluster.tris
    (All-weaker (IsNear tris most) (λ t. is_near_source dag most t ≡ true)
    (λ t near. near-source tris levels dag most t all near)
    at.cluster.tris good.near))

corners-kept : (tris : List Tri) (levels : List (List LevelGroup)) (dag : Dag) (c : ℕ) → AreBuilt tris levels dag →
    breaks_corners dag c ≡ false
unfolding breaks_corners
corners-kept tris levels dag c all =
    let test : Bool = list_all (is_near_source dag (error_of dag.heads c)) (tris_at dag c) in
    false_from_ne_true (nat_lt c (length dag.heads.clusters) && not test)
    (λ broken.
    let both = and_parts (nat_lt c (length dag.heads.clusters)) (not test) broken in
    let within : c < length dag.heads.clusters = below c (length dag.heads.clusters) both.0 in
    false≢true (sym (not_from_true test (corners-near tris levels dag c all within)) ∙ both.1))
  where
    below : (m n : ℕ) → nat_lt m n ≡ true → m < n
    below m n h = grind (arith, nat_tests)

pub corners : (tris : List Tri) (dag : Dag) (c : ℕ) → AreGridTriangles tris → IsBuilt tris dag →
    dag_breaks 8 dag c ≡ false
corners tris dag c mesh is = corners-kept tris is.levels dag c (built tris dag mesh is)
