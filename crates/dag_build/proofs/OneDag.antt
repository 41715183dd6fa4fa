-- The rule determines the DAG: a mesh has at most one.
use Rattle.std.proofs.Common.{◌≡◌, ◌∙◌, ap, sym, refl, subst, ℕ, Bool, true, false, not, ◌&&◌, List, [], ◌∷◌, length}
use Rattle.std.proofs.Common.{map, ◌+◌, inl, inr, Option, None, Some, All, cond}
use Rattle.std.proofs.lemmas.Bool.{true≢false}
use Rattle.std.proofs.lemmas.List.Elements.{All-head, All-tail}
use Rattle.geom_core.specs.declared.boxes.Cube.{Cube}
use Rattle.geom_core.specs.declared.points.Pt.{Pt}
use Rattle.geom_core.specs.declared.triangles.Tri.{Tri}
use Rattle.geom_core.specs.declared.triangles.Tagged.{Tagged}
use Rattle.geom_core.specs.Boxes.{hull_of}
use Rattle.geom_core.specs.EdgeSum.{edges_of}
use Rattle.geom_core.specs.TaggedLists.{tris_of}
use Rattle.half_mesh.proofs.RimLaws.{same_rim-from}
use Rattle.partition.specs.declared.shapes.ClusterShape.{ClusterShape}
use Rattle.partition.specs.Batches.{AreBatches, pick}
use Rattle.partition.specs.Clusters.{triangle_key}
use Rattle.partition.specs.Groups.{rim_edges, shape_key}
use Rattle.partition.proofs.BatchLaws.{batches_equal}
use Rattle.rim_collapse.specs.declared.states.Kept.{Kept}
use Rattle.rim_collapse.specs.Least.{IsLeast, NoneIsLegal}
use Rattle.rim_collapse.specs.Legal.{is_among, is_legal, is_legal_collapse, has_edge}
use Rattle.rim_collapse.specs.Moved.{moved_of}
use Rattle.rim_collapse.specs.Simplified.{IsEnd, IsSimplified, Lead}
use Rattle.rim_collapse.specs.States.{after, begun, present, tagged_of}
use Rattle.rim_collapse.proofs.Determined.{one_simplification}
use Rattle.dag_core.specs.declared.dags.Dag.{Dag}
use Rattle.dag_core.proofs.ListSteps.{same_bools}
use Rattle.dag_build.specs.declared.level_clusters.LevelCluster.{LevelCluster}
use Rattle.dag_build.specs.Built.{AreLevels, AreLevelsOf, IsBuilt, IsLevel}
use Rattle.dag_build.specs.Grouping.{AreCut, AreGrouped, AreShapesOf, IsShapeOf, Sizes, full_sizes, no_cluster}
use Rattle.dag_build.specs.Grouping.{no_triangle}
use Rattle.dag_build.specs.Levels.{LevelGroup, next_clusters, numbered, source_cluster, tris_in}
use Rattle.dag_build.specs.Numbers.{dag_of}
use Rattle.dag_build.specs.Outcomes.{AreMade, AreRimPoints, IsOutcome, greatest_error, is_terminal, points_of}

-- ---- locked points

-- both lists lock the same points
abbrev LockSame : List Pt → List Pt → Type 0
LockSame locked others = (p : Pt) → is_among locked p ≡ is_among others p

rim_points_same : (tris : List Tri) (locked others : List Pt) → AreRimPoints tris locked → AreRimPoints tris others →
    LockSame locked others
rim_points_same tris locked others are also p =
    same_bools (is_among locked p) (is_among others p) (λ is. (also p).1 ((are p).0 is)) (λ is. (are p).1
    ((also p).0 is))

legal_same : (tris : List Tri) (locked others : List Pt) (a b : Pt) → LockSame locked others →
    is_legal_collapse tris locked a b ≡ is_legal_collapse tris others a b
legal_same tris locked others a b same = ap (λ among. (not among && has_edge tris a b) && is_legal tris a b) (same a)

none_same : (tris : List Tri) (locked others : List Pt) → LockSame locked others → NoneIsLegal tris locked →
    NoneIsLegal tris others
none_same tris locked others same none = λ a b is. none a b (legal_same tris locked others a b same ∙ is)

least_same : (tris : List Tri) (locked others : List Pt) (a b : Pt) → LockSame locked others →
    IsLeast tris locked a b → IsLeast tris others a b
least_same tris locked others a b same least = record {
  legal = sym (legal_same tris locked others a b same) ∙ least.legal;
  first = λ c d is. least.first c d (legal_same tris locked others c d same ∙ is);
}

lead_same : (locked others : List Pt) (n : ℕ) (collapses : List (Pt × Pt)) (state end : List Kept) →
    LockSame locked others →
    Lead locked n collapses state end → Lead others n collapses state end
unfolding Lead
lead_same locked others n [] state end same lead = lead
lead_same locked others n (collapse ∷ collapses) state end same lead = (
  record {
    too_many = lead.0.too_many;
    least = least_same (present state) locked others collapse.0 collapse.1 same
        lead.0.least;
  },
  lead_same locked others n collapses (after collapse.0 collapse.1 state) end same lead.1,
)

end_same : (locked others : List Pt) (n : ℕ) (state : List Kept) → LockSame locked others → IsEnd locked n state →
    IsEnd others n state
end_same locked others n state same (inl few) = inl few
end_same locked others n state same (inr none) = inr (none_same (present state) locked others same none)

simplified_same : (tris : List Tagged) (locked others : List Pt) (kept : List Kept) → LockSame locked others →
    IsSimplified tris locked kept → IsSimplified tris others kept
simplified_same tris locked others kept same is = record {
  collapses = is.collapses;
  lead = lead_same locked others (length tris) is.collapses (begun tris) kept same is.lead;
  end = end_same locked others (length tris) kept same is.end;
}

-- ---- clusters and groups

one_cut : (size : ℕ) (tris : List Tagged) (clusters others : List (List Tagged)) → AreCut size tris clusters →
    AreCut size tris others →
    clusters ≡ others
one_cut size tris clusters others cut also =
    cut.picked ∙ (ap (map (pick tris no_triangle))
    (batches_equal (map triangle_key (tris_of tris)) (map edges_of
    (tris_of tris)) size cut.batches also.batches cut.grown also.grown)
    ∙ sym also.picked)

one_shape : (tris : List Tri) (shape other : ClusterShape) → IsShapeOf tris shape → IsShapeOf tris other → shape ≡ other
one_shape tris shape other is also =
    ap (λ low. record { low = low; rim = shape.rim }) (is.low ∙ sym also.low)
    ∙ ap (λ rim. record { low = other.low; rim = rim }) (same_rim-from tris tris shape.rim is.sums other.rim also.sums
    is.rim also.rim (λ u v. refl)).0

one_list_of_shapes : (clusters : List LevelCluster) (shapes others : List ClusterShape) → AreShapesOf clusters shapes →
    AreShapesOf clusters others → shapes ≡ others
unfolding AreShapesOf
one_list_of_shapes [] [] [] are also = refl
one_list_of_shapes [] [] (other ∷ others) are also = absurd also
one_list_of_shapes [] (shape ∷ shapes) others are also = absurd are
one_list_of_shapes (cluster ∷ clusters) [] others are also = absurd are
one_list_of_shapes (cluster ∷ clusters) (shape ∷ shapes) [] are also = absurd also
one_list_of_shapes (cluster ∷ clusters) (shape ∷ shapes) (other ∷ others) are also =
    ap (λ s. s ∷ shapes) (one_shape (tris_of cluster.tris) shape other are.0 also.0)
    ∙ ap (λ ss. other ∷ ss) (one_list_of_shapes clusters shapes others are.1 also.1)

one_grouping : (size : ℕ) (clusters : List LevelCluster) (members others : List (List LevelCluster)) →
    AreGrouped size clusters members →
    AreGrouped size clusters others → members ≡ others
one_grouping size clusters members others are also =
    let shapes = one_list_of_shapes clusters are.shapes also.shapes are.shaped also.shaped in
    are.picked ∙ (ap (map (pick clusters no_cluster))
    (batches_equal (map shape_key also.shapes) (map rim_edges also.shapes) size are.batches also.batches
    (subst (λ shapes. AreBatches (map shape_key shapes) (map rim_edges shapes) size are.batches) shapes are.grown)
    also.grown)
    ∙ sym also.picked)

-- ---- outcomes

one_made : (size : ℕ) (terminal : Bool) (left : List Tagged) (made others : List (List Tagged)) →
    AreMade size terminal left made →
    AreMade size terminal left others → made ≡ others
one_made size true left made others are also = are ∙ sym also
one_made size false left made others are also = one_cut size left made others are also

abbrev box_or : Cube → Option Cube → Cube
box_or box None = box
box_or box (Some found) = found

same_box : (box other : Cube) → Some box ≡ Some other → box ≡ other
same_box box other same = ap (box_or box) same

-- two groups of these members, with one outcome each, are one
record AreParts (group other : LevelGroup) : Type 0 where
  members : group.members ≡ other.members
  error : group.error ≡ other.error
  terminal : group.terminal ≡ other.terminal
  cube : group.cube ≡ other.cube
  made : group.made ≡ other.made

from_parts : (group other : LevelGroup) → AreParts group other → group ≡ other
from_parts group other same =
    ap (λ members. record group { members = members }) same.members
    ∙ (ap (λ error. record group { members = other.members; error = error }) same.error
    ∙ (ap (λ terminal. record group { members = other.members; error = other.error; terminal = terminal }) same.terminal
    ∙ (ap (λ cube. record group {
      members = other.members;
      error = other.error;
      terminal = other.terminal;
      cube = cube;
    }) same.cube
    ∙ ap (λ made. record other { made = made }) same.made)))

-- what an outcome is of these members
record IsOutcomeOf (size level_clusters : ℕ) (members : List LevelCluster) (group : LevelGroup) : Type 0 where
  same : group.members ≡ members
  outcome : IsOutcome size level_clusters group

one_kept : (size level_clusters : ℕ) (members : List LevelCluster) (group other : LevelGroup)
    (is : IsOutcome size level_clusters group)
    (also : IsOutcome size level_clusters other) → group.members ≡ members → other.members ≡ members →
    is.kept ≡ also.kept
one_kept size level_clusters members group other is also same same_other =
    let tris : List Tagged = tris_in members in
    let here = subst (λ ms. AreRimPoints (tris_of (tris_in ms)) is.locked) same is.rim_points in
    let there = subst (λ ms. AreRimPoints (tris_of (tris_in ms)) also.locked) same_other also.rim_points in
    one_simplification tris also.locked is.kept also.kept
    (simplified_same tris is.locked also.locked is.kept (rim_points_same
    (tris_of tris) is.locked also.locked here there)
    (subst (λ ms. IsSimplified (tris_in ms) is.locked is.kept) same is.simplified))
    (subst (λ ms. IsSimplified (tris_in ms) also.locked also.kept) same_other also.simplified)

one_outcome : (size level_clusters : ℕ) (group other : LevelGroup) → group.members ≡ other.members →
    IsOutcome size level_clusters group → IsOutcome size level_clusters other → group ≡ other
one_outcome size level_clusters group other same is also =
    let kept : is.kept ≡ also.kept = one_kept size level_clusters other.members group other is also same refl in
    let terminal : group.terminal ≡ other.terminal =
    is.terminal
    ∙ (ap (λ ms. is_terminal level_clusters (length (tris_in ms)) (length is.kept)
    (moved_of is.kept + greatest_error ms)) same
    ∙ (ap (λ k. is_terminal level_clusters (length (tris_in other.members)) (length k)
    (moved_of k + greatest_error other.members)) kept
    ∙ sym also.terminal)) in
    let error : group.error ≡ other.error =
    is.error
    ∙ (ap (λ t. cond t 0 (moved_of is.kept + greatest_error group.members)) terminal
    ∙ (ap (λ ms. cond other.terminal 0 (moved_of is.kept + greatest_error ms)) same
    ∙ (ap (λ k. cond other.terminal 0 (moved_of k + greatest_error other.members)) kept ∙ sym also.error))) in
    let made = subst (λ t. AreMade size t (map tagged_of is.kept) group.made) terminal is.made in
    from_parts group other (record {
      members = same;
      error = error;
      terminal = terminal;
      cube = same_box group.cube other.cube (sym is.cube ∙ (ap (λ ms. hull_of (points_of ms)) same ∙ also.cube));
      made = one_made size other.terminal (map tagged_of also.kept) group.made other.made
          (subst (λ k. AreMade size other.terminal (map tagged_of k) group.made) kept made) also.made;
    })

-- ---- levels

abbrev has_first : {X : Type 0} → List X → Bool
has_first [] = false
has_first (x ∷ xs) = true

pub nil≢cons : {X : Type 0} {x : X} {xs : List X} → [] ≡ x ∷ xs → ⊥
nil≢cons same = true≢false (sym (ap has_first same))

abbrev first_of : {X : Type 0} → X → List X → X
first_of other [] = other
first_of other (x ∷ xs) = x

abbrev rest_of : {X : Type 0} → List X → List X
rest_of [] = []
rest_of (x ∷ xs) = xs

cons_parts : {X : Type 0} (x y : X) (xs ys : List X) → x ∷ xs ≡ y ∷ ys → (x ≡ y) × (xs ≡ ys)
cons_parts x y xs ys same = (ap (first_of x) same, ap rest_of same)

abbrev members_of : LevelGroup → List LevelCluster
members_of group = group.members

one_list_of_groups : (size level_clusters : ℕ) (groups others : List LevelGroup) →
    map members_of groups ≡ map members_of others →
    All (IsOutcome size level_clusters) groups → All (IsOutcome size level_clusters) others → groups ≡ others
one_list_of_groups size level_clusters [] [] same are also = refl
one_list_of_groups size level_clusters [] (other ∷ others) same are also = absurd (nil≢cons same)
one_list_of_groups size level_clusters (group ∷ groups) [] same are also = absurd (nil≢cons (sym same))
one_list_of_groups size level_clusters (group ∷ groups) (other ∷ others) same are also =
    let P = IsOutcome size level_clusters in
    let parts = cons_parts group.members other.members (map members_of groups) (map members_of others) same in
    ap (λ g. g ∷ groups) (one_outcome size level_clusters group other parts.0 (All-head P group groups are)
    (All-head P other others also))
    ∙ ap (λ gs. other ∷ gs) (one_list_of_groups size level_clusters groups others parts.1
    (All-tail P group groups are) (All-tail P other others also))

one_level : (sizes : Sizes) (clusters : List LevelCluster) (groups others : List LevelGroup) →
    IsLevel sizes clusters groups →
    IsLevel sizes clusters others → groups ≡ others
one_level sizes clusters groups others is also =
    one_list_of_groups sizes.cluster (length clusters) groups others
    (one_grouping sizes.group clusters (map members_of groups)
    (map members_of others) is.grouped also.grouped) is.outcomes also.outcomes

one_list_of_levels : (sizes : Sizes) (clusters : List LevelCluster) (levels others : List (List LevelGroup)) →
    AreLevels sizes clusters levels →
    AreLevels sizes clusters others → levels ≡ others
unfolding AreLevels
one_list_of_levels sizes clusters [] [] are also = refl
one_list_of_levels sizes clusters [] (groups ∷ others) are also = absurd (also.0 are)
one_list_of_levels sizes clusters (groups ∷ levels) [] are also = absurd (are.0 also)
one_list_of_levels sizes clusters (groups ∷ levels) (others ∷ later) are also =
    let same = one_level sizes clusters groups others are.1.0 also.1.0 in
    ap (λ gs. gs ∷ levels) same
    ∙ ap (λ ls. others ∷ ls) (one_list_of_levels sizes (next_clusters others) levels later
    (subst (λ gs. AreLevels sizes (next_clusters gs) levels) same are.1.1) also.1.1)

-- a mesh has at most one list of levels, and so at most one DAG
pub one_levels_of : (sizes : Sizes) (tris : List Tri) (levels others : List (List LevelGroup)) →
    AreLevelsOf sizes tris levels →
    AreLevelsOf sizes tris others → levels ≡ others
one_levels_of sizes tris levels others are also =
    let leaves = one_cut sizes.cluster (numbered 0 tris) are.leaves also.leaves are.cut also.cut in
    one_list_of_levels sizes (map source_cluster also.leaves) levels others
    (subst (λ ls. AreLevels sizes (map source_cluster ls) levels) leaves are.grown) also.grown

pub one_dag : (tris : List Tri) (dag other : Dag) → IsBuilt tris dag → IsBuilt tris other → dag ≡ other
one_dag tris dag other is also =
    is.numbered ∙ (ap (dag_of (length tris)) (one_levels_of full_sizes tris is.levels also.levels is.of_mesh
    also.of_mesh) ∙ sym also.numbered)
