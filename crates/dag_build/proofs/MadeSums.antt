-- Built DAGs keep edge sums: what a group made has those of its members.
use Rattle.std.proofs.Common.{◌≡◌, ◌∙◌, ◌<◌, ◌+◌, ◌-◌, ◌&&◌, nat_lt, not, inl, inr, zero-add, ℕ, Bool, true, false}
use Rattle.std.proofs.Common.{List, [], ◌∷◌, ◌++◌, length, map, flat_map, get_or, All, refl, sym, ap, subst, arith}
use Rattle.std.specs.List.{range_with_len}
use Rattle.std.proofs.lemmas.Bool.{and_parts, cases_lt, false_from_ne_true, false≢true, not_from_true}
use Rattle.std.proofs.lemmas.Bool.Decides.{nat_tests}
use Rattle.std.proofs.lemmas.List.{get_or-append-add, get_or_append_left, length-append}
use Rattle.std.proofs.lemmas.List.Sorted.{IsPermutation-map, sum_by-IsPermutation}
use Rattle.geom_core.specs.declared.limits.TheConstants.{CLUSTERS_PER_GROUP, TRIANGLES_PER_CLUSTER}
use Rattle.geom_core.specs.declared.points.Pt.{Pt}
use Rattle.geom_core.specs.declared.triangles.Tri.{Tri}
use Rattle.geom_core.specs.declared.triangles.Tagged.{Tagged}
use Rattle.geom_core.specs.EdgeSum.{edge_count, edge_sum}
use Rattle.geom_core.specs.Limits.{AreGridTriangles}
use Rattle.geom_core.specs.TaggedLists.{tris_of}
use Rattle.geom_core.proofs.EdgeSumLaws.{edge_sum-IsPermutation}
use Rattle.rim_collapse.specs.States.{tagged_of}
use Rattle.rim_collapse.proofs.Following.{simplified-sums}
use Rattle.dag_core.specs.declared.dags.Dag.{Dag}
use Rattle.dag_core.specs.declared.groups.Group.{Group}
use Rattle.dag_core.specs.Members.{group_at, is_made_by, made_by, members}
use Rattle.dag_core.specs.TriangleRules.{breaks_sums, dag_breaks, have_same_sums}
use Rattle.dag_core.specs.Triangles as triangles
use Rattle.dag_core.proofs.SumLaws.{agree_everywhere}
use Rattle.dag_build.specs.declared.level_clusters.LevelCluster.{LevelCluster}
use Rattle.dag_build.specs.Built.{AreLevels, IsBuilt}
use Rattle.dag_build.specs.Grouping.{AreCut, full_sizes, no_cluster}
use Rattle.dag_build.specs.Levels.{LevelGroup, next_clusters, source_cluster, tris_in}
use Rattle.dag_build.specs.Numbers.{groups_in, members_in}
use Rattle.dag_build.specs.Outcomes.{AreMade, IsOutcome}
use Rattle.dag_build.proofs.BuiltDags.{AreBuilt, built}
use Rattle.dag_build.proofs.GroupNumbers.{first_at, group-at, group-count, member-is}
use Rattle.dag_build.proofs.BatchLaws.{cut-moved}
use Rattle.dag_build.proofs.Entries.{Entry, HasEntries, entries-clusters, entries-heads, entries_in, entries_of}
use Rattle.dag_build.proofs.Entries.{head_of_entry, mapped-at, tris-in-a-row, tris-passing, tris_of_entry}
use Rattle.dag_build.proofs.GoodLevels.{AreGoodLevels}
use Rattle.dag_build.proofs.GoodClusters.{group_of_level, no_level_group}
use Rattle.dag_build.proofs.LevelLaws.{members-moved}
use Rattle.dag_build.proofs.MadeLaws.{any-none, from-made, is_from}
use Rattle.dag_build.proofs.MadeEdges.{edges_in, edges_if, passing-edges, made_edges, edges_from, none_after}
use Rattle.dag_build.proofs.MadeEdges.{entries-none, level-edges, levels-none, own-edges, from-edges}

-- ---- all levels

next-edges : (tris : List Tri) (level_clusters p : ℕ) (u v : Pt) (groups : List LevelGroup) (levels : List
    (List LevelGroup)) →
    All (IsOutcome TRIANGLES_PER_CLUSTER level_clusters) groups →
    AreLevels full_sizes (next_clusters groups) levels → AreGoodLevels tris groups levels →
    p < length groups → (group_of_level groups p).terminal ≡ false →
    made_edges (length (groups_in levels) + p) u v (entries_in levels) ≡ edges_in u v (flat_map (λ leaf. leaf)
    (group_of_level groups p).made)
unfolding AreLevels AreGoodLevels entries_in groups_in
next-edges tris level_clusters p u v groups [] all levels good below off =
    absurd (any-none (is_from (0 + p)) (next_clusters groups) levels
    (from-made TRIANGLES_PER_CLUSTER level_clusters 0 p groups all below off))
next-edges tris level_clusters p u v groups (next ∷ rest) all levels good below off =
    let base : ℕ = length (groups_in rest ++ next) in
    let len = length-append (groups_in rest) next in
    let later = levels-none tris next rest (base + p) u v good.1 (omega arith) in
    let own = own-edges base p u v (members_in next) in
    let moved = members-moved CLUSTERS_PER_GROUP (next_clusters groups) next levels.1.0.grouped in
    let same = sum_by-IsPermutation (λ (c : LevelCluster). edges_if (is_from p c) u v c.tris) (next_clusters groups)
    (members_in next) moved in
    let made = subst (λ n. edges_from n u v (next_clusters groups) ≡ edges_in u v (flat_map (λ
    (leaf : List Tagged). leaf) (group_of_level groups p).made))
    (zero-add p) (from-edges 0 p u v groups below) in
    level-edges (base + p) base u v (entries_in rest) (members_in next) ∙ omega arith

-- a group of these levels
record IsGroupIn (g : ℕ) (group : LevelGroup) (levels : List (List LevelGroup)) : Type 0 where
  level_clusters : ℕ
  outcome : IsOutcome TRIANGLES_PER_CLUSTER level_clusters group
  edges : (u v : Pt) → made_edges g u v (entries_in levels) ≡ edges_in u v (flat_map (λ leaf. leaf) group.made)

group-in : (tris : List Tri) (before : List LevelGroup) (clusters : List LevelCluster) (levels : List
    (List LevelGroup)) (g : ℕ) →
    AreLevels full_sizes clusters levels → AreGoodLevels tris before levels → g < length (groups_in levels) →
    (group_of_level (groups_in levels) g).terminal ≡ false → IsGroupIn g (group_of_level (groups_in levels) g) levels
unfolding AreLevels AreGoodLevels entries_in groups_in
group-in tris before clusters [] g levels good below off = absurd (omega arith)
group-in tris before clusters (groups ∷ rest) g levels good below off =
    let later : List LevelGroup = groups_in rest in
    let base : ℕ = length (later ++ groups) in
    let len = length-append later groups in
    let own : (u v : Pt) → made_edges g u v (entries_of base (members_in groups)) ≡ 0 = λ u v.
    entries-none g base u v (members_in groups) (λ k d within. none_after g base (get_or
    (members_in groups) k d).maker below) in
    elim (cases_lt g (length later)) [
      | inl there ↦
          let same : group_of_level (later ++ groups) g ≡ group_of_level later g = get_or_append_left later groups
          no_level_group g there in
          let is = group-in tris groups (next_clusters groups) rest g levels.1.1 good.1 there
          (sym (ap (λ (group : LevelGroup). group.terminal) same) ∙ off) in
          record {
            level_clusters = is.level_clusters;
            outcome = subst (IsOutcome TRIANGLES_PER_CLUSTER is.level_clusters) (sym same) is.outcome;
            edges = λ u v.
                let none = own u v in
                let rest_of = is.edges u v ∙ ap (λ (group : LevelGroup). edges_in u v (flat_map (λ
                (leaf : List Tagged). leaf) group.made)) (sym same) in
                level-edges g base u v (entries_in rest) (members_in groups) ∙ omega arith;
          }
      | inr here ↦
          let p : ℕ = g - length later in
          let number : length later + p ≡ g = omega arith in
          let same : group_of_level (later ++ groups) g ≡ group_of_level groups p =
          ap (group_of_level (later ++ groups)) (sym number) ∙ get_or-append-add later groups p no_level_group in
          let off_here = sym (ap (λ (group : LevelGroup). group.terminal) same) ∙ off in
          let inside : p < length groups = omega arith in
          record {
            level_clusters = length clusters;
            outcome = subst (IsOutcome TRIANGLES_PER_CLUSTER (length clusters)) (sym same)
                (levels.1.0.outcomes p no_level_group inside);
            edges = λ u v.
                let none = own u v in
                let made = next-edges tris (length clusters) p u v groups rest levels.1.0.outcomes levels.1.1 good.1
                inside off_here in
                let at_g = subst (λ n. made_edges n u v (entries_in rest) ≡ edges_in u v (flat_map (λ
                (leaf : List Tagged). leaf) (group_of_level groups p).made))
                number made in
                let rest_of = at_g ∙ ap (λ (group : LevelGroup). edges_in u v (flat_map (λ
                (leaf : List Tagged). leaf) group.made)) (sym same) in
                level-edges g base u v (entries_in rest) (members_in groups) ∙ omega arith;
          }
    ]

-- ---- rule 6

-- what a group that isn't terminal made has the edge sums of its members
made-sums : (level_clusters : ℕ) (group : LevelGroup) (u v : Pt) →
    IsOutcome TRIANGLES_PER_CLUSTER level_clusters group → group.terminal ≡ false →
    edge_sum (tris_of (flat_map (λ leaf. leaf) group.made)) u v ≡ edge_sum (tris_of (tris_in group.members)) u v
made-sums level_clusters group u v is off =
    let left : List Tagged = map tagged_of is.kept in
    let cut : AreCut TRIANGLES_PER_CLUSTER left group.made = subst
    (λ b. AreMade TRIANGLES_PER_CLUSTER b left group.made) off is.made in
    let made : List Tagged = flat_map (λ (leaf : List Tagged). leaf) group.made in
    let moved = IsPermutation-map (λ (t : Tagged). t.tri) left made
    (cut-moved TRIANGLES_PER_CLUSTER left group.made cut) in
    edge_sum-IsPermutation (tris_of left) (tris_of made) u v moved
    ∙ simplified-sums (tris_in group.members) is.locked is.kept is.simplified (λ p on. (is.rim_points p).1 on) u v

sums-from : (tris others : List Tri) (u v : Pt) → edge_count tris u v ≡ edge_count others u v →
    edge_count tris v u ≡ edge_count others v u →
    edge_sum tris u v ≡ edge_sum others u v
unfolding edge_sum
sums-from tris others u v a b = rw (a, b) refl

pub has-entries : (tris : List Tri) (levels : List (List LevelGroup)) (dag : Dag) → AreBuilt tris levels dag →
    HasEntries dag (entries_in levels)
has-entries tris levels dag all = record {
  heads = all.counts.are.clusters ∙ entries-heads levels;
  tris = all.tris_are ∙ (ap (map (λ (cluster : LevelCluster). cluster.tris)) (entries-clusters levels) ∙ two_maps
      (entries_in levels));
}
  where
    two_maps : (entries : List Entry) → map (λ (cluster : LevelCluster). cluster.tris) (map (λ
        (entry : Entry). entry.cluster) entries) ≡ map tris_of_entry entries
    two_maps [] = refl
    two_maps (entry ∷ entries) = ap (λ list. entry.cluster.tris ∷ list) (two_maps entries)

members-are : (tris : List Tri) (levels : List (List LevelGroup)) (dag : Dag) (g : ℕ) → AreBuilt tris levels dag →
    g < length (groups_in levels) →
    triangles.tris_in dag (members dag.heads g) ≡ tris_in (group_of_level (groups_in levels) g).members
members-are tris levels dag g all within =
    let gs : List LevelGroup = groups_in levels in
    let group : LevelGroup = group_of_level gs g in
    let own : LevelCluster → List Tagged = λ cluster. cluster.tris in
    ap (λ (one : Group). triangles.tris_in dag (range_with_len one.first one.count))
    (group-at levels dag.heads g all.counts.are within)
    ∙ tris-in-a-row dag (first_at gs g) group.members
    (λ i inside.
    ap (λ list. get_or list (first_at gs g + i) []) all.tris_are
    ∙ (mapped-at own (members_in gs) (first_at gs g + i) no_cluster ∙ ap own (member-is gs g i within inside)))

sums-agree : (tris : List Tri) (levels : List (List LevelGroup)) (dag : Dag) (g : ℕ) → AreBuilt tris levels dag →
    g < length (groups_in levels) →
    (group_of_level (groups_in levels) g).terminal ≡ false →
    have_same_sums (tris_of (triangles.tris_in dag (members dag.heads g))) (tris_of (triangles.tris_in dag
    (made_by dag.heads g))) ≡ true
sums-agree tris levels dag g all within off =
    let group : LevelGroup = group_of_level (groups_in levels) g in
    let entries : List Entry = entries_in levels in
    let is = group-in tris [] (map source_cluster all.leaves) levels g all.grown all.good within off in
    let made = tris-passing dag entries (is_made_by g) (has-entries tris levels dag all) in
    let passes : Entry → Bool = λ entry. is_made_by g (head_of_entry entry) in
    let count : (u v : Pt) → edges_in u v (triangles.tris_in dag (made_by dag.heads g)) ≡ edges_in u v (flat_map (λ
    (leaf : List Tagged). leaf) group.made) = λ u v.
    ap (edges_in u v) made ∙ (passing-edges tris_of_entry passes entries u v ∙ is.edges u v) in
    agree_everywhere (tris_of (triangles.tris_in dag (members dag.heads g))) (tris_of (triangles.tris_in dag
    (made_by dag.heads g)))
    (λ u v.
    ap (λ list. edge_sum (tris_of list) u v) (members-are tris levels dag g all within)
    ∙ (sym (made-sums is.level_clusters group u v is.outcome off)
    ∙ sym (sums-from (tris_of (triangles.tris_in dag (made_by dag.heads g))) (tris_of (flat_map (λ
    (leaf : List Tagged). leaf) group.made)) u v
    (count u v) (count v u))))

sums-kept : (tris : List Tri) (levels : List (List LevelGroup)) (dag : Dag) (g : ℕ) → AreBuilt tris levels dag →
    breaks_sums dag g ≡ false
unfolding breaks_sums
sums-kept tris levels dag g all =
    false_from_ne_true
    (nat_lt g (length dag.heads.groups) && (not (group_at dag.heads g).terminal && not (have_same_sums (tris_of
    (triangles.tris_in dag (members dag.heads g)))
    (tris_of (triangles.tris_in dag (made_by dag.heads g))))))
    (λ broken.
    let outer = and_parts (nat_lt g (length dag.heads.groups)) _ broken in
    let inner = and_parts (not (group_at dag.heads g).terminal) _ outer.1 in
    let count = group-count levels dag.heads all.counts.are in
    let within : g < length (groups_in levels) = below g (length dag.heads.groups) (length
    (groups_in levels)) outer.0 count in
    let same = ap (λ (one : Group). one.terminal) (group-at levels dag.heads g all.counts.are within) in
    let off : (group_of_level (groups_in levels) g).terminal ≡ false = sym same ∙ off_from
    (group_at dag.heads g).terminal inner.0 in
    false≢true (sym (not_from_true _ (sums-agree tris levels dag g all within off)) ∙ inner.1))
  where
    below : (g m n : ℕ) → nat_lt g m ≡ true → m ≡ n → g < n
    below g m n h same = grind (arith, nat_tests)

    off_from : (b : Bool) → not b ≡ true → b ≡ false
    off_from true h = absurd (false≢true h)
    off_from false h = refl

pub edge_sums : (tris : List Tri) (dag : Dag) (g : ℕ) → AreGridTriangles tris → IsBuilt tris dag →
    dag_breaks 6 dag g ≡ false
edge_sums tris dag g mesh is = sums-kept tris is.levels dag g (built tris dag mesh is)
