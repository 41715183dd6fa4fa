use Rattle.std.proofs.Common.{◌≡◌, ◌≤◌, ◌<◌, ◌+◌, ◌++◌, [], List, ℕ, take, length, get_or, All, ap, sym, subst, refl}
use Rattle.std.proofs.Common.{◌∙◌, arith}
use Rattle.std.specs.List.{concat}
use Rattle.std.proofs.lemmas.List.{get_or_read, length-map}
use Rattle.partition.specs.Batches.{pick}
use Rattle.partition.specs.Groups.{AreGroups}
use Rattle.dag_build.specs.declared.level_clusters.LevelCluster.{LevelCluster}
use Rattle.dag_build.specs.Grouping.{AreShapesOf, no_cluster}
use Rattle.dag_build.specs.Levels.{tris_in}
use Rattle.dag_build.specs.Internal.Taking.{AreFresh, AreLeft}
use Rattle.dag_build.proofs.BatchLaws.{concat-more}
use Rattle.dag_build.proofs.LevelLaws.{GroupsSoFar, batches-seen, clusters-few, groups-all, groups-more, groups-none}
use Rattle.dag_build.proofs.LevelLaws.{picked-some}
use Rattle.dag_build.proofs.building.build_level.Goals as goal

pub cut_groups-requires-clause-cluster_limit : goal.cut_groups-requires-clause-cluster_limit
cut_groups-requires-clause-cluster_limit c =
    let few = clusters-few c.args.clusters.items c.requires.clusters in
    let a = ap length c.deref-2.ensures.value in
    let b = c.in_ok-shapes.ensures.count in
    let d = ap length c.deref.ensures.value in
    omega arith

pub loop-place-init : goal.loop-place-init
loop-place-init c = record {
  facts = batches-seen c.args.clusters.items c.deref.result.now c.in_ok-shapes.shapes.items c.deref-2.result.now
      c.in_ok-batches.batches.items c.deref-batch-items.result.now c.deref.ensures.value c.in_ok-shapes.ensures.shapes
      c.deref-2.ensures.value c.in_ok-batches.ensures c.deref-batch-items.ensures.value;
  left = record { count = refl; each = λ k within other. refl };
  groups = subst (λ xs. GroupsSoFar c.args.clusters.items c.deref-batch-items.result.now 0 xs
      c.new-made.result.items) (sym c.in_ok-groups.ensures.items)
      (subst (GroupsSoFar c.args.clusters.items c.deref-batch-items.result.now 0 []) (sym c.new-made.ensures.items)
      (groups-none c.args.clusters.items c.deref-batch-items.result.now));
}

pub take_members-requires : goal.take_members-requires
take_members-requires c =
    let clusters = c.args.clusters.items in
    let batches = c.deref-batch-items.result.now in
    let facts = c.loop-place.invariant.facts in
    let here = get_or_read batches c.loop-place.place c.batch-item.result c.loop-place-test.true c.batch-item.is [] in
    let P : ℕ → List ℕ → Type 0 = λ n numbers. All (λ number. number < n) numbers in
    record {
      number_range = subst (λ n. P n c.as_slice.result.now) (sym c.loop-place.invariant.left.count)
          (subst (P (length clusters)) (sym (c.as_slice.ensures ∙ here))
          (facts.below c.loop-place.place [] c.loop-place-test.true));
    }

pub overflow_cast-place : goal.overflow_cast-place
overflow_cast-place c =
    let clusters = c.args.clusters.items in
    let batches = c.deref-batch-items.result.now in
    let facts = c.loop-place.invariant.facts in
    let few = clusters-few clusters c.requires.clusters in
    let all = facts.few in
    let limit = c.requires.triangle_limit in
    omega arith

pub simplify_group-requires-clause-member_limit : goal.simplify_group-requires-clause-member_limit
simplify_group-requires-clause-member_limit c =
    let clusters = c.args.clusters.items in
    let batches = c.deref-batch-items.result.now in
    let k = c.loop-place.place in
    let numbers = c.as_slice.result.now in
    let facts = c.loop-place.invariant.facts in
    let here = c.as_slice.ensures ∙
    get_or_read batches k c.batch-item.result c.loop-place-test.true c.batch-item.is [] in
    let apart = subst (AreFresh (concat (take k batches))) (sym here) (facts.apart k c.loop-place-test.true) in
    let named : ℕ → LevelCluster = λ n. get_or clusters n no_cluster in
    let size = ap length (c.in_ok-members.ensures.members clusters (concat (take k batches))
    c.loop-place.invariant.left apart) in
    let len = length-map numbers named in
    let same = ap length here in
    let limit = facts.size_limit k [] c.loop-place-test.true in
    omega arith

pub simplify_group-requires-clause-triangles : goal.simplify_group-requires-clause-triangles
simplify_group-requires-clause-triangles c =
    let clusters = c.args.clusters.items in
    let batches = c.deref-batch-items.result.now in
    let k = c.loop-place.place in
    let facts = c.loop-place.invariant.facts in
    let here = c.as_slice.ensures ∙
    get_or_read batches k c.batch-item.result c.loop-place-test.true c.batch-item.is [] in
    let apart = subst (AreFresh (concat (take k batches))) (sym here) (facts.apart k c.loop-place-test.true) in
    let members = c.in_ok-members.ensures.members clusters (concat (take k batches)) c.loop-place.invariant.left apart ∙
    ap (pick clusters no_cluster) here in
    subst (λ xs. 1 ≤ length (tris_in xs)) (sym members)
    (picked-some clusters (get_or batches k []) (facts.below k [] c.loop-place-test.true) c.requires.clusters
    (facts.not_empty k [] c.loop-place-test.true))

pub loop-place-preserved : goal.loop-place-preserved
loop-place-preserved c =
    let clusters = c.args.clusters.items in
    let batches = c.deref-batch-items.result.now in
    let k = c.loop-place.place in
    let facts = c.loop-place.invariant.facts in
    let here = c.as_slice.ensures ∙
    get_or_read batches k c.batch-item.result c.loop-place-test.true c.batch-item.is [] in
    let apart = subst (AreFresh (concat (take k batches))) (sym here) (facts.apart k c.loop-place-test.true) in
    let left = c.loop-place.invariant.left in
    let members = c.in_ok-members.ensures.members clusters (concat (take k batches)) left apart ∙ ap
    (pick clusters no_cluster) here in
    let all : concat (take k batches) ++ c.as_slice.result.now ≡ concat (take (k + 1) batches) =
    ap (λ xs. concat (take k batches) ++ xs) here ∙ sym (concat-more batches k c.loop-place-test.true) in
    let g = c.in_ok-group.ensures.group in
    record {
      facts = facts;
      left = subst (λ xs. AreLeft clusters xs c.take_members.new.slots.items) all
          (c.in_ok-members.ensures.slots clusters (concat (take k batches)) left);
      groups = groups-more clusters batches k c.loop-place.groups.items c.push.new.self.items c.loop-place.made.items
          c.simplify_group.new.made.items g.0 c.in_ok-group.group c.len-count.result c.loop-place-test.true
          c.loop-place.invariant.groups
          (c.len-count.ensures ∙ c.args.clusters.ok.0) g.1 (g.2 ∙ members) g.3 c.in_ok-push.ensures.items g.4;
    }

pub returns : goal.returns
returns c =
    let clusters = c.args.clusters.items in
    let batches = c.deref-batch-items.result.now in
    let so_far = c.loop-place.invariant.groups in
    let shaped = subst (λ xs. AreShapesOf xs c.in_ok-shapes.shapes.items)
    c.deref.ensures.value c.in_ok-shapes.ensures.shapes in
    let grown = subst (AreGroups c.in_ok-shapes.shapes.items) (sym c.deref-batch-items.ensures.value)
    (subst (λ xs. AreGroups xs c.in_ok-batches.batches.items) c.deref-2.ensures.value c.in_ok-batches.ensures) in
    record {
      level = (
        so_far.groups,
        groups-all clusters c.in_ok-shapes.shapes.items batches c.loop-place.place c.loop-place.groups.items
            c.loop-place.made.items
            shaped grown c.loop-place-test.false so_far,
        so_far.held_are,
        so_far.made_are,
      );
    }
