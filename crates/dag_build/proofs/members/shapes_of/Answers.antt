use Rattle.std.proofs.Common.{get_or, rules, ◌+◌, List, ◌++◌, ◌∷◌, [], ◌∙◌, ap, sym, subst, All, length, take}
use Rattle.std.proofs.lemmas.List.{length_push, take_more}
use Rattle.std.proofs.lemmas.List.Elements.{All-push}
use Rattle.geom_core.specs.TaggedLists.{tris_of}
use Rattle.partition.specs.Groups.{IsGridShape}
use Rattle.dag_build.specs.declared.level_clusters.LevelCluster.{LevelCluster}
use Rattle.dag_build.specs.Grouping.{AreShapesOf, IsShapeOf}
use Rattle.dag_build.proofs.MemberLaws.{shapes-none, shapes-push}
use Rattle.dag_build.proofs.members.shapes_of.Goals as goal

pub loop-cluster-init : goal.loop-cluster-init
loop-cluster-init c = record {
  shapes = subst (AreShapesOf []) (sym c.in_ok-shapes.ensures.items) shapes-none;
  range = search rules;
  count = ap length c.in_ok-shapes.ensures.items;
}

pub loop-cluster-preserved : goal.loop-cluster-preserved
loop-cluster-preserved c =
    let old = c.loop-cluster.shapes.items in
    let i = c.loop-cluster.cluster-index in
    let shape = c.in_ok-shape.shape in
    let grown = c.in_ok-push.ensures.items in
    let all = sym (take_more c.args.clusters.now i c.cluster-item.result c.loop-cluster-test.true) in
    let here : IsShapeOf (tris_of c.cluster-item.result.tris) shape = c.in_ok-shape.ensures.shape in
    let at : LevelCluster = get_or c.args.clusters.now i c.cluster-item.result in
    let P : LevelCluster → Type 0 = λ m. IsShapeOf (tris_of m.tris) shape in
    record {
      shapes = subst (λ (xs : List LevelCluster). AreShapesOf xs c.push.new.self.items) all
          (subst (AreShapesOf (take i c.args.clusters.now ++ at ∷ [])) (sym grown)
          (shapes-push (take i c.args.clusters.now) old at shape c.loop-cluster.invariant.shapes
          (subst P c.cluster-item.is here)));
      range = subst (All IsGridShape) (sym grown)
          (All-push IsGridShape old shape c.loop-cluster.invariant.range c.in_ok-shape.ensures.shape_range);
      count = ap length grown ∙ (length_push old shape ∙ ap (λ n. n + 1) c.loop-cluster.invariant.count);
    }
