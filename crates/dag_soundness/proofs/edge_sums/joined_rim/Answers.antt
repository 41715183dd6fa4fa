use Rattle.std.proofs.Common.{◌∙◌, ◌+◌, [], List, get_or, map, take, refl, ap, subst, sym, length, arith}
use Rattle.std.proofs.lemmas.List.{length-map, map-append, take_all}
use Rattle.geom_core.specs.declared.triangles.Tagged.{Tagged}
use Rattle.geom_core.specs.declared.triangles.Tri.{Tri}
use Rattle.geom_core.specs.TaggedLists.{tris_of}
use Rattle.dag_core.specs.Triangles.{tris_in}
use Rattle.half_mesh.specs.Rim.{AreRimsOf, IsRimOf}
use Rattle.half_mesh.proofs.RimLaws.{few_have_small_sums}
use Rattle.dag_soundness.proofs.PartLaws.{lists_in, lists_in-all, rims-count, rims-more, rims-none, tris_limit-in}
use Rattle.dag_soundness.proofs.edge_sums.joined_rim.Goals as goal

pub clusters-init : goal.clusters-init
clusters-init c = subst (AreRimsOf []) (sym (ap (map (λ part. part.now)) c.in_ok-parts.ensures.items)) rims-none

pub bounds-rims-cluster : goal.bounds-rims-cluster
bounds-rims-cluster c =
    let plain : List Tagged → List Tri = tris_of in
    let count = rims-count (map plain c.args.dag.now.tris) c.args.rims.now c.requires.rims in
    let len = length-map c.args.dag.now.tris plain in
    let range = c.requires.cluster_range c.clusters.cluster-index 0 c.clusters-test.true in
    omega arith

pub clusters-preserved : goal.clusters-preserved
clusters-preserved c =
    let i = c.clusters.cluster-index in
    let clusters = c.args.clusters.now in
    let grown = ap (map (λ part. part.now)) c.in_ok-push.ensures.items
    ∙ map-append (λ part. part.now) c.clusters.parts.items _ in
    subst (AreRimsOf (lists_in c.args.dag.now (take (i + 1) clusters))) (sym grown)
    (rims-more c.args.dag.now c.args.rims.now (map (λ part. part.now) c.clusters.parts.items) clusters i
    (get_or clusters i 0) c.index-rims-cluster.result c.requires.rims c.clusters-test.true refl
    (c.requires.cluster_range i 0 c.clusters-test.true) c.index-rims-cluster.is c.clusters.invariant)

are_rims : (c : goal.After-deref) →
    AreRimsOf (lists_in c.args.dag.now c.args.clusters.now) (map (λ part. part.now) c.deref.result.now)
are_rims c =
    subst (AreRimsOf (lists_in c.args.dag.now c.args.clusters.now))
    (sym (ap (map (λ part. part.now)) c.deref.ensures.value))
    (subst (λ xs. AreRimsOf (lists_in c.args.dag.now xs) (map (λ part. part.now) c.clusters.parts.items))
    (take_all c.clusters.cluster-index c.args.clusters.now c.clusters-test.false) c.clusters.invariant)

pub joined-requires : goal.joined-requires
joined-requires c =
    let plain : Tagged → Tri = λ t. t.tri in
    let dag = c.args.dag.now in
    let clusters = c.args.clusters.now in
    let all = ap length (lists_in-all dag clusters) in
    let len = length-map (tris_in dag clusters) plain in
    let few = tris_limit-in dag clusters c.requires.laid_out c.requires.cluster_range in
    let limit = c.requires.cluster_limit in
    record {
      sum_range = few_have_small_sums (lists_in dag clusters) (map (λ part. part.now) c.deref.result.now) (are_rims c)
          (omega arith);
    }

pub returns : goal.returns
returns c =
    let dag = c.args.dag.now in
    let clusters = c.args.clusters.now in
    let rims : AreRimsOf (lists_in dag clusters) (map (λ part. part.now) c.deref.result.now) =
    subst (AreRimsOf (lists_in dag clusters)) (sym (ap (map (λ part. part.now)) c.deref.ensures.value))
    (subst (λ xs. AreRimsOf (lists_in dag xs) (map (λ part. part.now) c.clusters.parts.items))
    (take_all c.clusters.cluster-index clusters c.clusters-test.false) c.clusters.invariant) in
    record {
      rim = subst (λ tris. IsRimOf tris c.in_ok-joined.field-0.edges c.in_ok-joined.field-0.sums)
          (lists_in-all dag clusters) (c.in_ok-joined.ensures.rim (lists_in dag clusters) rims);
    }
