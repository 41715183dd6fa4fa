use Rattle.std.proofs.Common.{◌≡◌, ◌∙◌, ◌+◌, [], List, map, take, ap, subst, sym}
use Rattle.geom_core.specs.declared.triangles.Tri.{Tri}
use Rattle.geom_core.specs.TaggedLists.{tris_of}
use Rattle.half_mesh.specs.Rim.{AreRimsOf, IsRimOf}
use Rattle.dag_soundness.proofs.PartLaws.{rims-next, rims-none}
use Rattle.dag_soundness.proofs.edge_sums.cluster_rims.Goals as goal

pub clusters-init : goal.clusters-init
clusters-init c = subst (AreRimsOf []) (sym c.in_ok-rims.ensures.items) rims-none

pub clusters-preserved : goal.clusters-preserved
clusters-preserved c =
    let i = c.clusters.tagged-index in
    let rim = c.in_ok-of.field-0 in
    let tris : c.deref.result.now ≡ tris_of c.tagged-item.result =
    c.deref.ensures.value ∙ (c.in_ok-tris.ensures.triangles ∙ ap tris_of c.as_slice.ensures) in
    let is = subst (λ (ts : List Tri). IsRimOf ts rim.edges rim.sums) tris c.in_ok-of.ensures.rim in
    subst (AreRimsOf (map tris_of (take (i + 1) c.args.lists.now))) (sym c.in_ok-push.ensures.items)
    (rims-next c.args.lists.now c.clusters.rims.items i c.tagged-item.result rim c.clusters-test.true c.tagged-item.is
    c.clusters.invariant is)
