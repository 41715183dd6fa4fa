use Rattle.std.proofs.Common.{◌≡◌, ◌∙◌, ◌++◌, ◌+◌, not, false, true, is_none, List, ap, get_or, length, sym, subst}
use Rattle.std.proofs.lemmas.List.{with_items_is}
use Rattle.dag_core.specs.declared.cluster_heads.ClusterHead.{ClusterHead}
use Rattle.dag_core.specs.Members.{cluster_at, no_cluster}
use Rattle.dag_core.specs.Triangles.{tris_at, tris_in}
use Rattle.dag_soundness.specs.Internal.LeafPlaces.{ArePlacesFor, from_source}
use Rattle.dag_soundness.proofs.LeafLaws.{leaf-more, leaf-same, leaves_before, places-same}
use Rattle.dag_soundness.proofs.leaf_places.leaf_places.Goals.{else-is_none, then-is_none}
use Rattle.dag_soundness.proofs.leaf_places.leaf_places.Goals as goal

pub clusters-preserved : goal.clusters-preserved
clusters-preserved c =
    let dag = c.args.dag.now in
    let k = c.clusters.c in
    let read = ap (λ (cs : List ClusterHead). is_none (get_or cs k no_cluster).made) c.as_slice-clusters.ensures in
    let found = from_source (tris_in dag (leaves_before dag.heads k)) in
    let next = from_source (tris_in dag (leaves_before dag.heads (k + 1))) in
    elim c.if-is_none.branch [
      | then-is_none w ↦
          let leaf : is_none (cluster_at c.args.dag.now.heads c.clusters.c).made ≡ true =
          sym read ∙ ap not w.if-is_none.ensures in
          let before = subst (ArePlacesFor dag found) (sym w.deref_mut.ensures.value) c.clusters.invariant in
          let count : length w.note_tris.new.places ≡ c.clusters.places.len =
          w.note_tris.ensures.count ∙ (sym c.clusters.invariant.count
          ∙ (ap length (sym w.deref_mut.ensures.value) ∙ w.deref_mut.ensures.len)) in
          subst (ArePlacesFor dag next)
          (sym (ap (λ v. v.items) w.places-is ∙ with_items_is c.clusters.places w.note_tris.new.places count))
          (places-same dag (λ source. found source ++ from_source (tris_at dag k) source) next w.note_tris.new.places
          (leaf-more dag k leaf) (w.note_tris.ensures.places found before))
      | else-is_none w ↦
          let made : is_none (cluster_at c.args.dag.now.heads c.clusters.c).made ≡ false =
          sym read ∙ ap not w.if-is_none.ensures in
          subst (λ ls. ArePlacesFor dag (from_source (tris_in dag ls)) c.if-is_none.places.items) (leaf-same dag k made)
          (subst (ArePlacesFor dag found) (sym (ap (λ v. v.items) w.places-is)) c.clusters.invariant)
    ]
