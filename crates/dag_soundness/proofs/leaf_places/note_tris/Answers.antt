use Rattle.std.proofs.Common.{◌++◌, ◌∙◌, ◌+◌, List, get_or, set, take, ap, pos, refl, subst, sym, length, arith}
use Rattle.std.proofs.lemmas.List.{length-set, take_all}
use Rattle.geom_core.specs.declared.points.Pt.{Pt}
use Rattle.geom_core.specs.declared.triangles.Tagged.{Tagged}
use Rattle.dag_core.specs.Triangles.{tris_at}
use Rattle.dag_soundness.specs.declared.leaf_places.LeafPlace.{LeafPlace}
use Rattle.dag_soundness.specs.declared.leaf_places.LeafPlace.TheVariants.{Missing}
use Rattle.dag_soundness.specs.Internal.LeafPlaces.{ArePlacesFor, from_source}
use Rattle.dag_soundness.proofs.LeafLaws.{places-more, tris-read}
use Rattle.dag_soundness.proofs.PartLaws.{cluster_size}
use Rattle.dag_soundness.proofs.leaf_places.note_tris.Goals as goal

pub overflow_cast-k : goal.overflow_cast-k
overflow_cast-k c =
    let read = tris-read c.args.dag.now c.args.cluster c.as_slice.result.now c.index-as_slice-cluster.result
    c.as_slice-tris.result.now c.requires.cluster_range c.as_slice.ensures c.index-as_slice-cluster.is
    c.as_slice-tris.ensures in
    let count = ap length read in
    let size = cluster_size c.args.dag.now c.args.cluster c.requires.laid_out c.requires.cluster_range in
    omega arith

pub tris-preserved : goal.tris-preserved
tris-preserved c =
    let dag = c.args.dag.now in
    let read = tris-read dag c.args.cluster c.as_slice.result.now c.index-as_slice-cluster.result
    c.as_slice-tris.result.now c.requires.cluster_range c.as_slice.ensures c.index-as_slice-cluster.is
    c.as_slice-tris.ensures in
    let count = ap length read in
    let origin : Pt = record { x = pos 0; y = pos 0; z = pos 0 } in
    let none : Tagged = record { tri = record { a = origin; b = origin; c = origin }; source = 0 } in
    let k = c.tris.k in
    let t : Tagged = get_or c.as_slice-tris.result.now k none in
    let here : LeafPlace = get_or c.tris.places t.source Missing in
    record {
      count = length-set c.tris.places t.source c.with.result ∙ c.tris.invariant.count;
      places = λ found are.
          subst (λ place. ArePlacesFor dag (λ source. found source ++ from_source
          (take (k + 1) (tris_at dag c.args.cluster)) source) (set c.tris.places t.source place))
          (sym c.with.ensures.place)
          (places-more dag found c.tris.places c.args.cluster k here Missing t none c.requires.laid_out
          c.requires.cluster_range (omega arith) (ap (λ (ts : List Tagged). get_or ts k none) read) refl
          (c.tris.invariant.places found are));
    }

pub returns-clause-places : goal.returns-clause-places
returns-clause-places c = λ found are.
    let dag = c.args.dag.now in
    let read = tris-read dag c.args.cluster c.as_slice.result.now c.index-as_slice-cluster.result
    c.as_slice-tris.result.now c.requires.cluster_range c.as_slice.ensures c.index-as_slice-cluster.is
    c.as_slice-tris.ensures in
    let count = ap length read in
    subst (λ (ts : List Tagged). ArePlacesFor dag (λ source. found source ++ from_source ts source) c.tris.places)
    (take_all c.tris.k (tris_at dag c.args.cluster) (omega arith)) (c.tris.invariant.places found are)
