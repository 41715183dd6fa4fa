use Rattle.std.proofs.Common.{◌≡◌, ◌++◌, ℕ, List, take, length}
use Rattle.geom_core.specs.declared.triangles.Tagged.{Tagged}
use Rattle.dag_core.specs.Triangles.{tris_at}
use Rattle.dag_soundness.specs.Internal.LeafPlaces.{ArePlacesFor, from_source}
use Rattle.dag_soundness.proofs.leaf_places.note_tris.Given as goal

abbrev pub invariant-tris : goal.invariant-tris
invariant-tris l = record {
  count : length l.places ≡ l.dag.heads.sources;
  places : (found : ℕ → List Tagged) → ArePlacesFor l.dag found l.fn.places →
      ArePlacesFor l.dag (λ source. found source ++ from_source (take l.k (tris_at l.dag l.cluster)) source) l.places;
}
