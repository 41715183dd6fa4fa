use Rattle.dag_core.specs.Triangles.{tris_in}
use Rattle.dag_soundness.specs.Internal.LeafPlaces.{ArePlacesFor, from_source}
use Rattle.dag_soundness.proofs.LeafLaws.{leaves_before}
use Rattle.dag_soundness.proofs.leaf_places.leaf_places.Given as goal

abbrev pub invariant-clusters : goal.invariant-clusters
invariant-clusters l = ArePlacesFor l.dag (from_source (tris_in l.dag (leaves_before l.dag.heads l.c))) l.places.items
