use Rattle.std.proofs.Common.{map, take}
use Rattle.geom_core.specs.TaggedLists.{tris_of}
use Rattle.half_mesh.specs.Rim.{AreRimsOf}
use Rattle.dag_soundness.proofs.edge_sums.cluster_rims.Given as goal

abbrev pub invariant-clusters : goal.invariant-clusters
invariant-clusters l = AreRimsOf (map tris_of (take l.tagged-index l.lists)) l.rims.items
