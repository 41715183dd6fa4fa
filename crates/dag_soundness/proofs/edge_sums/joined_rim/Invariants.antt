use Rattle.std.proofs.Common.{map, take}
use Rattle.half_mesh.specs.Rim.{AreRimsOf}
use Rattle.dag_soundness.proofs.PartLaws.{lists_in}
use Rattle.dag_soundness.proofs.edge_sums.joined_rim.Given as goal

abbrev pub invariant-clusters : goal.invariant-clusters
invariant-clusters l =
    AreRimsOf (lists_in l.dag (take l.cluster-index l.clusters)) (map (λ part. part.now) l.parts.items)
