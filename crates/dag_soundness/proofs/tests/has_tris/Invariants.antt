use Rattle.std.proofs.Common.{◌≡◌, List, length, map, take}
use Rattle.geom_core.specs.declared.triangles.Tagged.{Tagged}
use Rattle.dag_core.specs.declared.cluster_heads.ClusterHead.{ClusterHead}
use Rattle.dag_soundness.proofs.tests.has_tris.Given as goal

abbrev pub invariant-clusters : goal.invariant-clusters
invariant-clusters l = map (λ (tris : List Tagged). length tris) (take l.c l.lists)
    ≡ map (λ (cluster : ClusterHead). cluster.tris) (take l.c l.clusters)
