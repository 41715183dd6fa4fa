use Rattle.std.proofs.Common.{◌≡◌, All, take}
use Rattle.dag_core.specs.TriangleRules.{IsSourcedTriangle}
use Rattle.geode_bench.proofs.FlatLaws.{sizes_of, stated_sizes}
use Rattle.geode_bench.proofs.flat_dag.tris_for.Given as goal

-- each cluster so far has as many triangles as its head states
abbrev pub invariant-clusters : goal.invariant-clusters
invariant-clusters l = record {
  counts : sizes_of l.tris.items ≡ stated_sizes (take l.cluster-index l.clusters);
  triangles : All (All (IsSourcedTriangle 1)) l.tris.items;
}
