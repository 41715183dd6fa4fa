use Rattle.std.proofs.Common.{◌≡◌, ◌*◌, ◌≤◌, ◌++◌, length, drop}
use Rattle.std.specs.List.{sum_by}
use Rattle.geom_core.specs.declared.limits.TheConstants.{TRIANGLE_BYTES}
use Rattle.dag_core.specs.Members.{cluster_at}
use Rattle.page_codec.specs.Reading.{clusters_of}
use Rattle.page_codec.proofs.decode_pages.read_clusters.Given as goal

-- the clusters so far and those that are left
abbrev pub invariant-clusters : goal.invariant-clusters
invariant-clusters l = record {
  room : TRIANGLE_BYTES * sum_by (λ c. (cluster_at l.fn.heads c).tris)
      (drop l.cluster-index l.clusters) ≤ length l.rest;
  all : l.items.items ++ clusters_of l.fn.heads
      (drop l.cluster-index l.clusters) l.rest ≡ clusters_of l.fn.heads l.clusters l.bytes;
}
