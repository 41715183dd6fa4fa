use Rattle.std.proofs.Common.{◌≡◌, take}
use Rattle.std.specs.List.{sum_by}
use Rattle.dag_core.specs.Members.{cluster_at}
use Rattle.page_codec.proofs.page_clusters.count_tris.Given as goal

abbrev pub invariant-clusters : goal.invariant-clusters
invariant-clusters l = l.count ≡ sum_by (λ c. (cluster_at l.heads c).tris) (take l.cluster-index l.clusters)
