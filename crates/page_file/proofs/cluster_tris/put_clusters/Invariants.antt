use Rattle.std.proofs.Common.{◌≡◌, length, take}
use Rattle.page_file.specs.Internal.PutTris.{put_clusters}
use Rattle.page_file.proofs.cluster_tris.put_clusters.Given as goal

-- the clusters before this one are put, and no list is added
abbrev pub invariant-clusters : goal.invariant-clusters
invariant-clusters l = record {
  put : l.lists ≡ put_clusters l.fn.lists (take l.cluster-index l.clusters);
  size : length l.lists ≡ length l.fn.lists;
}
