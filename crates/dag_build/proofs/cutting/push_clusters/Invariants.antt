use Rattle.std.proofs.Common.{◌≡◌, ◌++◌, take, map}
use Rattle.partition.specs.Batches.{pick}
use Rattle.dag_build.specs.Grouping.{no_triangle}
use Rattle.dag_build.specs.Internal.Clusters.{made_cluster}
use Rattle.dag_build.proofs.cutting.push_clusters.Given as goal

abbrev pub invariant-loop-batch : goal.invariant-loop-batch
invariant-loop-batch l = l.clusters.items
    ≡ l.fn.clusters.items ++ map (made_cluster l.maker) (map (pick l.tris no_triangle) (take l.batch-index l.batches))
