use Rattle.std.proofs.Common.{arith}
use Rattle.dag_core.specs.Members.{cluster_at}
use Rattle.page_codec.proofs.Sums.{sum-next}
use Rattle.page_codec.proofs.page_clusters.count_tris.Goals as goal

pub overflow_add-count : goal.overflow_add-count
overflow_add-count c =
    let heads = c.args.heads.now in
    let next =
    sum-next (λ n. (cluster_at heads n).tris) c.args.clusters.now c.clusters.cluster-index 0 c.clusters-test.true in
    rw c.as_slice-all.ensures (omega (arith, next, c.clusters.invariant, c.requires.fits))
