use Rattle.std.proofs.Common.{ℕ, ◌*◌, List, get_or, refl, ap, ◌∙◌, arith}
use Rattle.std.proofs.lemmas.List.{take_rest, length-drop, length-take}
use Rattle.geom_core.specs.declared.triangles.Tagged.{Tagged}
use Rattle.dag_core.specs.Members.{cluster_at}
use Rattle.page_codec.specs.declared.pages.PageCluster.{PageCluster}
use Rattle.page_codec.specs.Reading.{triangles_of}
use Rattle.page_codec.proofs.ClusterLists.{clusters_of-step}
use Rattle.page_codec.proofs.Sums.{sum-left}
use Rattle.page_codec.proofs.decode_pages.read_clusters.Goals as goal

pub clusters-preserved : goal.clusters-preserved
unfolding triangles_of
clusters-preserved c =
    let heads = c.args.heads.now in
    let i = c.clusters.cluster-index in
    let n = get_or c.args.clusters.now i 0 in
    let count = (cluster_at heads n).tris in
    let rest = c.clusters.rest.now in
    let left = sum-left (λ n. (cluster_at heads n).tris) c.args.clusters.now i 0 c.clusters-test.true in
    let read = c.in_ok-read_records.ensures.records in
    let made : List Tagged → PageCluster = λ tris. record { number = n; tris = tris } in
    record {
      room =
          rw c.as_slice-all.ensures (omega (
            arith,
            left,
            c.clusters.invariant.room,
            length-take {A = ℕ},
            length-drop {A = ℕ},
          ));
      all =
          rw c.as_slice-all.ensures (clusters_of-step heads c.args.clusters.now i n count rest _ c.clusters.items.items
          c.push.new.self.items _ (made c.of-tris.result) c.clusters-test.true refl refl
          (ap made (c.of-tris.ensures ∙ (rw c.as_slice-all.ensures at read)))
          (take_rest rest (40 * count)) c.in_ok-push.ensures.items c.clusters.invariant.all);
    }
