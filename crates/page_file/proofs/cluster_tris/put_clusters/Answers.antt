use Rattle.std.proofs.Common.{List, sym, ap, ◌∙◌, slice_set, length-set}
use Rattle.geom_core.specs.declared.triangles.Tagged.{Tagged}
use Rattle.page_file.proofs.PutTris.{put-more}
use Rattle.page_file.proofs.cluster_tris.put_clusters.Goals as goal

pub clusters-preserved : goal.clusters-preserved
clusters-preserved c =
    let lists = c.clusters.lists in
    let x = c.cluster-item.result in
    record {
      put = ap (slice_set lists x.number) (c.in_ok-lists.ensures.triangles ∙ c.as_slice.ensures)
          ∙ ap (λ (lists : List (List Tagged)). slice_set lists x.number x.tris) c.clusters.invariant.put
          ∙ sym (put-more c.args.lists.now c.args.clusters.now c.clusters.cluster-index x c.clusters-test.true
          c.cluster-item.is);
      size = length-set lists x.number c.in_ok-lists.field-0 ∙ c.clusters.invariant.size;
    }
