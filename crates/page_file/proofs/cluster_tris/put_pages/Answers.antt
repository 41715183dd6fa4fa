use Rattle.std.proofs.Common.{List, length, sym, ap, ◌∙◌}
use Rattle.geom_core.specs.declared.triangles.Tagged.{Tagged}
use Rattle.page_file.specs.Internal.PutTris.{put_clusters}
use Rattle.page_file.proofs.PutTris.{length-put, page-last}
use Rattle.page_file.proofs.cluster_tris.put_pages.Goals as goal

pub pages-preserved : goal.pages-preserved
pages-preserved c =
    let lists = c.pages.lists in
    let page = c.in-Some.page in
    let put = c.in_ok-put_clusters.ensures.put ∙ ap (put_clusters lists) c.as_slice.ensures in
    record {
      put = put ∙ ap (λ (lists : List (List Tagged)). put_clusters lists page.clusters) c.pages.invariant.put
          ∙ sym (page-last c.args.lists.now c.pages.yielded page);
      size = ap length put ∙ length-put lists page.clusters ∙ c.pages.invariant.size;
    }
