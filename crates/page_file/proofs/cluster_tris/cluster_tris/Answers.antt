use Rattle.std.proofs.Common.{◌≡◌, [], length, slice_index_or, ap, ◌∙◌, arith}
use Rattle.std.proofs.lemmas.List.{length-replicate}
use Rattle.page_codec.specs.declared.pages.PageCluster.{PageCluster}
use Rattle.page_file.proofs.PageClusters.{each-at}
use Rattle.page_file.specs.Internal.PutTris.{put_pages}
use Rattle.page_file.proofs.PutTris.{length-put_pages, tris-are, written-back}
use Rattle.page_file.proofs.WholeFiles.{IsOn, page-on}
use Rattle.page_file.proofs.cluster_tris.cluster_tris.Goals as goal

pub put_pages-requires : goal.put_pages-requires
put_pages-requires c =
    let directory = c.args.directory.now in
    let pages = c.args.pages.items in
    let size : length c.deref_mut.result.now ≡ length directory.heads.clusters =
    ap length (c.deref_mut.ensures.value ∙ c.in_ok-lists.ensures.lists)
    ∙ length-replicate (length c.as_slice.result.now) [] ∙ ap length c.as_slice.ensures in
    record {
      cluster_range = λ p none below k other less.
          let page = slice_index_or pages p none in
          let on = each-at (λ (cluster : PageCluster). IsOn directory.heads p cluster.number) page.clusters
          (page-on directory p page (c.requires.pages.each p none (omega (arith, below, c.requires.pages.count))))
          k other less in
          omega (arith, on.1, size);
    }

pub returns : goal.returns
returns c =
    let directory = c.args.directory.now in
    let pages = c.args.pages.items in
    let lists = c.deref_mut.result.now in
    let size : length lists ≡ length directory.heads.clusters =
    ap length (c.deref_mut.ensures.value ∙ c.in_ok-lists.ensures.lists)
    ∙ length-replicate (length c.as_slice.result.now) [] ∙ ap length c.as_slice.ensures in
    let put : c.put_pages.new.lists ≡ put_pages lists pages = c.in_ok-put_pages.ensures.put in
    let same : length c.put_pages.new.lists ≡ length c.in_ok-lists.lists.items =
    ap length put ∙ length-put_pages lists pages ∙ ap length c.deref_mut.ensures.value in
    record {
      triangles = c.of.ensures
          ∙ written-back c.in_ok-lists.lists.len c.put_pages.new.lists c.in_ok-lists.lists.items same
          c.in_ok-lists.lists.ok.0
          ∙ put
          ∙ tris-are directory pages lists c.requires.range c.requires.rules c.requires.pages size;
    }
