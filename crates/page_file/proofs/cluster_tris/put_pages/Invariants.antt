use Rattle.std.proofs.Common.{◌≡◌, length}
use Rattle.page_file.specs.Internal.PutTris.{put_pages}
use Rattle.page_file.proofs.cluster_tris.put_pages.Given as goal

-- the pages before this one are put, and no list is added
abbrev pub invariant-pages : goal.invariant-pages
invariant-pages l = record {
  put : l.lists ≡ put_pages l.fn.lists l.yielded;
  size : length l.lists ≡ length l.fn.lists;
}
