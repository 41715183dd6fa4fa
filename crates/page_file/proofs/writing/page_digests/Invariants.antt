use Rattle.std.proofs.Common.{◌≡◌, map}
use Rattle.std.specs.List.{range_with_len}
use Rattle.page_codec.specs.Spelling.{page_digest}
use Rattle.page_file.proofs.writing.page_digests.Given as goal

-- the digests of the pages before this one
abbrev pub invariant-pages : goal.invariant-pages
invariant-pages l = l.digests.items ≡ map (page_digest l.dag) (range_with_len 0 l.page)
