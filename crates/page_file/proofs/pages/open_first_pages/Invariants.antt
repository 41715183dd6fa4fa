use Rattle.std.proofs.Common.{◌≡◌, vec_len}
use Rattle.geom_core.specs.declared.limits.TheConstants.{PAGE_BYTES}
use Rattle.page_file.specs.Internal.Seen.{DecidesPages}
use Rattle.page_file.specs.IsOpened.{ArePagesOf}
use Rattle.page_file.proofs.pages.open_first_pages.Given as goal

-- the pages so far are those that the bytes so far decide, and no read failed
abbrev pub invariant-pages : goal.invariant-pages
invariant-pages g l = record {
  decided : DecidesPages (g.P.PageSource.holds l.fn.src) l.directory l.page l.pages.items;
  checked : ArePagesOf l.directory l.page l.pages.items;
  same : g.P.PageSource.holds l.src ≡ g.P.PageSource.holds l.fn.src;
  no_fault : g.P.PageSource.faults l.src ≡ g.P.PageSource.faults l.fn.src;
  size : vec_len l.buffer ≡ PAGE_BYTES;
}
