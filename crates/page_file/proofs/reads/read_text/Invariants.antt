use Rattle.std.proofs.Common.{◌≡◌, ◌≤◌, ◌-◌, IfSome, length}
use Rattle.page_file.specs.Internal.Seen.{StandsAt}
use Rattle.page_file.proofs.reads.read_text.Given as goal

-- the bytes so far stand in the file, and no read failed
abbrev pub invariant-reads : goal.invariant-reads
invariant-reads g l = record {
  within : length l.text.items ≤ l.len;
  read : IfSome (g.P.PageSource.holds l.fn.src) (StandsAt l.at l.text.items);
  same : g.P.PageSource.holds l.src ≡ g.P.PageSource.holds l.fn.src;
  no_fault : g.P.PageSource.faults l.src ≡ g.P.PageSource.faults l.fn.src;
}

abbrev pub decreases-reads : goal.decreases-reads
decreases-reads g l = l.len - length l.text.items
