use Rattle.std.proofs.Common.{length, ◌-◌, ◌≤◌}
use Rattle.page_sources.proofs.file_pages.fill.Given as goal

-- what was read so far fits the buffer
abbrev pub invariant-pieces : goal.invariant-pieces
invariant-pieces g l = l.count ≤ length l.into

abbrev pub decreases-pieces : goal.decreases-pieces
decreases-pieces g l = length l.initial.into - l.count
