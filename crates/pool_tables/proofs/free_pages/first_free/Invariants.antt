use Rattle.std.proofs.Common.{◌≡◌, length, find}
use Rattle.pool_tables.specs.Eviction.{is_candidate}
use Rattle.pool_tables.proofs.free_pages.first_free.Given as goal

-- the search through the pages left finds what the whole search does
abbrev pub invariant-loop-page : goal.invariant-loop-page
invariant-loop-page l =
    find (is_candidate l.records l.snapshot l.uppers) l.left
    ≡ find (is_candidate l.records l.snapshot l.uppers) l.initial.left

abbrev pub decreases-loop-page : goal.decreases-loop-page
decreases-loop-page l = length l.left
