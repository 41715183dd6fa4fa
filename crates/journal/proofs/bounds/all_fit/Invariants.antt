use Rattle.std.proofs.Common.{ℕ, ◌<◌, [], slice_index_or}
use Rattle.journal.specs.Layout.{UppersFit}
use Rattle.journal.proofs.bounds.all_fit.Given as goal

-- the uppers so far fit
abbrev pub invariant-loop-page : goal.invariant-loop-page
invariant-loop-page l = (q : ℕ) → q < l.page → UppersFit q (slice_index_or l.all q [])
