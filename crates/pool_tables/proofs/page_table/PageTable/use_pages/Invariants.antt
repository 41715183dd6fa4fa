use Rattle.std.proofs.Common.{◌≤◌, length, drop}
use Rattle.pool_tables.specs.Changes.{AreUsed}
use Rattle.pool_tables.proofs.page_table.PageTable.use_pages.Given as goal

-- the pages from the place on are used
abbrev pub invariant-loop-left : goal.invariant-loop-left
invariant-loop-left l = record {
  within : l.left ≤ length l.pages;
  used : AreUsed l.count (drop l.left l.pages) l.initial.self l.self;
}

abbrev pub decreases-loop-left : goal.decreases-loop-left
decreases-loop-left l = l.left
