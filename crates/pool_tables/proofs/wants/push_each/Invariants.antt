use Rattle.std.proofs.Common.{◌≡◌, ◌+◌, ◌-◌, ◌≤◌, ◌++◌, drop, length, map}
use Rattle.std.specs.Vec.{vec_capacity}
use Rattle.pool_tables.specs.WantQueue.{of_page}
use Rattle.pool_tables.proofs.wants.push_each.Given as goal

abbrev pub invariant-loop-page : goal.invariant-loop-page
invariant-loop-page l = record {
  wants : l.wants.items ++ map (of_page l.like) (drop l.page-index l.pages) ≡ l.initial.wants.items ++ map
      (of_page l.like) l.pages;
  room : length l.wants.items + (length l.pages - l.page-index) ≤ vec_capacity l.wants;
}
