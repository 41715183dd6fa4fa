use Rattle.std.proofs.Common.{drop}
use Rattle.pool_tables.specs.Changes.{times}
use Rattle.pool_tables.specs.PinMoves.{MovesPins}
use Rattle.pool_tables.proofs.pin_moves.unpin_each.Given as goal

abbrev pub invariant-loop-page : goal.invariant-loop-page
invariant-loop-page l = MovesPins (times l.pages) (times (drop l.page-index l.pages)) l.initial.table l.table
