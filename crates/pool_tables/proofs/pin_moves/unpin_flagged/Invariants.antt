use Rattle.std.proofs.Common.{drop}
use Rattle.pool_tables.specs.Changes.{times}
use Rattle.pool_tables.specs.PinLists.{flagged}
use Rattle.pool_tables.specs.PinMoves.{MovesPins}
use Rattle.pool_tables.proofs.pin_moves.unpin_flagged.Given as goal

abbrev pub invariant-loop-place : goal.invariant-loop-place
invariant-loop-place l =
    MovesPins (times (flagged l.missing l.flags))
    (times (flagged (drop l.place l.missing) (drop l.place l.flags))) l.initial.table l.table
