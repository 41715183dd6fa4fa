use Rattle.std.proofs.Common.{◌-◌, length}
use Rattle.partition.specs.Internal.Frontiers.{IsPassed}
use Rattle.partition.proofs.frontiers.least_left.Given as goal

abbrev pub invariant-loop-item : goal.invariant-loop-item
invariant-loop-item l = IsPassed l.items l.placed l.cursor

abbrev pub decreases-loop-item : goal.decreases-loop-item
decreases-loop-item l = length l.items - l.cursor
