use Rattle.std.proofs.Common.{◌-◌, length}
use Rattle.partition.specs.Internal.Growths.{IsPlacedBelow}
use Rattle.partition.proofs.growing.next_of_all.Given as goal

abbrev pub invariant-loop-item : goal.invariant-loop-item
invariant-loop-item l = IsPlacedBelow l.placed l.item

abbrev pub decreases-loop-item : goal.decreases-loop-item
decreases-loop-item l = length l.placed - l.item
