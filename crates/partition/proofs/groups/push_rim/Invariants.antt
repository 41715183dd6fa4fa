use Rattle.std.proofs.Common.{◌≡◌, ◌++◌, map, take}
use Rattle.partition.specs.Groups.{ends_of}
use Rattle.partition.specs.Internal.EdgeUses.{uses_of}
use Rattle.partition.proofs.groups.push_rim.Given as goal

abbrev pub invariant-loop-edge : goal.invariant-loop-edge
invariant-loop-edge l = l.uses.items ≡ l.initial.uses.items ++ uses_of l.rank (map ends_of (take l.edge-index l.rim))
