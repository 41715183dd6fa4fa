use Rattle.std.proofs.Common.{◌≡◌, map, take}
use Rattle.partition.specs.Groups.{rim_edges}
use Rattle.partition.specs.Internal.EdgeUses.{in_order, uses_from}
use Rattle.partition.proofs.groups.shape_uses.Given as goal

abbrev pub invariant-loop-place : goal.invariant-loop-place
invariant-loop-place l = l.uses.items ≡ uses_from 0 (in_order (map rim_edges l.shapes) (take l.place l.order))
