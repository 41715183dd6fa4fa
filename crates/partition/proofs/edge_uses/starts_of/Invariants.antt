use Rattle.std.proofs.Common.{◌≡◌, filter}
use Rattle.std.specs.List.{range_with_len}
use Rattle.partition.specs.Internal.EdgeUses.{begins_edge}
use Rattle.partition.proofs.edge_uses.starts_of.Given as goal

abbrev pub invariant-loop-place : goal.invariant-loop-place
invariant-loop-place l = l.starts.items ≡ filter (begins_edge l.uses) (range_with_len 0 l.place)
