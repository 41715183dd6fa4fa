use Rattle.std.proofs.Common.{◌≡◌, map, take, slice_index}
use Rattle.partition.proofs.batches.numbers_at.Given as goal

abbrev pub invariant-loop-rank : goal.invariant-loop-rank
invariant-loop-rank l = l.numbers.items ≡ map (slice_index l.order) (take l.rank-index l.ranks)
