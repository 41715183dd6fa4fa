use Rattle.std.proofs.Common.{◌≡◌, map}
use Rattle.std.specs.Fork.{slice_chunk}
use Rattle.std.specs.List.{range_with_len}
use Rattle.partition.proofs.batches.split_into_batches.Given as goal

abbrev pub invariant-loop-number : goal.invariant-loop-number
invariant-loop-number l = l.batches.items ≡ map (slice_chunk l.numbers l.size) (range_with_len 0 l.number)
