use Rattle.std.proofs.Common.{length, slice_index}
use Rattle.std.specs.List.{concat}
use Rattle.partition.specs.Neighbours.{are_neighbours}
use Rattle.partition.proofs.BatchLaws.{numbers_below}
use Rattle.partition.proofs.Chunks.{in_one_batch}
use Rattle.partition.proofs.Determined.{is_grown-is}
use Rattle.partition.proofs.Permuted.{grown_permutation}
use Rattle.partition.proofs.laws.each_item_is_in_one_batch.Goals as goal

pub returns-clause-permutation : goal.returns-clause-permutation
returns-clause-permutation c keys edges size batches b =
    grown_permutation (length keys) size (slice_index keys) (are_neighbours edges) (concat batches) b.grown

pub returns-clause-number_range : goal.returns-clause-number_range
returns-clause-number_range c = numbers_below

pub returns-clause-one_batch : goal.returns-clause-one_batch
returns-clause-one_batch c n size key near order some grown item below =
    in_one_batch n key near size order some (is_grown-is n key near size order grown) item below
