use Rattle.std.proofs.Common.{length, slice_index}
use Rattle.partition.specs.Neighbours.{are_neighbours}
use Rattle.partition.proofs.Permuted.{items_permuted, lists_permuted}
use Rattle.partition.proofs.laws.batches_pick_each_item_once.Goals as goal

pub returns-clause-items : goal.returns-clause-items
returns-clause-items g c keys edges size batches items other b same =
    items_permuted items other (length keys) same size (slice_index keys) (are_neighbours edges) batches b.grown

pub returns-clause-lists : goal.returns-clause-lists
returns-clause-lists g c keys edges size batches lists b same =
    lists_permuted lists (length keys) same size (slice_index keys) (are_neighbours edges) batches b.grown
