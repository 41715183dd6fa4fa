use Rattle.partition.proofs.BatchLaws.{full_of_items, full_of_order, no_more_batches}
use Rattle.partition.proofs.BatchLists.{concat-batches_of}
use Rattle.partition.proofs.laws.batches_are_full_but_the_last.Goals as goal

pub returns-clause-joined : goal.returns-clause-joined
returns-clause-joined c = concat-batches_of

pub returns-clause-full_of_order : goal.returns-clause-full_of_order
returns-clause-full_of_order c = full_of_order

pub returns-clause-full_of_items : goal.returns-clause-full_of_items
returns-clause-full_of_items c = full_of_items

pub returns-clause-batch_limit : goal.returns-clause-batch_limit
returns-clause-batch_limit c = no_more_batches
