use Rattle.partition.proofs.BatchLaws.{batches_equal, batches_exist}
use Rattle.partition.proofs.laws.one_list_of_batches.Goals as goal

pub returns-clause-exists : goal.returns-clause-exists
returns-clause-exists c = batches_exist

pub returns-clause-unique : goal.returns-clause-unique
returns-clause-unique c = batches_equal
