use Rattle.partition.proofs.Always.{always_grows}
use Rattle.partition.proofs.Determined.{grown_orders_equal}
use Rattle.partition.proofs.laws.one_order_grows.Goals as goal

pub returns-clause-exists : goal.returns-clause-exists
returns-clause-exists c = always_grows

pub returns-clause-unique : goal.returns-clause-unique
returns-clause-unique c = grown_orders_equal
