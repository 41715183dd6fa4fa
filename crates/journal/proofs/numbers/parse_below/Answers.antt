use Rattle.journal.proofs.Limits.{number_past}
use Rattle.journal.proofs.numbers.parse_below.Goals as goal

pub returns-else-number-limit : goal.returns-else-number-limit
returns-else-number-limit c = number_past _ _ _ _ c.in_ok-number.ensures c.if-number-limit.false
