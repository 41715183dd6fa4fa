use Rattle.journal.proofs.Limits.{number_past}
use Rattle.journal.proofs.numbers.parse_u8.Goals as goal

pub returns-else-number : goal.returns-else-number
returns-else-number c = number_past _ _ _ _ c.in_ok-number.ensures c.if-number.false
