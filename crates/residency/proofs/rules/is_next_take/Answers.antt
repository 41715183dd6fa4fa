use Rattle.std.proofs.Common.{arith, rules}
use Rattle.std.proofs.lemmas.Grind.{common_steps}
use Rattle.residency.proofs.rules.is_next_take.Goals as goal

pub returns-then-not-tables : goal.returns-then-not-tables
returns-then-not-tables c = λ journal past.
    let next = c.next_in.ensures journal past in
    let stopped = past.tables.stopped in
    first_of (cc, search rules, grind (arith, common_steps))

pub returns-else-not-tables : goal.returns-else-not-tables
returns-else-not-tables c = λ journal past.
    let stopped = past.tables.stopped in
    first_of (cc, search rules, grind (arith, common_steps))
