use Rattle.std.proofs.Common.{arith, rules}
use Rattle.std.proofs.lemmas.Grind.{common_steps}
use Rattle.residency.proofs.TableQueries.{owns-told}
use Rattle.residency.proofs.rules.allows_full.Goals as goal

pub returns-then-owns : goal.returns-then-owns
returns-then-owns c = λ journal past.
    let owned = owns-told c.args.layout.now journal c.args.tables.now c.args.by.0 c.args.frame.0 past.tables in
    let next = c.next_in.ensures journal past in
    let stopped = past.tables.stopped in
    first_of (cc, search rules, grind (arith, common_steps))

pub returns-else-owns : goal.returns-else-owns
returns-else-owns c = λ journal past.
    let owned = owns-told c.args.layout.now journal c.args.tables.now c.args.by.0 c.args.frame.0 past.tables in
    let stopped = past.tables.stopped in
    first_of (cc, search rules, grind (arith, common_steps))
