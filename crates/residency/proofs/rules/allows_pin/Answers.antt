use Rattle.std.proofs.Common.{arith, rules}
use Rattle.std.proofs.lemmas.Grind.{common_steps}
use Rattle.residency.proofs.TableQueries.{owns-told}
use Rattle.residency.proofs.rules.allows_pin.Goals as goal

pub returns-then-owns : goal.returns-then-owns
returns-then-owns c = λ layout journal are.
    let owned = owns-told layout journal c.args.tables.now c.args.by.0 c.args.frame.0 are in
    let begun = are.frames.begun c.args.frame.0 in
    first_of (cc, search rules, grind (arith, common_steps))

pub returns-else-owns : goal.returns-else-owns
returns-else-owns c = λ layout journal are.
    let owned = owns-told layout journal c.args.tables.now c.args.by.0 c.args.frame.0 are in
    let begun = are.frames.begun c.args.frame.0 in
    first_of (cc, search rules, grind (arith, common_steps))
