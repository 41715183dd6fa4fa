use Rattle.std.proofs.Common.{arith, rules}
use Rattle.std.proofs.lemmas.Grind.{common_steps}
use Rattle.residency.proofs.TableQueries.{all_resident-told, any_resident-told, owns-told}
use Rattle.residency.proofs.rules.allows_settle.Goals as goal

pub returns-then-all_resident : goal.returns-then-all_resident
returns-then-all_resident c = λ journal are.
    let owned = owns-told c.args.layout.now journal c.args.tables.now c.args.by.0 c.args.frame.0 are in
    let pages = all_resident-told c.args.layout.now journal c.args.tables.now c.args.pages.now are in
    let missing = any_resident-told c.args.layout.now journal c.args.tables.now c.args.missing.now are in
    first_of (cc, search rules, grind (arith, common_steps))

pub returns-else-all_resident : goal.returns-else-all_resident
returns-else-all_resident c = λ journal are.
    let owned = owns-told c.args.layout.now journal c.args.tables.now c.args.by.0 c.args.frame.0 are in
    let pages = all_resident-told c.args.layout.now journal c.args.tables.now c.args.pages.now are in
    let missing = any_resident-told c.args.layout.now journal c.args.tables.now c.args.missing.now are in
    first_of (cc, search rules, grind (arith, common_steps))
