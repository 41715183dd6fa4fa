use Rattle.std.proofs.Common.{arith, rules}
use Rattle.std.proofs.lemmas.Grind.{common_steps}
use Rattle.residency.proofs.TableQueries.{any_resident-told, owns-told}
use Rattle.residency.proofs.rules.allows_ask.Goals as goal

pub returns-then-is_page_list : goal.returns-then-is_page_list
returns-then-is_page_list c = λ journal are.
    let owned = owns-told c.args.layout.now journal c.args.tables.now c.args.by.0 c.args.frame.0 are in
    let pages = any_resident-told c.args.layout.now journal c.args.tables.now c.args.pages.now are in
    first_of (cc, search rules, grind (arith, common_steps))

pub returns-else-is_page_list : goal.returns-else-is_page_list
returns-else-is_page_list c = λ journal are.
    let owned = owns-told c.args.layout.now journal c.args.tables.now c.args.by.0 c.args.frame.0 are in
    let pages = any_resident-told c.args.layout.now journal c.args.tables.now c.args.pages.now are in
    first_of (cc, search rules, grind (arith, common_steps))
