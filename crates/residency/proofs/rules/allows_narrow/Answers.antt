use Rattle.std.proofs.Common.{◌∙◌, sym}
use Rattle.residency.proofs.TableQueries.{narrow-none, narrow-told}
use Rattle.residency.proofs.rules.allows_narrow.Goals as goal

pub returns-in-Some : goal.returns-in-Some
returns-in-Some c = λ layout journal are.
    c.can_narrow.ensures
    ∙ narrow-told layout journal c.args.tables.now c.args.by.0 c.args.frame.0 c.args.pages.now c.in-Some.item.now are
    (sym c.in-Some.ensures)

pub returns-in-None : goal.returns-in-None
returns-in-None c = λ layout journal are.
    narrow-none layout journal c.args.tables.now c.args.by.0 c.args.frame.0 c.args.pages.now are (sym c.in-None.ensures)
