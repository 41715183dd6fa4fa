use Rattle.std.proofs.Common.{◌≡◌, false, rules}
use Rattle.geom_core.specs.Order.{is_before}
use Rattle.half_mesh.proofs.TableLaws.{sum_turned}
use Rattle.half_mesh.proofs.tables.EdgeTable.sum_of.Goals as goal

pub returns-else-lt : goal.returns-else-lt
returns-else-lt c =
    let upto : is_before c.args.u c.args.v ≡ false = search (rules, c.if-lt.ensures) in
    sum_turned c.args.self.now c.args.u c.args.v c.sum_ahead-else-lt.result upto
    c.sum_ahead-else-lt.ensures.sum c.sum_ahead-else-lt.ensures.sum_range
