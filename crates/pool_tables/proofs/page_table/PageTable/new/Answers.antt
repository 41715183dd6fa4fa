use Rattle.std.proofs.Common.{ap}
use Rattle.pool_tables.proofs.Openings.{IsUseOrder-opening, held-opening}
use Rattle.pool_tables.proofs.page_table.PageTable.new.Goals as goal

pub invariant_of-result : goal.invariant_of-result
invariant_of-result c =
    rw (c.in_ok-opening_records.ensures, c.in_ok-new.ensures, c.from.ensures)
    (IsUseOrder-opening c.args.pages c.args.roots, held-opening c.args.pages c.args.roots c.requires.root_range)

pub returns : goal.returns
returns c = ap (λ records. record { roots = c.args.roots; records = records }) c.in_ok-opening_records.ensures
