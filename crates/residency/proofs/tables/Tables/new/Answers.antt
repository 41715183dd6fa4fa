use Rattle.std.proofs.Common.{refl}
use Rattle.residency.proofs.Openings.{AreTables-new}
use Rattle.residency.proofs.tables.Tables.new.Goals as goal

pub returns : goal.returns
returns c =
    AreTables-new c.args.layout.now _ c.requires.layout_bounds c.in_ok-new.ensures c.new-2.ensures.items
    c.new-2.ensures.last_asked c.new-3.ensures c.new-4.ensures refl
