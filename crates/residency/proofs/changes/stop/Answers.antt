use Rattle.pool_rules.specs.State.{state_of}
use Rattle.residency.proofs.StillTables.{AreTablesAt-stop}
use Rattle.residency.proofs.TablesAt.{AreTablesAt-legal, AreTables-push}
use Rattle.residency.proofs.changes.stop.Goals as goal

pub returns : goal.returns
returns c =
    let layout = c.args.layout.now in
    let journal = c.args.journal.now in
    let tables = c.args.tables.now in
    AreTables-push layout journal _ _ (AreTablesAt-stop layout (state_of layout journal) journal tables c.args.by.0
    (AreTablesAt-legal layout journal tables c.requires.past))
