use Rattle.std.proofs.Common.{◌&&◌, not, Some}
use Rattle.pool_rules.specs.Next.{is_full, next_in}
use Rattle.pool_rules.specs.Rules.{owns}
use Rattle.pool_rules.specs.State.{state_of}
use Rattle.pool_rules.proofs.Tests.{and-both}
use Rattle.residency.proofs.StillTables.{AreTablesAt-full}
use Rattle.residency.proofs.TablesAt.{AreTablesAt-legal, AreTables-push}
use Rattle.residency.proofs.changes.full.Goals as goal

pub returns : goal.returns
returns c =
    let layout = c.args.layout.now in
    let journal = c.args.journal.now in
    let tables = c.args.tables.now in
    let by = c.args.by.0 in
    let frame = c.args.frame.0 in
    let s = state_of layout journal in
    let full = is_full (next_in layout s (Some frame)) in
    let parts = and-both (not s.stopped) (owns s by frame && full) c.requires.allowed in
    AreTables-push layout journal _ _ (AreTablesAt-full layout s journal tables by frame
    (AreTablesAt-legal layout journal tables c.requires.past) (and-both (owns s by frame) full parts.1).0)
