use Rattle.std.proofs.Common.{◌==◌, cond, subst, sym}
use Rattle.pool_tables.specs.PageRecords.{PageRecords}
use Rattle.pool_tables.specs.PinMoves.{MovesPins}
use Rattle.pool_tables.proofs.PinSteps.{MovesPins-one}
use Rattle.pool_tables.proofs.pin_moves.unpin_if.Goals as goal

pub returns-then-is_flagged : goal.returns-then-is_flagged
returns-then-is_flagged c =
    let table = c.args.table.now in
    let page = c.args.page in
    let one =
    subst (λ (t : PageRecords). MovesPins (λ p. cond (page == p) 1 0) (λ p. 0) table t) (sym c.unpin.ensures)
    (MovesPins-one table page (c.requires.pinned c.if-is_flagged.true)) in
    rw c.if-is_flagged.true one
