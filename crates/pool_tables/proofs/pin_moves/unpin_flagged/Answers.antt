use Rattle.std.proofs.Common.{◌+◌, ◌==◌, ◌&&◌, cond, drop, false, get_or}
use Rattle.pool_tables.specs.Changes.{times}
use Rattle.pool_tables.specs.PinLists.{flagged}
use Rattle.pool_tables.proofs.PinSteps.{MovesPins-more, flagged-split}
use Rattle.pool_tables.proofs.pin_moves.unpin_flagged.Goals as goal

pub loop-place-preserved : goal.loop-place-preserved
loop-place-preserved c =
    let ms = c.args.missing.now in
    let fs = c.args.flags.now in
    let k = c.loop-place.place in
    MovesPins-more (times (flagged ms fs)) (times (flagged (drop k ms) (drop k fs)))
    (λ p. cond (get_or fs k false && (get_or ms k 0 == p)) 1 0)
    (times (flagged (drop (k + 1) ms) (drop (k + 1) fs))) c.args.table.now c.loop-place.table c.unpin_if.new.table
    c.loop-place.invariant c.unpin_if.ensures
    (λ p. flagged-split ms fs k p c.requires.flag_a_page c.loop-place-test.true)
