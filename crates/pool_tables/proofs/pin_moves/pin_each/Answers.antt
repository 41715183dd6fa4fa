use Rattle.std.proofs.Common.{◌≡◌, ◌+◌, ◌<◌, arith, drop, get_or, length, refl, subst, sym}
use Rattle.pool_tables.specs.Changes.{times}
use Rattle.pool_tables.specs.PageRecords.{PageRecords, record_at}
use Rattle.pool_tables.specs.PinMoves.{MovesPins}
use Rattle.pool_tables.proofs.AscendingNumbers.{among-at}
use Rattle.pool_tables.proofs.PinSteps.{MovesPins-step, times-here, times-other}
use Rattle.pool_tables.proofs.pin_moves.pin_each.Goals as goal

pub pin-requires-clause-page_range : goal.pin-requires-clause-page_range
pin-requires-clause-page_range c =
    let ps = c.args.pages.now in
    let k = c.loop-page.page-index in
    omega (
      arith,
      c.loop-page.invariant.len,
      c.requires.page_range (get_or ps k 0) (among-at ps k (get_or ps k 0) c.loop-page-test.true refl),
    )

pub loop-page-preserved : goal.loop-page-preserved
loop-page-preserved c =
    let ps = c.args.pages.now in
    let k = c.loop-page.page-index in
    let page = get_or ps k 0 in
    let old = c.args.table.now in
    let cur = c.loop-page.table in
    let inv = c.loop-page.invariant in
    let below : page < length cur.records =
    omega (arith, inv.len, c.requires.page_range page (among-at ps k page c.loop-page-test.true refl)) in
    let pins = (record_at cur.records page).pins + 1 in
    let here : pins + times (drop (k + 1) ps) page ≡ (record_at old.records page).pins + times ps page =
    omega (arith, inv.pins page, times-here ps k c.loop-page-test.true) in
    subst (λ (t : PageRecords). MovesPins (times (drop (k + 1) ps)) (times ps) old t) (sym c.pin.ensures)
    (MovesPins-step (times (drop k ps)) (times ps) (times (drop (k + 1) ps)) (times ps) old cur page pins inv below
    (λ p other. sym (times-other ps k p c.loop-page-test.true other)) (λ p other. refl) here)
