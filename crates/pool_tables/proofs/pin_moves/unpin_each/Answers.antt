use Rattle.std.proofs.Common.{◌≡◌, ◌+◌, ◌-◌, ◌<◌, arith, drop, get_or, refl, subst, sym}
use Rattle.pool_tables.specs.Changes.{times}
use Rattle.pool_tables.specs.PageRecords.{PageRecords, record_at}
use Rattle.pool_tables.specs.PinMoves.{MovesPins}
use Rattle.pool_tables.proofs.PinSteps.{MovesPins-step, pinned-below, times-here, times-other}
use Rattle.pool_tables.proofs.pin_moves.unpin_each.Goals as goal

pub unpin-requires-clause-page_range : goal.unpin-requires-clause-page_range
unpin-requires-clause-page_range c =
    let ps = c.args.pages.now in
    let k = c.loop-page.page-index in
    let page = get_or ps k 0 in
    let cur = c.loop-page.table in
    let some : 0 < (record_at cur.records page).pins =
    omega (arith, c.loop-page.invariant.pins page, times-here ps k c.loop-page-test.true, c.requires.pinned page) in
    pinned-below cur.records page some

pub unpin-requires-clause-pinned : goal.unpin-requires-clause-pinned
unpin-requires-clause-pinned c =
    let ps = c.args.pages.now in
    let k = c.loop-page.page-index in
    let page = get_or ps k 0 in
    omega (arith, c.loop-page.invariant.pins page, times-here ps k c.loop-page-test.true, c.requires.pinned page)

pub loop-page-preserved : goal.loop-page-preserved
loop-page-preserved c =
    let ps = c.args.pages.now in
    let k = c.loop-page.page-index in
    let page = get_or ps k 0 in
    let old = c.args.table.now in
    let cur = c.loop-page.table in
    let inv = c.loop-page.invariant in
    let some : 0 < (record_at cur.records page).pins =
    omega (arith, inv.pins page, times-here ps k c.loop-page-test.true, c.requires.pinned page) in
    let pins = (record_at cur.records page).pins - 1 in
    let here : pins + times ps page ≡ (record_at old.records page).pins + times (drop (k + 1) ps) page =
    omega (arith, some, inv.pins page, times-here ps k c.loop-page-test.true) in
    subst (λ (t : PageRecords). MovesPins (times ps) (times (drop (k + 1) ps)) old t) (sym c.unpin.ensures)
    (MovesPins-step (times ps) (times (drop k ps)) (times ps) (times (drop (k + 1) ps)) old cur page pins inv
    (pinned-below cur.records page some) (λ p other. refl)
    (λ p other. sym (times-other ps k p c.loop-page-test.true other)) here)
