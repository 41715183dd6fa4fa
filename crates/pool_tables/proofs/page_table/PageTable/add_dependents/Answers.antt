use Rattle.std.proofs.Common.{◌<◌, length, get_or, take, refl, arith}
use Rattle.pool_tables.proofs.AscendingNumbers.{among-at}
use Rattle.pool_tables.proofs.Changes.{HaveMoreDependents-step, more-dependents, times-ahead}
use Rattle.pool_tables.proofs.page_table.PageTable.add_dependents.Goals as goal

pub add_dependent-requires-clause-page_range : goal.add_dependent-requires-clause-page_range
add_dependent-requires-clause-page_range c =
    let i = c.loop-upper.upper-index in
    let page = get_or c.args.uppers.now i 0 in
    let below = c.requires.page_range page (among-at c.args.uppers.now i page c.loop-upper-test.true refl) in
    omega (arith, below, c.loop-upper.invariant.len)

pub add_dependent-requires-clause-room : goal.add_dependent-requires-clause-room
add_dependent-requires-clause-room c =
    let i = c.loop-upper.upper-index in
    let page = get_or c.args.uppers.now i 0 in
    let now = more-dependents (take i c.args.uppers.now) c.args.self.now c.loop-upper.self c.loop-upper.invariant
    page in
    let ahead = times-ahead c.args.uppers.now i page c.loop-upper-test.true refl in
    omega (arith, now, ahead, c.requires.room page)

pub loop-upper-preserved : goal.loop-upper-preserved
loop-upper-preserved c =
    let i = c.loop-upper.upper-index in
    let page = get_or c.args.uppers.now i 0 in
    let below : page < length c.loop-upper.self.records =
    omega (
      arith,
      c.requires.page_range page (among-at c.args.uppers.now i page c.loop-upper-test.true refl),
      c.loop-upper.invariant.len,
    ) in
    rw c.add_dependent.ensures
    (HaveMoreDependents-step i page c.args.uppers.now c.args.self.now c.loop-upper.self c.loop-upper-test.true refl
    below c.loop-upper.invariant)
