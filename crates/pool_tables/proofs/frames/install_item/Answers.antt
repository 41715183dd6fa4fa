use Rattle.std.proofs.Common.{◌≡◌, nat_cmp, arith, rules, Some}
use Rattle.std.specs.BTreeMap.{get}
use Rattle.pool_tables.specs.FrameItems.{installed_item}
use Rattle.pool_tables.proofs.ItemChanges.{PutsItem-changed, PutsItem-written, pins_in-some}
use Rattle.pool_tables.proofs.frames.install_item.Goals as goal

pub returns-in-Some-clause-installed : goal.returns-in-Some-clause-installed
returns-in-Some-clause-installed c =
    let old = c.args.items.now in
    let v = c.in-Some.item.now in
    let w = c.install.new.self in
    let at : get nat_cmp old c.args.frame.0 ≡ Some v = search rules in
    PutsItem-changed c.args.frame.0 (installed_item c.args.page) old
    (c.get_mut.follows.lender w) v w at c.install.ensures.installed (c.get_mut.follows.holds w)

pub returns-in-Some-clause-pins : goal.returns-in-Some-clause-pins
returns-in-Some-clause-pins c = λ p.
    let old = c.args.items.now in
    let v = c.in-Some.item.now in
    let w = c.install.new.self in
    let at : get nat_cmp old c.args.frame.0 ≡ Some v = search rules in
    let puts = PutsItem-written c.args.frame.0 old (c.get_mut.follows.lender w) v w at (c.get_mut.follows.holds w) in
    omega (arith, puts.pins p, pins_in-some old c.args.frame.0 v p at, c.install.ensures.pins p)
