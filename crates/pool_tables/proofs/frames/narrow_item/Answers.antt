use Rattle.std.proofs.Common.{◌≡◌, nat_cmp, rules, Some}
use Rattle.std.specs.BTreeMap.{get}
use Rattle.pool_tables.specs.FrameItems.{narrowed_item}
use Rattle.pool_tables.proofs.ItemChanges.{PutsItem-changed}
use Rattle.pool_tables.proofs.frames.narrow_item.Goals as goal

pub returns-in-Some : goal.returns-in-Some
returns-in-Some c =
    let old = c.args.items.now in
    let v = c.in-Some.item.now in
    let w = c.narrow.new.self in
    let at : get nat_cmp old c.args.frame.0 ≡ Some v = search rules in
    PutsItem-changed c.args.frame.0 (narrowed_item c.args.by c.args.pages.items) old
    (c.get_mut.follows.lender w) v w at c.narrow.ensures (c.get_mut.follows.holds w)
