use Rattle.std.proofs.Common.{◌≡◌, ◌≤◌, ℕ, Option, ap, nat_cmp, rules, subst, sym, ◌∙◌, Some, None}
use Rattle.std.specs.BTreeMap.{BTreeMap, get}
use Rattle.pool_tables.specs.FrameItems.{PutsItem, item_in, pinned_item, pins_in}
use Rattle.pool_tables.specs.PageRecords.{record_at}
use Rattle.pool_tables.specs.PinLists.{PinLists}
use Rattle.pool_tables.specs.PinMoves.{MovesPins}
use Rattle.pool_tables.specs.declared.frame_item.FrameItem.{FrameItem}
use Rattle.pool_tables.proofs.ItemChanges.{PutsItem-begun, PutsItem-pinned}
use Rattle.pool_tables.proofs.PinSteps.{MovesPins-none}
use Rattle.pool_tables.proofs.frames.pin_item.Goals as goal

pub returns-in-Some-clause-pinned : goal.returns-in-Some-clause-pinned
returns-in-Some-clause-pinned c =
    let old = c.args.items.now in
    let v = c.in-Some.item.now in
    let w = c.pin_again.new.self in
    let at : get nat_cmp old c.args.frame.0 ≡ Some v = search rules in
    PutsItem-pinned c.args.frame.0 (pinned_item c.args.by c.args.count) old
    (c.get_mut.follows.lender w) v w at c.pin_again.ensures (c.get_mut.follows.holds w)

pub returns-clause-pinned : goal.returns-clause-pinned
returns-clause-pinned c =
    let old = c.args.items.now in
    let same_map = c.get_mut.follows.holds-at-none in
    let now = c.get_mut.follows.lender-at-none in
    let new = c.insert.new.self in
    let with_pins : PinLists → FrameItem =
    λ pins. record {
      owner = c.args.by;
      asked_at = 0;
      ended_at = None;
      snapshot = Some c.args.count;
      pins = pins;
    } in
    let w = with_pins c.none.result in
    let absent : get nat_cmp old c.args.frame.0 ≡ None = search rules in
    let at : get nat_cmp now c.args.frame.0 ≡ None =
    ap (λ (x : BTreeMap ℕ FrameItem). get nat_cmp x c.args.frame.0) same_map ∙ absent in
    let done =
    PutsItem-begun c.args.frame.0 (pinned_item c.args.by c.args.count) now new w at
    (ap with_pins c.none.ensures) c.in_ok-insert.ensures.was_ordered c.in_ok-insert.ensures.ordered
    c.in_ok-insert.ensures.updates c.in_ok-insert.ensures.entries in
    subst (λ (x : BTreeMap ℕ FrameItem). PutsItem c.args.frame.0
    (Some (pinned_item c.args.by c.args.count (item_in x.entries c.args.frame.0))) x.entries new.entries) same_map
    done

pub unpin_item-requires : goal.unpin_item-requires
unpin_item-requires c =
    let old = c.args.items.now in
    let at : get nat_cmp old c.args.frame.0 ≡ Some c.in-Some.item.now = search rules in
    record {
      pinned = λ p. subst (λ (o : Option FrameItem). pins_in o p ≤ (record_at c.args.pages.now.records p).pins) at
          (c.requires.counted p);
    }

pub returns-in-Some-clause-pins : goal.returns-in-Some-clause-pins
returns-in-Some-clause-pins c =
    let old = c.args.items.now in
    let at : get nat_cmp old c.args.frame.0 ≡ Some c.in-Some.item.now = search rules in
    subst (λ (o : Option FrameItem). MovesPins (pins_in o) (λ p. 0) c.args.pages.now c.unpin_item.new.table) (sym at)
    c.unpin_item.ensures

pub returns-clause-pins : goal.returns-clause-pins
returns-clause-pins c =
    let absent : get nat_cmp c.args.items.now c.args.frame.0 ≡ None = search rules in
    subst (λ (o : Option FrameItem). MovesPins (pins_in o) (λ p. 0) c.args.pages.now c.args.pages.now) (sym absent)
    (MovesPins-none c.args.pages.now)
