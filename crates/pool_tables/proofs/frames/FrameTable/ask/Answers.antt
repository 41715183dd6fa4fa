use Rattle.std.specs.Option.{option_map}
use Rattle.pool_tables.specs.FrameItems.{item_in, asked_item}
use Rattle.pool_tables.proofs.SnapshotLists.{IsSnapshotList-same, asked-snapshot}
use Rattle.pool_tables.proofs.frames.FrameTable.ask.Goals as goal

pub invariant_of-self : goal.invariant_of-self
invariant_of-self c =
    let old = c.self.inside.items.entries in
    let before = item_in old c.args.frame.0 in
    IsSnapshotList-same c.args.frame.0 (option_map (asked_item c.args.count) before) old c.ask_item.new.items.entries
    c.self.inside.snapshots.items c.ask_item.ensures (asked-snapshot c.args.count before) c.self.invariant
