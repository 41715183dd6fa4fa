use Rattle.std.specs.Option.{option_map}
use Rattle.pool_tables.specs.FrameItems.{item_in, settled_item}
use Rattle.pool_tables.proofs.SnapshotLists.{AreListed-unlisted, settled-snapshot}
use Rattle.pool_tables.proofs.frames.FrameTable.settle.Goals as goal

pub pop_stale-requires : goal.pop_stale-requires
pop_stale-requires c =
    let old = c.self.inside.items.entries in
    let before = item_in old c.args.frame.0 in
    record {
      listed = AreListed-unlisted c.args.frame.0
          (option_map (settled_item c.args.by c.args.count c.args.pins) before) old c.settle_item.new.items.entries
          c.self.inside.snapshots.items c.settle_item.ensures
          (settled-snapshot c.args.by c.args.count c.args.pins before) c.self.invariant;
    }
