use Rattle.std.specs.Option.{option_map}
use Rattle.pool_tables.specs.FrameItems.{item_in, ended_item}
use Rattle.pool_tables.proofs.SnapshotLists.{AreListed-unlisted, ended-snapshot}
use Rattle.pool_tables.proofs.frames.FrameTable.unpin.Goals as goal

pub pop_stale-requires : goal.pop_stale-requires
pop_stale-requires c =
    let old = c.self.inside.items.entries in
    let before = item_in old c.args.frame.0 in
    record {
      listed = AreListed-unlisted c.args.frame.0
          (option_map (ended_item c.args.count) before) old c.end_item.new.items.entries c.self.inside.snapshots.items
          c.end_item.ensures (ended-snapshot c.args.count before) c.self.invariant;
    }
