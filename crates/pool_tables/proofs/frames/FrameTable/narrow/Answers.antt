use Rattle.std.specs.Option.{option_map}
use Rattle.pool_tables.specs.FrameItems.{item_in, narrowed_item}
use Rattle.pool_tables.proofs.SnapshotLists.{AreListed-unlisted, narrowed-snapshot}
use Rattle.pool_tables.proofs.frames.FrameTable.narrow.Goals as goal

pub pop_stale-requires : goal.pop_stale-requires
pop_stale-requires c =
    let old = c.self.inside.items.entries in
    let before = item_in old c.args.frame.0 in
    record {
      listed = AreListed-unlisted c.args.frame.0
          (option_map (narrowed_item c.args.by c.args.pages.items) before) old c.narrow_item.new.items.entries
          c.self.inside.snapshots.items c.narrow_item.ensures
          (narrowed-snapshot c.args.by c.args.pages.items before) c.self.invariant;
    }
