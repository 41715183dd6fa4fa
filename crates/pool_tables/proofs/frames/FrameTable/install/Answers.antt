use Rattle.std.specs.Option.{option_map}
use Rattle.pool_tables.specs.FrameItems.{item_in, installed_item}
use Rattle.pool_tables.proofs.SnapshotLists.{IsSnapshotList-same, installed-snapshot}
use Rattle.pool_tables.proofs.frames.FrameTable.install.Goals as goal

pub invariant_of-self : goal.invariant_of-self
invariant_of-self c =
    let old = c.self.inside.items.entries in
    let before = item_in old c.args.frame.0 in
    IsSnapshotList-same c.args.frame.0 (option_map (installed_item c.args.page) before) old
    c.install_item.new.items.entries c.self.inside.snapshots.items c.install_item.ensures.installed
    (installed-snapshot c.args.page before) c.self.invariant
