use Rattle.std.proofs.Common.{◌≡◌, ◌-◌, length, rules, Some, None}
use Rattle.std.specs.List.{slice_get}
use Rattle.pool_tables.proofs.SnapshotLists.{IsLatest-last, IsLatest-none}
use Rattle.pool_tables.proofs.frames.FrameTable.latest_snapshot.Goals as goal

pub returns-in-Some : goal.returns-in-Some
returns-in-Some c =
    let xs = c.self.inside.snapshots.items in
    let at : slice_get xs (length xs - 1) ≡ Some c.in-Some.last = search rules in
    rw (← c.self.view_is) (IsLatest-last c.self.inside.items.entries xs c.in-Some.last c.self.invariant at)

pub returns-in-None : goal.returns-in-None
returns-in-None c =
    let xs = c.self.inside.snapshots.items in
    let none : slice_get xs (length xs - 1) ≡ None = search rules in
    rw (← c.self.view_is) (IsLatest-none c.self.inside.items.entries xs c.self.invariant none)
