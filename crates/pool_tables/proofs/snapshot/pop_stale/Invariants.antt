use Rattle.std.proofs.Common.{vec_len}
use Rattle.pool_tables.specs.Internal.SnapshotList.{AreListed}
use Rattle.pool_tables.proofs.snapshot.pop_stale.Given as goal

abbrev pub invariant-stale : goal.invariant-stale
invariant-stale l = AreListed l.items.entries l.snapshots.items

abbrev pub decreases-stale : goal.decreases-stale
decreases-stale l = vec_len l.snapshots
