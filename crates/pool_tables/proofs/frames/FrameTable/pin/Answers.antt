use Rattle.std.proofs.Common.{◌≡◌, ◌++◌, ◌∷◌, [], ◌<◌, ℕ, ap, subst, sym, vec_len, ◌∙◌, Some}
use Rattle.std.specs.Vec.{vec_capacity}
use Rattle.pool_tables.specs.FrameItems.{FrameItems, item_in, item_of, pinned_item, snapshot_in}
use Rattle.pool_tables.specs.Internal.SnapshotList.{IsSnapshotList}
use Rattle.pool_tables.specs.declared.snapshot.Snapshot.{Snapshot}
use Rattle.pool_tables.proofs.Room.{push-room}
use Rattle.pool_tables.proofs.SnapshotLists.{IsSnapshotList-push, pinned-snapshot}
use Rattle.pool_tables.proofs.frames.FrameTable.pin.Goals as goal

pub invariant_of-self-2 : goal.invariant_of-self-2
invariant_of-self-2 c =
    let old = c.self.inside.items.entries in
    let new = c.pin_item.new.items.entries in
    let xs = c.self.inside.snapshots.items in
    let s : Snapshot = record { count = c.args.count; frame = c.args.frame.0 } in
    let before = item_in old c.args.frame.0 in
    let pushed : c.push-pushed.new.self.items ≡ xs ++ s ∷ [] =
    c.push-pushed.ensures.items ∙ (push-room c.push-pushed.result c.reserve.new.self.items s
    (vec_len c.reserve.new.self) (vec_capacity c.reserve.new.self) c.push-pushed.ensures.full
    c.in_ok-reserve.ensures.ok ∙ ap (λ ys. ys ++ s ∷ []) c.reserve.ensures.items) in
    let later =
    subst (λ (t : FrameItems). (n k : ℕ) → snapshot_in (item_of t n) ≡ Some k → k < c.args.count)
    (sym c.self.view_is) c.requires.later in
    subst (λ ys. IsSnapshotList new ys) (sym pushed)
    (IsSnapshotList-push c.args.frame.0 c.args.count
    (pinned_item c.args.by c.args.count before) old new xs c.in_ok-pin_item.ensures.pinned
    (pinned-snapshot c.args.by c.args.count before) later c.self.invariant)
