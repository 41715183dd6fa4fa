use Rattle.std.proofs.Common.{◌≡◌, ◌-◌, ap, arith, length, rules, subst, sym, take, vec_len, ◌∙◌, Some}
use Rattle.std.specs.List.{slice_get}
use Rattle.pool_tables.specs.Internal.SnapshotList.{AreListed}
use Rattle.pool_tables.proofs.SnapshotLists.{AreListed-front}
use Rattle.pool_tables.proofs.snapshot.pop_stale.Goals as goal

pub stale-preserved : goal.stale-preserved
stale-preserved c =
    let items = c.args.items.now.entries in
    let xs = c.stale.snapshots.items in
    let at : slice_get xs (length xs - 1) ≡ Some c.in-Some.last = search rules in
    let e : vec_len c.stale.snapshots - 1 ≡ length xs - 1 = omega (arith, c.stale.snapshots.ok.0) in
    let new : c.pop.new.self.items ≡ take (length xs - 1) xs = c.pop.ensures.rest ∙ ap (λ k. take k xs) e in
    subst (λ ys. AreListed items ys) (sym new)
    (AreListed-front items xs c.in-Some.last c.stale.invariant at
    (λ current. let no = c.if-is_current.ensures.stale current in cc))
