use Rattle.std.proofs.Common.{false, replicate}
use Rattle.partition.proofs.Taking.{Grows-none}
use Rattle.partition.proofs.growing.Growth.new.Goals as goal

pub returns-clause-growth : goal.returns-clause-growth
returns-clause-growth c size =
    let placed = c.in_ok-vec.ensures.items_if_clones_equal (λ y e. e) in
    rw (placed, c.in_ok-with_capacity.ensures.items, c.in_ok-new.ensures.queue)
    (Grows-none c.args.shared.now size c.args.count c.in_ok-new.field-0.cursors.items
    (c.in_ok-new.ensures.cursors (replicate c.args.count false)))
