use Rattle.half_mesh.proofs.CancelLaws.{one_held, small_left}
use Rattle.half_mesh.proofs.cancelling.push_held.Goals as goal

pub slots-preserved : goal.slots-preserved
slots-preserved c = (
  small_left c.slots.left.items c.push_sum.new.sums.items _ c.slots.invariant.0
      (c.requires.small c.slots.held-index _ c.slots-test.true) c.in_ok-push_sum.ensures,
  one_held c.args.left.now.items c.args.slots.now c.slots.left.items c.push_sum.new.sums.items c.slots.held-index _
      c.slots-test.true c.slots.invariant.1 c.in_ok-push_sum.ensures,
)
