use Rattle.std.proofs.Common.{rules, sym, ◌∙◌, arith}
use Rattle.half_mesh.proofs.CancelLaws.{added_here, left_slot}
use Rattle.half_mesh.proofs.cancelling.put_term.Goals as goal

pub returns-then-eq-clause-sums : goal.returns-then-eq-clause-sums
returns-then-eq-clause-sums c =
    added_here c.args.left.now.items c.args.slots.now c.slot_of-slot.result c.args.term _
    (omega (arith, c.requires.slots, c.slot_of-slot.ensures.range)) c.requires.small
    (search rules) (sym c.eq.ensures ∙ c.if-eq.true)

pub returns-in_ok-push_sum-clause-sums : goal.returns-in_ok-push_sum-clause-sums
returns-in_ok-push_sum-clause-sums c =
    left_slot c.args.left.now.items c.push_sum.new.sums.items c.args.slots.now c.slot_of-slot.result c.args.term _
    (omega (arith, c.requires.slots, c.slot_of-slot.ensures.range)) c.in_ok-push_sum.ensures
