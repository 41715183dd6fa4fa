use Rattle.std.proofs.Common.{◌++◌}
use Rattle.half_mesh.proofs.CancelLaws.{one_put}
use Rattle.half_mesh.proofs.cancelling.put_terms.Goals as goal

pub terms-preserved : goal.terms-preserved
terms-preserved c = (
  c.put_term.ensures.slots,
  c.in_ok-put_term.ensures.small,
  c.in_ok-put_term.ensures.small_left,
  one_put (c.args.left.now.items ++ c.args.slots.now) c.args.terms.now (c.terms.left.items ++ c.terms.slots)
      (c.put_term.new.left.items ++ c.put_term.new.slots) c.terms.term-index _ c.terms-test.true
      c.terms.invariant.3 c.in_ok-put_term.ensures.sums,
)
