use Rattle.std.proofs.Common.{sym}
use Rattle.half_mesh.proofs.TermLaws.{terms_in-nothing, terms_in-pushed}
use Rattle.half_mesh.proofs.terms.push_sums.Goals as goal

pub loop-place-init : goal.loop-place-init
loop-place-init c = sym (terms_in-nothing c.args.terms.now.items)

pub loop-place-preserved : goal.loop-place-preserved
loop-place-preserved c =
    terms_in-pushed c.args.edges.now c.args.sums.now c.args.terms.now.items c.loop-place.terms.items
    c.push.new.self.items
    c.loop-place.place _ _ c.requires.one_each c.requires.small c.loop-place-test.true c.loop-place.invariant
    c.in_ok-push.ensures.items
