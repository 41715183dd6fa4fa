use Rattle.std.proofs.Common.{w32, to_z, sym, ap, ◌∙◌}
use Rattle.half_mesh.proofs.TermLaws.{nothing_to_add, adding_start, adding_equal, adding_later, adding_done}
use Rattle.half_mesh.proofs.terms.add_up.Goals as goal
use Rattle.half_mesh.proofs.terms.add_up.Goals.{then-eq, else-eq+in_ok-push_sum}

pub returns-in_default : goal.returns-in_default
returns-in_default c = rw c.clear.ensures.items (nothing_to_add c.args.terms.now c.in_default.ensures.cases)

pub loop-term-init : goal.loop-term-init
loop-term-init c =
    adding_start c.args.terms.now c.in-Some.first.now c.in-Some.later.now c.clear.new.self.items
    c.in-Some.ensures.cases.0 c.requires.small c.clear.ensures.items

pub loop-term-preserved : goal.loop-term-preserved
loop-term-preserved c = elim c.if-eq.branch [
  | then-eq w ↦
      adding_equal c.args.terms.now c.in-Some.first.now c.in-Some.later.now c.loop-term.sums.items c.if-eq.sums.items
      c.loop-term.edge c.if-eq.edge c.loop-term.sum-bits (to_z w32 c.if-eq.sum-bits) c.loop-term.term-index _
      c.in-Some.ensures.cases.0 c.requires.small c.loop-term-test.true c.loop-term.invariant
      (sym c.eq.ensures ∙ w.if-eq.true) (ap (λ v. v.items) w.sums-is) w.edge-is
      c.loop-term.auto.sum w.sum-is
  | else-eq+in_ok-push_sum w ↦
      adding_later c.args.terms.now c.in-Some.first.now c.in-Some.later.now c.loop-term.sums.items c.if-eq.sums.items
      c.loop-term.edge c.if-eq.edge (to_z w32 c.loop-term.sum-bits) (to_z w32 c.if-eq.sum-bits) c.loop-term.term-index _
      c.in-Some.ensures.cases.0 c.requires.sorted c.requires.small c.loop-term-test.true c.loop-term.invariant
      (sym c.eq.ensures ∙ w.if-eq.false) (ap (λ v. v.items) w.sums-is ∙ w.in_ok-push_sum.ensures) w.edge-is w.sum-is
]

pub returns : goal.returns
returns c =
    adding_done c.args.terms.now c.in-Some.first.now c.in-Some.later.now c.loop-term.sums.items
    c.push_sum-2.new.sums.items
    c.loop-term.edge (to_z w32 c.loop-term.sum-bits) c.loop-term.term-index c.in-Some.ensures.cases.0
    c.loop-term-test.false c.loop-term.invariant.0 c.in_ok-push_sum-2.ensures
