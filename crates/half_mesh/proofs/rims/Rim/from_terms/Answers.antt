use Rattle.half_mesh.specs.declared.edges.Edge.{Edge}
use Rattle.half_mesh.proofs.RimLaws.{IsSplit, split_is}
use Rattle.half_mesh.proofs.rims.Rim.from_terms.Goals as goal

split : (c : goal.After-loop-term) → IsSplit c.args.terms.now.items c.loop-term.edges.items c.loop-term.sums.items
split c =
    split_is c.args.terms.now.items c.sort_and_add_up.new.sums.items c.loop-term.edges.items c.loop-term.sums.items
    c.loop-term.term-index c.in_ok-sort_and_add_up.ensures
    (rw c.deref-term-items.ensures.value at c.loop-term-test.false)
    (rw c.deref-term-items.ensures.value at c.loop-term.invariant.0)
    (rw c.deref-term-items.ensures.value at c.loop-term.invariant.1)

pub invariant_of-result : goal.invariant_of-result
invariant_of-result c = ((split c).rim, (split c).small)

pub returns-clause-rim : goal.returns-clause-rim
returns-clause-rim c = (split c.before).rim

pub returns-clause-sums : goal.returns-clause-sums
returns-clause-sums c = (split c.before).total
