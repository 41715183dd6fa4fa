use Rattle.std.proofs.Common.{◌++◌, drop, flat_map, sym, ap, ◌∙◌, arith}
use Rattle.std.proofs.lemmas.List.{take-append-drop}
use Rattle.half_mesh.specs.Terms.{terms_of}
use Rattle.half_mesh.proofs.CancelLaws.{all_put, one_piece}
use Rattle.half_mesh.proofs.TermLaws.{terms_small}
use Rattle.half_mesh.proofs.rims.cancel_edges.Goals as goal

pub put_terms-requires-clause-small_terms : goal.put_terms-requires-clause-small_terms
put_terms-requires-clause-small_terms c =
    rw (c.deref.ensures.value, c.in_ok-list_terms.ensures) (terms_small c.split_at.result.0.now)

pub loop-rest-preserved : goal.loop-rest-preserved
loop-rest-preserved c = (
  c.put_terms.ensures.slots,
  c.in_ok-put_terms.ensures.small,
  c.in_ok-put_terms.ensures.small_left,
  one_piece terms_of c.loop-rest.rest.now c.split_at.result.0.now c.split_at.result.1.now
      (c.args.left.now.items ++ c.args.slots.now) (c.loop-rest.left.items ++ c.loop-rest.slots)
      (c.put_terms.new.left.items ++ c.put_terms.new.slots) c.args.tris.now c.loop-rest.invariant.3
      (sym (take-append-drop c.min-in-loop-rest.result c.loop-rest.rest.now) ∙
      ap (λ l. l ++ drop c.min-in-loop-rest.result c.loop-rest.rest.now) (sym c.split_at.ensures.front) ∙
      ap (λ l. c.split_at.result.0.now ++ l) (sym c.split_at.ensures.back))
      (rw (c.deref.ensures.value, c.in_ok-list_terms.ensures) at c.in_ok-put_terms.ensures.sums),
)

pub returns-clause-sums : goal.returns-clause-sums
returns-clause-sums c =
    all_put terms_of c.loop-rest.rest.now
    ((c.args.left.now.items ++ c.args.slots.now) ++ flat_map terms_of c.args.tris.now)
    (c.loop-rest.left.items ++ c.loop-rest.slots) c.push_held.new.left.items
    (grind (arith, sym c.is_empty.ensures ∙ c.loop-rest-test.false)) c.loop-rest.invariant.3
    c.in_ok-push_held.ensures.sums
