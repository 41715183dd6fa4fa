use Rattle.std.proofs.Common.{◌∙◌, flat_map}
use Rattle.half_mesh.specs.Terms.{terms_of}
use Rattle.half_mesh.specs.declared.cancelling.TheConstants.{SLOTS, EMPTY}
use Rattle.half_mesh.proofs.CancelLaws.{from_empty}
use Rattle.half_mesh.proofs.TermLaws.{terms_small}
use Rattle.half_mesh.proofs.rims.list_uncancelled.Goals as goal

pub returns-then-tris-lt-FEWEST-clause-small : goal.returns-then-tris-lt-FEWEST-clause-small
returns-then-tris-lt-FEWEST-clause-small c = rw c.in_ok-list_terms.ensures (terms_small c.args.tris.now)

pub returns-clause-sums : goal.returns-clause-sums
returns-clause-sums c =
    from_empty SLOTS EMPTY.edge c.new-terms.result.items c.deref_mut.result.now (flat_map terms_of c.args.tris.now)
    c.cancel_edges.new.left.items c.new-terms.ensures.items
    (c.deref_mut.ensures.value ∙ c.in_ok-slots.ensures.items_if_clones_equal (λ y e. e))
    c.in_ok-cancel_edges.ensures.sums
