use Rattle.std.proofs.Common.{◌++◌, ◌<◌, [], ap, sym, ◌∙◌, length, map, get_or, take}
use Rattle.std.proofs.lemmas.List.{get_or-map}
use Rattle.partition.specs.Groups.{ends_of, rim_edges}
use Rattle.partition.specs.Internal.EdgeUses.{in_order, uses_from, uses_of}
use Rattle.partition.proofs.EdgeUseLists.{in_order_more}
use Rattle.partition.proofs.groups.shape_uses.Goals as goal

pub loop-place-preserved : goal.loop-place-preserved
loop-place-preserved c =
    let number = get_or c.args.order.now c.loop-place.place 0 in
    let inside : get_or c.args.order.now c.loop-place.place 0 < length c.args.shapes.now =
    c.requires.number_range c.loop-place.place 0 c.loop-place-test.true in
    let rim = ap (map ends_of) c.as_slice.ensures in
    c.in_ok-push_rim.ensures
    ∙ (ap (λ xs. xs ++ uses_of c.loop-place.place (map ends_of c.as_slice.result.now)) c.loop-place.invariant
    ∙ (ap (λ es. uses_from 0 (in_order (map rim_edges c.args.shapes.now) (take c.loop-place.place c.args.order.now)) ++
    uses_of c.loop-place.place es)
    (rim ∙ sym (get_or-map rim_edges c.args.shapes.now number c.index-shapes-number.result [] inside))
    ∙ sym (in_order_more (map rim_edges c.args.shapes.now) c.args.order.now c.loop-place.place c.loop-place-test.true)))
