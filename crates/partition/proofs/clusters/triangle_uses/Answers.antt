use Rattle.std.proofs.Common.{◌++◌, ◌<◌, [], ap, sym, ◌∙◌, length, map, get_or, pos, take}
use Rattle.std.proofs.lemmas.List.{get_or-map}
use Rattle.geom_core.specs.declared.points.Pt.{Pt}
use Rattle.geom_core.specs.declared.triangles.Tri.{Tri}
use Rattle.geom_core.specs.EdgeSum.{edges_of}
use Rattle.partition.specs.Internal.EdgeUses.{in_order, uses_from, uses_of}
use Rattle.partition.proofs.EdgeUseLists.{in_order_more}
use Rattle.partition.proofs.clusters.triangle_uses.Goals as goal

abbrev origin : Pt
origin = record { x = pos 0; y = pos 0; z = pos 0 }

abbrev none : Tri
none = record { a = origin; b = origin; c = origin }

pub loop-place-preserved : goal.loop-place-preserved
loop-place-preserved c =
    let number = get_or c.args.order.now c.loop-place.place 0 in
    let inside : get_or c.args.order.now c.loop-place.place 0 < length c.args.tris.now =
    c.requires.number_range c.loop-place.place 0 c.loop-place-test.true in
    c.in_ok-push_uses.ensures
    ∙ (ap (λ xs. xs ++ uses_of c.loop-place.place (edges_of (get_or c.args.tris.now number none)))
    c.loop-place.invariant
    ∙ (ap (λ es. uses_from 0 (in_order (map edges_of c.args.tris.now) (take c.loop-place.place c.args.order.now)) ++
    uses_of c.loop-place.place es)
    (sym (get_or-map edges_of c.args.tris.now number none [] inside))
    ∙ sym (in_order_more (map edges_of c.args.tris.now) c.args.order.now c.loop-place.place c.loop-place-test.true)))
