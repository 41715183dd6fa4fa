use Rattle.std.proofs.Common.{◌≡◌, ◌<◌, ℕ, [], None, length, get_or, refl, sym, ap, arith}
use Rattle.partition.specs.declared.edges_of_item.ItemEdge.{ItemEdge}
use Rattle.partition.proofs.ItemEdges.{ListsEdgesUpTo-more, ListsEdgesUpTo-next}
use Rattle.partition.proofs.edges_of_item.EdgesOfItem.add_edge.Goals as goal

pub add-requires : goal.add-requires
add-requires c =
    let at : c.loop-item.item-index < length (get_or c.args.shared.now c.args.edge []) =
    omega (arith, ap length c.items_on-item-items.ensures) in
    let below = (c.requires.shared c.args.edge [] c.requires.edge).below c.loop-item.item-index 0 at in
    let is = c.loop-item.invariant in
    rw c.items_on-item-items.ensures (omega (arith, is.counted))

pub loop-item-preserved : goal.loop-item-preserved
loop-item-preserved c =
    let at : c.loop-item.item-index < length (get_or c.args.shared.now c.args.edge []) =
    omega (arith, ap length c.items_on-item-items.ensures) in
    let below = (c.requires.shared c.args.edge [] c.requires.edge).below c.loop-item.item-index 0 at in
    let item : ℕ = get_or c.items_on-item-items.result.now c.loop-item.item-index 0 in
    let same : get_or (get_or c.args.shared.now c.args.edge []) c.loop-item.item-index 0 ≡ item =
    ap (λ items. get_or items c.loop-item.item-index 0) (sym c.items_on-item-items.ensures) in
    let item_edge : ItemEdge = record { edge = c.args.edge; previous = get_or c.loop-item.self.last.items item None } in
    ListsEdgesUpTo-more c.args.shared.now c.args.count c.args.edge c.loop-item.item-index c.loop-item.self.last.items
    c.loop-item.self.item_edges.items item item_edge
    c.add.new.self.last.items c.add.new.self.item_edges.items c.loop-item.invariant c.requires.edge at same
    (omega arith) refl refl c.in_ok-add.ensures.last c.in_ok-add.ensures.item_edges

pub returns : goal.returns
returns c =
    ListsEdgesUpTo-next c.args.shared.now c.args.count c.args.edge c.loop-item.item-index c.loop-item.self.last.items
    c.loop-item.self.item_edges.items
    c.loop-item.invariant (omega (arith, ap length c.items_on-item-items.ensures))
