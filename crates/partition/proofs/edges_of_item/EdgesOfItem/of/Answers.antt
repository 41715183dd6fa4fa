use Rattle.std.proofs.Common.{None, length, get_or, ap, ◌∙◌, rules}
use Rattle.std.proofs.lemmas.List.{get_or-replicate, length-replicate}
use Rattle.partition.proofs.ItemEdges.{ListsEdgesUpTo-none}
use Rattle.partition.proofs.edges_of_item.EdgesOfItem.of.Goals as goal

pub loop-edge-init : goal.loop-edge-init
loop-edge-init c =
    let all = c.in_ok-vec.ensures.items_if_clones_equal (λ y e. search rules) in
    rw c.new.ensures.items
    (ListsEdgesUpTo-none c.args.shared.now c.args.count c.in_ok-vec.field-0.items
    (ap length all ∙ length-replicate c.args.count None)
    (λ i h. ap (λ last. get_or last i None) all ∙ get_or-replicate c.args.count i None None h))
