use Rattle.partition.specs.Internal.EdgesOfItem.{ListsEdgesUpTo}
use Rattle.partition.proofs.edges_of_item.EdgesOfItem.of.Given as goal

abbrev pub invariant-loop-edge : goal.invariant-loop-edge
invariant-loop-edge l =
    ListsEdgesUpTo l.shared l.count l.edge 0 l.edges_of_item.last.items l.edges_of_item.item_edges.items
