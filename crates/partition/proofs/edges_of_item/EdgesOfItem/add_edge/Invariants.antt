use Rattle.partition.specs.Internal.EdgesOfItem.{ListsEdgesUpTo}
use Rattle.partition.proofs.edges_of_item.EdgesOfItem.add_edge.Given as goal

abbrev pub invariant-loop-item : goal.invariant-loop-item
invariant-loop-item l = ListsEdgesUpTo l.shared l.count l.edge l.item-index l.self.last.items l.self.item_edges.items
