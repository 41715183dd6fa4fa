use Rattle.std.proofs.lemmas.List.Sorted.{All-permutation}
use Rattle.partition.specs.Internal.EdgeUses.{HasEdgeKey}
use Rattle.partition.proofs.EdgeUseOrder.{in_order_from_sorted}
use Rattle.partition.proofs.edge_uses.sort_uses.Goals as goal

pub returns-clause-in_order : goal.returns-clause-in_order
returns-clause-in_order c =
    in_order_from_sorted c.sort_unstable.new.self.items
    (All-permutation HasEdgeKey c.args.uses.now.items c.sort_unstable.new.self.items c.sort_unstable.ensures.permutation
    c.requires)
    c.sort_unstable.ensures.sorted
