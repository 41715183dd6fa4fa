use Rattle.std.proofs.Common.{length}
use Rattle.partition.specs.Internal.Frontiers.{AreCursors, AddsNeighbours, Keeps}
use Rattle.partition.proofs.Walks.{IsWalk, left_of}
use Rattle.partition.proofs.frontiers.Frontier.push_least_of_each.Given as goal

abbrev pub invariant-loop-next : goal.invariant-loop-next
invariant-loop-next l = record {
  cursors : AreCursors l.shared l.placed l.self.cursors.items;
  walk : IsWalk l.shared (length l.placed) l.edges_of_item l.fn.item l.placed l.self.queue l.next;
  keeps : Keeps l.initial.self.queue l.self.queue;
  adds : AddsNeighbours l.shared l.fn.item l.initial.self.queue l.self.queue;
}

abbrev pub decreases-loop-next : goal.decreases-loop-next
decreases-loop-next l = left_of l.next
