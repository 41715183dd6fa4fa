use Rattle.std.proofs.Common.{ℕ, ◌≡◌, length, Contains}
use Rattle.partition.specs.Internal.Frontiers.{IsLeft, Keeps}
use Rattle.partition.proofs.frontiers.Frontier.pop.Given as goal

abbrev pub invariant-loop-item : goal.invariant-loop-item
invariant-loop-item l = record {
  cursors : l.self.cursors ≡ l.initial.self.cursors;
  kept : (item : ℕ) → Contains l.initial.self.queue item → IsLeft l.placed item → Contains l.self.queue item;
  from : Keeps l.self.queue l.initial.self.queue;
}

abbrev pub decreases-loop-item : goal.decreases-loop-item
decreases-loop-item l = length l.self.queue
