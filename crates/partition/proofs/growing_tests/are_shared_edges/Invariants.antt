use Rattle.std.proofs.Common.{ℕ, ◌<◌, [], get_or}
use Rattle.partition.specs.Internal.SharedEdges.{IsSharedEdge}
use Rattle.partition.proofs.growing_tests.are_shared_edges.Given as goal

abbrev pub invariant-loop-edge : goal.invariant-loop-edge
invariant-loop-edge l = (k : ℕ) → k < l.edge → IsSharedEdge l.count (get_or l.shared k [])
