use Rattle.std.proofs.Common.{◌≡◌, inl, inr, [], arith, rules}
use Rattle.std.proofs.lemmas.Bool.{cases_lt}
use Rattle.std.proofs.lemmas.List.Elements.{All-from_get_or}
use Rattle.partition.specs.Internal.SharedEdges.{IsSharedEdge}
use Rattle.partition.proofs.growing_tests.are_shared_edges.Goals as goal

pub loop-edge-preserved : goal.loop-edge-preserved
loop-edge-preserved c k h =
    let here = rw c.items_on.ensures at (c.if-not-is_shared_edge.ensures (search rules)) in
    elim (cases_lt k c.loop-edge.edge) [
      | inl before ↦ c.loop-edge.invariant k before
      | inr past ↦
          let same : k ≡ c.loop-edge.edge = omega arith in
          rw same here
    ]

pub returns : goal.returns
returns c is =
    All-from_get_or (IsSharedEdge c.args.count) c.args.shared.now []
    (λ k h. c.loop-edge.invariant k (omega (arith, c.len-edge-end.ensures)))
