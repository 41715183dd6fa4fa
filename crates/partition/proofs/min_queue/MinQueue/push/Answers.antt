use Rattle.std.proofs.Common.{ℕ, ◌∷◌}
use Rattle.std.proofs.lemmas.List.Sorted.{IsPermutation-map}
use Rattle.std.specs.BinaryHeap.{heap_items}
use Rattle.std.specs.declared.cmp.Reverse.{Reverse}
use Rattle.partition.proofs.min_queue.MinQueue.push.Goals as goal

pub returns : goal.returns
returns c =
    let added : Reverse ℕ = record { 0 = c.args.number } in
    rw (← c.self.view_is)
    (IsPermutation-map (λ x. x.0) (added ∷ heap_items c.self.inside.heap)
    (heap_items c.push.new.self) c.in_ok-push.ensures.permutation)
