use Rattle.std.proofs.Common.{◌≡◌, ◌≤◌, ℕ, List, ◌∷◌, All, map, false, arith}
use Rattle.std.proofs.lemmas.Bool.Decides.{nat_tests}
use Rattle.std.proofs.lemmas.List.Elements.{All-from_recursion, All-map, All-weaker}
use Rattle.std.proofs.lemmas.List.Sorted.{IsPermutation-map}
use Rattle.std.specs.BinaryHeap.{IsUpperBound, heap_items}
use Rattle.std.specs.Ordering.{is_lt, nat_cmp}
use Rattle.std.specs.declared.cmp.Reverse.{Reverse}
use Rattle.partition.proofs.min_queue.MinQueue.pop.Goals as goal

least : (x : Reverse ℕ) (xs : List (Reverse ℕ)) → IsUpperBound (λ x y. nat_cmp y.0 x.0) x xs →
    All (λ other. x.0 ≤ other) (map (λ y. y.0) xs)
least x xs h =
    let Bounded : Reverse ℕ → Type 0 = λ y. is_lt (nat_cmp y.0 x.0) ≡ false in
    All-map (λ other. x.0 ≤ other) (λ y. y.0) xs
    (All-weaker Bounded (λ y. x.0 ≤ y.0) (λ y e. le_of y.0 x.0 e) xs (All-from_recursion Bounded xs h))
  where
    le_of : (a b : ℕ) → is_lt (nat_cmp a b) ≡ false → b ≤ a
    le_of a b e = grind (arith, nat_tests)

pub returns-clause-taken : goal.returns-clause-taken
returns-clause-taken c =
    rw (← c.self.view_is)
    (IsPermutation-map (λ x. x.0) (heap_items c.self.inside.heap)
    (c.in_ok-number.field-0 ∷ heap_items c.pop.new.self) c.in_ok-number.ensures.permutation)

pub returns-clause-least : goal.returns-clause-least
returns-clause-least c =
    rw (← c.self.view_is)
    (least c.in_ok-number.field-0 (heap_items c.self.inside.heap)
    (c.in_ok-number.ensures.heap_order c.self.invariant).1)
