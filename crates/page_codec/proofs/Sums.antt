-- Sums over the items so far and those that are left.
use Rattle.std.proofs.Common.{◌≡◌, ℕ, ◌+◌, ◌<◌, ◌≤◌, List, length, get_or, take, drop, arith}
use Rattle.std.specs.List.{sum_by}
use Rattle.std.proofs.lemmas.Grind.{common_steps}
use Rattle.std.proofs.lemmas.List.{take_more}
use Rattle.std.proofs.lemmas.List.Sums.{sum_by-take-le, sum_by-take-drop}

-- the next item's part is within the whole sum
pub sum-next : {X : Type 0} (f : X → ℕ) (xs : List X) (i : ℕ) (d : X) → i < length xs →
    sum_by f (take i xs) + f (get_or xs i d) ≤ sum_by f xs
sum-next f xs i d below =
    let more : sum_by f (take (i + 1) xs) ≡ sum_by f (take i xs) + f (get_or xs i d) =
    rw (take_more xs i d below) (grind (arith, common_steps)) in
    omega (arith, sum_by-take-le f xs (i + 1), more)

-- the sum of what is left is the next item's part and the sum of the rest
pub sum-left : {X : Type 0} (f : X → ℕ) (xs : List X) (i : ℕ) (d : X) → i < length xs →
    sum_by f (drop i xs) ≡ f (get_or xs i d) + sum_by f (drop (i + 1) xs)
sum-left f xs i d below =
    let more : sum_by f (take (i + 1) xs) ≡ sum_by f (take i xs) + f (get_or xs i d) =
    rw (take_more xs i d below) (grind (arith, common_steps)) in
    omega (arith, sum_by-take-drop f xs i, sum_by-take-drop f xs (i + 1), more)
