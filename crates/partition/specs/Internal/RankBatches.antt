-- The batches of items that are given by rank.
use Rattle.std.specs.Prelude.{◌≡◌, ℕ, true, List, length, map, slice_index}
use Rattle.partition.specs.declared.edge_uses.EdgeUse.{EdgeUse}
use Rattle.partition.specs.Growing.{is_grown, batches_of}
use Rattle.partition.specs.Internal.EdgeUses.{are_adjacent_in}

-- The batches are the ranks in the order in which they grow, each replaced by the number that `order` has there.
pub record AreBatchesOfRanks (order : List ℕ) (uses : List EdgeUse) (size : ℕ) (batches : List (List ℕ)) : Type 0 where
  pub ranks : List ℕ
  pub grown : is_grown (length order) (λ _. 0) (are_adjacent_in uses) size ranks ≡ true
  pub split : batches ≡ batches_of size (map (slice_index order) ranks)
