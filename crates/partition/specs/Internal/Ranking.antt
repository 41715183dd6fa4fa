-- The ranking of items: their numbers, the least in rank first.
use Rattle.std.specs.Prelude.{◌≡◌, ℕ, ◌<◌, true, List, length, slice_index, IsPermutation}
use Rattle.std.specs.List.{range_with_len}
use Rattle.partition.specs.Growing.{ranks_before}

-- the number of each item once, and each ranks before those after it
pub record IsRanking (keys : List ℕ) (order : List ℕ) : Type 0 where
  pub all : IsPermutation (range_with_len 0 (length keys)) order
  pub ascends : (i j : ℕ) → i < j → j < length order →
      ranks_before (slice_index keys) (slice_index order i) (slice_index order j) ≡ true
