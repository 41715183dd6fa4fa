-- In which batch an item is.
use Rattle.std.specs.Prelude.{◌≡◌, ◌<◌, ℕ, true, List, [], length, slice_index_or}
use Rattle.partition.specs.Growing.{is_in}

-- exactly one of the batches has the item
pub record IsInOneBatch (batches : List (List ℕ)) (item : ℕ) : Type 0 where
  pub batch : ℕ
  pub there : batch < length batches
  pub holds : is_in (slice_index_or batches batch []) item ≡ true
  pub only : (other : ℕ) → other < length batches → is_in (slice_index_or batches other []) item ≡ true → other ≡ batch
