-- The batches of items that grow.
use Rattle.std.specs.Prelude.{◌≡◌, ◌+◌, ◌-◌, ◌/◌, ◌<◌, ◌≤◌, ℕ, true, List, [], length, map, slice_index, slice_index_or}
use Rattle.std.specs.Prelude.{All}
use Rattle.std.specs.List.{concat}
use Rattle.geom_core.specs.declared.points.Pt.{Pt}
use Rattle.partition.specs.Growing.{is_grown, batches_of}
use Rattle.partition.specs.Neighbours.{are_neighbours}

-- The batches joined are the items in the order in which they grow, and each batch but the last has `size`
-- items. An item is given by its key and by the list of its edges.
pub record AreBatches (keys : List ℕ) (edges : List (List (Pt × Pt))) (size : ℕ)
    (batches : List (List ℕ)) : Type 0 where
  pub grown : is_grown (length keys) (slice_index keys) (are_neighbours edges) size (concat batches) ≡ true
  pub split : batches ≡ batches_of size (concat batches)

-- of `total` items, batches of which each but the last has `size`, and the last one from 1 to `size`
pub record AreFullButLast (size total : ℕ) (batches : List (List ℕ)) : Type 0 where
  pub batch_count : length batches ≡ (total + (size - 1)) / size
  pub not_empty : All (λ batch. 0 < length batch) batches
  pub size_limit : All (λ batch. length batch ≤ size) batches
  pub full : (k : ℕ) → k + 1 < length batches → length (slice_index_or batches k []) ≡ size

-- the items that these numbers name, in the order of the numbers; a number beyond the list names `other`
abbrev pub pick : {X : Type 0} → List X → X → List ℕ → List X
pick items other numbers = map (λ number. slice_index_or items number other) numbers
