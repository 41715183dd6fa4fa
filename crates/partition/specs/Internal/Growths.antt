-- An order that grows, and what its frontier knows.
use Rattle.std.specs.Prelude.{◌≡◌, ◌<◌, ◌⊎◌, ℕ, Bool, true, List, [], length, slice_index_or, Contains, count_by}
use Rattle.partition.specs.declared.growing.Growth.{Growth}
use Rattle.partition.specs.Internal.Frontiers.{AreCursors, HasLeastOf, IsLeastLeft, IsLeft, NoneLeft}
use Rattle.partition.specs.Growing.{batch_before, is_chosen, is_in}
use Rattle.partition.specs.Internal.EdgesOfItem.{EdgeHasItem}
use Rattle.partition.specs.Internal.SharedEdges.{are_adjacent}

-- the present batch
abbrev pub batch_of : ℕ → List ℕ → List ℕ
batch_of size order = batch_before size order (length order)

-- some shared edge has the item and an item of the batch
pub record Touches (shared : List (List ℕ)) (batch : List ℕ) (item : ℕ) : Type 0 where
  pub edge : ℕ
  pub member : ℕ
  pub in_batch : Contains batch member
  pub with_member : EdgeHasItem shared edge member
  pub with_item : EdgeHasItem shared edge item

-- all items below are placed
abbrev pub IsPlacedBelow : List Bool → ℕ → Type 0
IsPlacedBelow placed limit = (item : ℕ) → item < limit → slice_index_or placed item true ≡ true

-- an item isn't placed
abbrev pub SomeLeft : List Bool → Type 0
SomeLeft placed = (item : ℕ) × IsLeft placed item

-- the least item of the queue that isn't placed; where all are, the least of all that aren't placed
abbrev pub IsNextLeft : List Bool → List ℕ → ℕ → Type 0
IsNextLeft placed queue item =
    IsLeastLeft queue placed item ⊎ (NoneLeft queue placed × IsLeft placed item × IsPlacedBelow placed item)

-- The order so far is the one that grows, and the rest says how far it is: which items are placed, below which
-- item all are, how far each shared edge's cursor may be, and that what is queued touches the present batch.
pub record Grows (shared : List (List ℕ)) (size : ℕ) (placed : List Bool) (order : List ℕ) (least : ℕ)
    (cursors queue : List ℕ) : Type 0 where
  pub marks : (item : ℕ) → item < length placed → slice_index_or placed item true ≡ is_in order item
  pub counted : count_by (λ placed. placed) placed ≡ length order
  pub below : IsPlacedBelow placed least
  pub passed : AreCursors shared placed cursors
  pub queued : (item : ℕ) → Contains queue item → Touches shared (batch_of size order) item
  pub grown : (place : ℕ) → place < length order →
      is_chosen (length placed) (λ _. 0) (are_adjacent shared) size order place ≡ true

-- the same of a growth
abbrev pub IsGrowth : List (List ℕ) → ℕ → Growth → Type 0
IsGrowth shared size g =
    Grows shared size g.placed.items g.order.items g.least g.frontier.cursors.items g.frontier.queue

-- of each shared edge that touches the present batch, the least item that is left is queued
abbrev pub IsReady : List (List ℕ) → ℕ → Growth → Type 0
IsReady shared size g =
    (edge member : ℕ) → Contains (batch_of size g.order.items) member → EdgeHasItem shared edge member →
    HasLeastOf (slice_index_or shared edge []) g.placed.items g.frontier.queue

-- of each shared edge that touches the present batch and doesn't have the item, the least item that is left is queued
abbrev pub IsReadyBut : List (List ℕ) → ℕ → ℕ → Growth → Type 0
IsReadyBut shared size item g =
    (edge member : ℕ) → Contains (batch_of size g.order.items) member → EdgeHasItem shared edge member →
    (Contains (slice_index_or shared edge []) item → ⊥) →
    HasLeastOf (slice_index_or shared edge []) g.placed.items g.frontier.queue
