-- The frontier: of each shared edge that touches the present batch, the least item that isn't placed is in a queue.
use Rattle.std.specs.Prelude.{◌≡◌, ◌<◌, ◌≤◌, ◌⊎◌, ℕ, Bool, true, false, List, [], length, slice_index, slice_index_or}
use Rattle.std.specs.Prelude.{Contains}
use Rattle.partition.specs.Internal.EdgesOfItem.{EdgeHasItem}

-- there is such an item, and it isn't placed
abbrev pub IsLeft : List Bool → ℕ → Type 0
IsLeft placed item = slice_index_or placed item true ≡ false

-- the first items of a shared edge, as many as the cursor says, are placed
abbrev pub IsPassed : List ℕ → List Bool → ℕ → Type 0
IsPassed edge placed cursor =
    (k : ℕ) → k < cursor → k < length edge → slice_index_or placed (slice_index edge k) true ≡ true

-- each shared edge has a cursor past placed items
pub record AreCursors (shared : List (List ℕ)) (placed : List Bool) (cursors : List ℕ) : Type 0 where
  pub counted : length cursors ≡ length shared
  pub passed : (edge : ℕ) → edge < length shared →
      IsPassed (slice_index_or shared edge []) placed (slice_index cursors edge)

-- the item is the least of these that isn't placed
pub record IsLeastLeft (items : List ℕ) (placed : List Bool) (item : ℕ) : Type 0 where
  pub among : Contains items item
  pub left : IsLeft placed item
  pub least : (other : ℕ) → Contains items other → IsLeft placed other → item ≤ other

-- all of these items are placed
abbrev pub NoneLeft : List ℕ → List Bool → Type 0
NoneLeft items placed = (item : ℕ) → Contains items item → slice_index_or placed item true ≡ true

-- what is in `old` is in `new`
abbrev pub Keeps : List ℕ → List ℕ → Type 0
Keeps old new = (item : ℕ) → Contains old item → Contains new item

-- what isn't placed and is in `old` is in `new` too, except this item
abbrev pub KeepsLeft : List Bool → ℕ → List ℕ → List ℕ → Type 0
KeepsLeft placed item old new =
    (other : ℕ) → Contains old other → IsLeft placed other → (other ≡ item) ⊎ Contains new other

-- an item of the shared edge that isn't placed is in the queue, and it is no greater than this one
pub record HasLesser (edge : List ℕ) (placed : List Bool) (queue : List ℕ) (item : ℕ) : Type 0 where
  pub lesser : ℕ
  pub queued : Contains queue lesser
  pub among : Contains edge lesser
  pub left : IsLeft placed lesser
  pub le : lesser ≤ item

-- the queue has the shared edge's least item that isn't placed, if there is one
abbrev pub HasLeastOf : List ℕ → List Bool → List ℕ → Type 0
HasLeastOf edge placed queue = (item : ℕ) → Contains edge item → IsLeft placed item → HasLesser edge placed queue item

-- the queue has the least item that isn't placed of each shared edge that has the item
abbrev pub HasLeastOfEach : List (List ℕ) → List Bool → List ℕ → ℕ → Type 0
HasLeastOfEach shared placed queue item =
    (edge : ℕ) → EdgeHasItem shared edge item → HasLeastOf (slice_index_or shared edge []) placed queue

-- some shared edge has both items
abbrev pub HaveSharedEdge : List (List ℕ) → ℕ → ℕ → Type 0
HaveSharedEdge shared item other = (edge : ℕ) × EdgeHasItem shared edge item × EdgeHasItem shared edge other

-- what is new in the queue shares a shared edge with the item
abbrev pub AddsNeighbours : List (List ℕ) → ℕ → List ℕ → List ℕ → Type 0
AddsNeighbours shared item old new =
    (other : ℕ) → Contains new other → Contains old other ⊎ HaveSharedEdge shared item other
