-- Growing: items are put in an order, one after another, and the order is cut into batches of a fixed size.
-- The next item is the least in rank of the neighbours of the present batch that aren't placed yet; where
-- there is none, it is the least of all that aren't placed.
--
-- The items are the numbers below n. `key` gives an item's key, and `near` tells neighbours.
use Rattle.std.specs.Prelude.{ℕ, ◌+◌, ◌-◌, ◌*◌, ◌/◌, Bool, not, ◌&&◌, ◌||◌, ◌==◌, nat_lt, if◌then◌else◌, List, length}
use Rattle.std.specs.Prelude.{take, drop, map, slice_index}
use Rattle.std.specs.List.{list_any, list_all, range_with_len}
use Rattle.std.specs.Fork.{slice_chunk}

-- the item i ranks before the item j: it has the lesser key, or at equal keys the lesser number
abbrev pub ranks_before : (ℕ → ℕ) → ℕ → ℕ → Bool
ranks_before key i j = nat_lt (key i) (key j) || (key i == key j && nat_lt i j)

-- the item is among these
abbrev pub is_in : List ℕ → ℕ → Bool
is_in items i = list_any (λ j. j == i) items

-- some item of the batch is a neighbour of the item
abbrev pub touches : (ℕ → ℕ → Bool) → List ℕ → ℕ → Bool
touches near batch i = list_any (λ j. near j i) batch

-- The item i goes before the item j: neighbours of the batch go before the others, and else the rank decides.
-- So before a neighbour goes only a neighbour that ranks before it, and before any other go all neighbours.
abbrev pub goes_before : (ℕ → ℕ) → (ℕ → ℕ → Bool) → List ℕ → ℕ → ℕ → Bool
goes_before key near batch i j =
    if touches near batch j then touches near batch i && ranks_before key i j
    else touches near batch i || ranks_before key i j

-- the present batch, which the item at `place` joins: the items from the last multiple of `size` at or below
-- `place` up to `place`, so none where `place` is itself a multiple
abbrev pub batch_before : ℕ → List ℕ → ℕ → List ℕ
batch_before size order place = drop (place / size * size) (take place order)

-- of the items below n that aren't placed, i is the one that goes before all others
unfoldable pub is_next : ℕ → (ℕ → ℕ) → (ℕ → ℕ → Bool) → List ℕ → List ℕ → ℕ → Bool
is_next n key near placed batch i =
    nat_lt i n && not (is_in placed i)
    && list_all (λ j. is_in placed j || i == j || goes_before key near batch i j) (range_with_len 0 n)

-- the item at `place` is the one that comes next after those before it
abbrev pub is_chosen : ℕ → (ℕ → ℕ) → (ℕ → ℕ → Bool) → ℕ → List ℕ → ℕ → Bool
is_chosen n key near size order place =
    is_next n key near (take place order) (batch_before size order place) (slice_index order place)

-- the order in which the items below n grow: all of them, each in its place
unfoldable pub is_grown : ℕ → (ℕ → ℕ) → (ℕ → ℕ → Bool) → ℕ → List ℕ → Bool
is_grown n key near size order =
    length order == n && list_all (is_chosen n key near size order) (range_with_len 0 n)

-- how many batches the order has: the last one may be smaller than the others
abbrev pub batch_count : ℕ → List ℕ → ℕ
batch_count size order = (length order + (size - 1)) / size

-- the order, cut into batches of `size`
unfoldable pub batches_of : ℕ → List ℕ → List (List ℕ)
batches_of size order = map (slice_chunk order size) (range_with_len 0 (batch_count size order))
