-- Worked examples of the growing rule, computed by the checker.
use Rattle.std.specs.Prelude.{◌≡◌, ℕ, ◌/◌, ◌∷◌, [], Bool, List, true, false, nat_lt, slice_index}
use Rattle.std.proofs.Common.{refl}
use Rattle.partition.specs.Growing.{batch_before, batches_of, is_grown, is_next, ranks_before, touches}
use Rattle.partition.specs.Internal.SharedEdges.{are_adjacent, shared_edges_of}

-- A strip of three squares, each of two triangles: 0 and 1, 2 and 3, 4 and 5. Both of a square have its key.
-- The first triangle of a square has its right side, the second its left side.
abbrev strip : List (List ℕ)
strip = (0 ∷ 1 ∷ []) ∷ (0 ∷ 3 ∷ []) ∷ (2 ∷ 3 ∷ []) ∷ (2 ∷ 5 ∷ []) ∷ (4 ∷ 5 ∷ []) ∷ []

abbrev grows_strip : ℕ → List ℕ → Bool
grows_strip size order = is_grown 6 (λ i. i / 2) (are_adjacent strip) size order

-- from square to square the second triangle comes first
pub strip_grows : grows_strip 128 (0 ∷ 1 ∷ 3 ∷ 2 ∷ 5 ∷ 4 ∷ []) ≡ true
unfolding is_next is_grown
strip_grows = refl

-- the second batch begins empty, with the least item
pub strip_grows_by_four : grows_strip 4 (0 ∷ 1 ∷ 3 ∷ 2 ∷ 4 ∷ 5 ∷ []) ≡ true
unfolding is_next is_grown
strip_grows_by_four = refl

pub strip_goes_on_no_batch : grows_strip 4 (0 ∷ 1 ∷ 3 ∷ 2 ∷ 5 ∷ 4 ∷ []) ≡ false
unfolding is_next is_grown
strip_goes_on_no_batch = refl

pub strip_not_by_number : grows_strip 128 (0 ∷ 1 ∷ 2 ∷ 3 ∷ 4 ∷ 5 ∷ []) ≡ false
unfolding is_next is_grown
strip_not_by_number = refl

-- an order that lacks an item, or has one twice
pub strip_whole : grows_strip 128 (0 ∷ 1 ∷ 3 ∷ 2 ∷ 5 ∷ []) ≡ false
unfolding is_next is_grown
strip_whole = refl

pub strip_once : grows_strip 128 (0 ∷ 1 ∷ 3 ∷ 2 ∷ 5 ∷ 5 ∷ []) ≡ false
unfolding is_next is_grown
strip_once = refl

-- Two triangles apart: the lesser key first, at equal keys the lesser number.
pub apart_by_key : is_grown 2 (slice_index (5 ∷ 3 ∷ [])) (are_adjacent []) 8 (1 ∷ 0 ∷ []) ≡ true
unfolding is_next is_grown
apart_by_key = refl

pub apart_by_number : is_grown 2 (slice_index (5 ∷ 5 ∷ [])) (are_adjacent []) 8 (0 ∷ 1 ∷ []) ≡ true
unfolding is_next is_grown
apart_by_number = refl

-- A fan of five triangles round a point, each a neighbour of the next, the last of the first.
abbrev fan : List (List ℕ)
fan = (0 ∷ 1 ∷ []) ∷ (1 ∷ 2 ∷ []) ∷ (2 ∷ 3 ∷ []) ∷ (3 ∷ 4 ∷ []) ∷ (0 ∷ 4 ∷ []) ∷ []

-- 1 has the least key; of its neighbours 2 has a lesser key than 0, though 3's is lesser still
pub fan_grows : is_grown 5 (slice_index (7 ∷ 0 ∷ 6 ∷ 0 ∷ 7 ∷ [])) (are_adjacent fan) 8 (1 ∷ 2 ∷ 3 ∷ 0 ∷ 4 ∷ []) ≡ true
unfolding is_next is_grown
fan_grows = refl

-- Item 3 is a neighbour of 0, which is in the first batch: the second batch begins with 2.
abbrev branching : List (List ℕ)
branching = (0 ∷ 1 ∷ []) ∷ (0 ∷ 3 ∷ []) ∷ []

pub neighbours_of_the_batch : is_grown 4 (λ _. 0) (are_adjacent branching) 2 (0 ∷ 1 ∷ 2 ∷ 3 ∷ []) ≡ true
unfolding is_next is_grown
neighbours_of_the_batch = refl

pub neighbours_of_all : is_grown 4 (λ _. 0) (are_adjacent branching) 2 (0 ∷ 1 ∷ 3 ∷ 2 ∷ []) ≡ false
unfolding is_next is_grown
neighbours_of_all = refl

-- batches of two, the last of one; and of an order that is a multiple
pub batches_last_smaller : batches_of 2 (4 ∷ 3 ∷ 2 ∷ 1 ∷ 0 ∷ []) ≡ (4 ∷ 3 ∷ []) ∷ (2 ∷ 1 ∷ []) ∷ (0 ∷ []) ∷ []
unfolding batches_of
batches_last_smaller = refl

pub batches_full : batches_of 2 (3 ∷ 2 ∷ 1 ∷ 0 ∷ []) ≡ (3 ∷ 2 ∷ []) ∷ (1 ∷ 0 ∷ []) ∷ []
unfolding batches_of
batches_full = refl

pub batches_none : batches_of 2 [] ≡ []
unfolding batches_of
batches_none = refl

-- shared edges in one flat list
pub shared_edges_in_a_row : shared_edges_of (0 ∷ 1 ∷ 5 ∷ 2 ∷ []) (0 ∷ 2 ∷ 2 ∷ 4 ∷ []) ≡ (0 ∷ 1 ∷ []) ∷ [] ∷
    (5 ∷ 2 ∷ []) ∷ []
shared_edges_in_a_row = refl

-- lesser keys first, at equal keys lesser numbers
pub ranks_by_key : ranks_before (slice_index (5 ∷ 3 ∷ [])) 1 0 ≡ true
ranks_by_key = refl

pub ranks_by_number : ranks_before (λ _. 0) 0 1 ≡ true
ranks_by_number = refl

pub ranks_not_itself : ranks_before (λ _. 0) 1 1 ≡ false
ranks_not_itself = refl

-- an item of the batch is near the item, whichever
pub touches_one_of_batch : touches (λ j i. nat_lt j i) (3 ∷ 7 ∷ []) 5 ≡ true
touches_one_of_batch = refl

pub touches_none_of_batch : touches (λ j i. nat_lt j i) (6 ∷ 7 ∷ []) 5 ≡ false
touches_none_of_batch = refl

-- the batch has what was placed since the last multiple of its size
pub batch_before-4 : batch_before 3 (9 ∷ 8 ∷ 7 ∷ 6 ∷ 5 ∷ []) 4 ≡ 6 ∷ []
batch_before-4 = refl

pub batch_before-5 : batch_before 3 (9 ∷ 8 ∷ 7 ∷ 6 ∷ 5 ∷ []) 5 ≡ 6 ∷ 5 ∷ []
batch_before-5 = refl

pub batch_before-3 : batch_before 3 (9 ∷ 8 ∷ 7 ∷ 6 ∷ 5 ∷ []) 3 ≡ []
batch_before-3 = refl

-- an item that isn't below n, though it has the least key
pub not_beyond : is_grown 1 (slice_index (5 ∷ 3 ∷ [])) (are_adjacent []) 8 (1 ∷ []) ≡ false
unfolding is_next is_grown
not_beyond = refl

-- an order of more items than there are
pub not_longer : is_grown 1 (λ _. 0) (are_adjacent []) 8 (0 ∷ 0 ∷ []) ≡ false
unfolding is_next is_grown
not_longer = refl

-- the least item, placed a second time
pub not_again : is_grown 2 (slice_index (3 ∷ 5 ∷ [])) (are_adjacent []) 8 (0 ∷ 0 ∷ []) ≡ false
unfolding is_next is_grown
not_again = refl
