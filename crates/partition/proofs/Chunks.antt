-- The batches of an order: how long each is, and where an item of one is.
use Rattle.std.proofs.Common.{◌≡◌, ◌<◌, ◌≤◌, ◌+◌, ◌-◌, ◌*◌, ◌/◌, ◌%◌, inl, inr, ℕ, Bool, min, List, [], length, get_or}
use Rattle.std.proofs.Common.{drop, Contains, sym, ap, ◌∙◌, zero-add, arith}
use Rattle.std.specs.Fork.{slice_chunk}
use Rattle.std.specs.List.{range_with_len}
use Rattle.std.proofs.lemmas.List.{get_or_default, get_or-drop, get_or-map, get_or-take, length-drop, length-map}
use Rattle.std.proofs.lemmas.List.{length-take}
use Rattle.std.proofs.lemmas.Nat.{div-add-mod', div-mul-add}
use Rattle.std.proofs.Math.Nat.{mul-le-mul_right}
use Rattle.std.proofs.lemmas.Bool.{cases_lt}
use Rattle.partition.specs.Growing.{batch_count, batches_of}
use Rattle.partition.specs.OneBatch.{IsInOneBatch}
use Rattle.partition.proofs.Determined.{IsGrown}
use Rattle.partition.proofs.Members.{is_in-from, is_in-true}
use Rattle.partition.proofs.OnePlace.{item_placed, place_is_one}
use Rattle.partition.proofs.SharedEdgeLists.{length-range, get_or-range}

-- how many batches there are: all but the last are full, and the last has an item
count_covers : (size total : ℕ) → 0 < size → total ≤ (total + (size - 1)) / size * size
count_covers size total some = omega (arith, div-add-mod' (total + (size - 1)) size)

pub batch_begins : (size total k : ℕ) → 0 < size → k < (total + (size - 1)) / size → k * size < total
batch_begins size total k some h =
    let whole = div-add-mod' (total + (size - 1)) size in
    let last : (k + 1) * size ≤ (total + (size - 1)) / size * size = mul-le-mul_right size (omega arith) in
    omega arith

batch_there : (size total k : ℕ) → 0 < size → k * size < total → k < (total + (size - 1)) / size
batch_there size total k some h =
    elim (cases_lt k ((total + (size - 1)) / size)) [
      | inl below ↦ below
      | inr past ↦
          let most : (total + (size - 1)) / size * size ≤ k * size = mul-le-mul_right size past in
          absurd (omega (arith, count_covers size total some))
    ]

pub length-batches : (size : ℕ) (order : List ℕ) → length (batches_of size order) ≡ batch_count size order
unfolding batches_of
length-batches size order =
    length-map (range_with_len 0 (batch_count size order)) (slice_chunk order size) ∙
    length-range 0 (batch_count size order)

pub get_or-batches : (size : ℕ) (order : List ℕ) (k : ℕ) → k < batch_count size order →
    get_or (batches_of size order) k [] ≡ slice_chunk order size k
unfolding batches_of
get_or-batches size order k h =
    get_or-map (slice_chunk order size) (range_with_len 0 (batch_count size order)) k 0 []
    (omega (arith, length-range 0 (batch_count size order)))
    ∙ ap (slice_chunk order size) (get_or-range 0 (batch_count size order) k 0 h ∙ zero-add k)

-- how long a batch is
length-chunk : (size : ℕ) (order : List ℕ) (k : ℕ) →
    length (slice_chunk order size k) ≡ min size (length order - k * size)
length-chunk size order k = length-take size (drop (k * size) order) ∙ ap (min size) (length-drop (k * size) order)

pub batch_full : (size : ℕ) (order : List ℕ) → 0 < size → (k : ℕ) → k + 1 < length (batches_of size order) →
    length (get_or (batches_of size order) k []) ≡ size
batch_full size order some k h =
    let there : k + 1 < batch_count size order = omega (arith, length-batches size order) in
    let begins : (k + 1) * size < length order = batch_begins size (length order) (k + 1) some there in
    ap length (get_or-batches size order k (omega arith)) ∙ length-chunk size order k ∙ omega arith

pub batch_some : (size : ℕ) (order : List ℕ) → 0 < size → (k : ℕ) → k < length (batches_of size order) →
    0 < length (get_or (batches_of size order) k [])
batch_some size order some k h =
    let there : k < batch_count size order = omega (arith, length-batches size order) in
    let begins : k * size < length order = batch_begins size (length order) k some there in
    rw (get_or-batches size order k there, length-chunk size order k) (omega arith)

pub batch_most : (size : ℕ) (order : List ℕ) → 0 < size → (k : ℕ) → k < length (batches_of size order) →
    length (get_or (batches_of size order) k []) ≤ size
batch_most size order some k h =
    let there : k < batch_count size order = omega (arith, length-batches size order) in
    rw (get_or-batches size order k there, length-chunk size order k) (omega arith)

-- an item of a batch, by its place
get_or-chunk : (size : ℕ) (order : List ℕ) (k m d : ℕ) → m < size →
    get_or (slice_chunk order size k) m d ≡ get_or order (k * size + m) d
get_or-chunk size order k m d h = get_or-take size (drop (k * size) order) m d h ∙ get_or-drop (k * size) order m d

-- each item is in the batch of its place alone
pub in_one_batch : (n : ℕ) (key : ℕ → ℕ) (near : ℕ → ℕ → Bool) (size : ℕ) (order : List ℕ) → 0 < size →
    IsGrown n key near size order →
    (item : ℕ) → item < n → IsInOneBatch (batches_of size order) item
in_one_batch n key near size order some is item h =
    let at : Contains order item = item_placed n key near size order is item h in
    let place : ℕ = at.0 in
    let batch : ℕ = place / size in
    let split : batch * size + place % size ≡ place = div-add-mod' place size in
    let inside : place % size < size = omega arith in
    let there : batch < batch_count size order = batch_there size (length order) batch some (omega (arith, at.1)) in
    let chunk : List ℕ = slice_chunk order size batch in
    let within : place % size < length chunk = omega (arith, length-chunk size order batch, at.1) in
    let found : get_or chunk (place % size) item ≡ item =
    get_or-chunk size order batch (place % size) item inside ∙ ap (λ p. get_or order p item) split ∙ at.2 in
    record {
      batch = batch;
      there = omega (arith, length-batches size order);
      holds = rw (get_or-batches size order batch there) (is_in-from chunk item (place % size, within, found));
      only = λ other below holds.
          let other_there : other < batch_count size order = omega (arith, length-batches size order) in
          let other_chunk : List ℕ = slice_chunk order size other in
          let among : Contains other_chunk item =
          is_in-true other_chunk item (rw (get_or-batches size order other other_there) at holds) in
          let short : among.0 < size = omega (arith, length-chunk size order other, among.1) in
          let before : other * size + among.0 < length order = omega (arith, length-chunk size order other, among.1) in
          let same : get_or order (other * size + among.0) item ≡ item =
          sym (get_or-chunk size order other among.0 item short) ∙ among.2 in
          let here : get_or order (other * size + among.0) 0 ≡ get_or order place 0 =
          get_or_default order (other * size + among.0) 0 item before ∙ same ∙ sym at.2 ∙
          get_or_default order place item 0 at.1 in
          let one : other * size + among.0 ≡ place =
          place_is_one n key near size order is (other * size + among.0) place (omega (arith, is.whole))
          (omega (arith, is.whole, at.1)) here in
          sym (div-mul-add other size among.0 short) ∙ ap (λ p. p / size) one;
    }
