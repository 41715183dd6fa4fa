-- The lattice: it ascends, and its places are those of a box.
use Rattle.std.proofs.Common.{◌≡◌, ℕ, ◌+◌, ◌<◌, ◌≤◌, length, All, AllPairs, arith}
use Rattle.std.specs.List.{range_with_len}
use Rattle.std.specs.declared.cmp.Ordering.TheVariants.{Less}
use Rattle.std.proofs.lemmas.Bool.Decides.{nat_tests}
use Rattle.std.proofs.lemmas.List.{length-map}
use Rattle.std.proofs.lemmas.List.Elements.{All-map, All-filter}
use Rattle.std.proofs.lemmas.List.FromFn.{length-range_with_len}
use Rattle.std.proofs.lemmas.List.Kept.{AllPairs-filter}
use Rattle.shape_gen.specs.declared.lattice.Place.{Place}
use Rattle.shape_gen.specs.Lattice.{IsBoxSize, IsPlace, place, is_on_surface, row_places, layer_places, cube_places}
use Rattle.shape_gen.specs.Lattice.{lattice}
use Rattle.shape_gen.specs.Order.{place_cmp, IsAscending}
use Rattle.shape_gen.proofs.RangeFacts.{All-range, All-flat_map, length-flat_map_most, AllPairs-range}
use Rattle.shape_gen.proofs.RangeFacts.{AllPairs-flat_map}

abbrev Before : Place → Place → Type 0
Before p q = place_cmp p q ≡ Less

before_k : (i j k m : ℕ) → k < m → Before (place i j k) (place i j m)
before_k i j k m below = grind (arith, nat_tests)

before_j : (i j k l m : ℕ) → j < l → Before (place i j k) (place i l m)
before_j i j k l m below = grind (arith, nat_tests)

before_i : (i j k h l m : ℕ) → i < h → Before (place i j k) (place h l m)
before_i i j k h l m below = grind (arith, nat_tests)

-- what holds of each place with its first, or its first two, numbers
All-row : (P : Place → Type 0) (n i j : ℕ) → ((k : ℕ) → k ≤ n → P (place i j k)) → All P (row_places n i j)
All-row P n i j each =
    All-map P (place i j) (range_with_len 0 (n + 1))
    (All-range (λ k. P (place i j k)) 0 (n + 1) (λ k least most. each k (omega arith)))

All-layer : (P : Place → Type 0) (n i : ℕ) → ((j k : ℕ) → j ≤ n → k ≤ n → P (place i j k)) → All P (layer_places n i)
All-layer P n i each =
    All-flat_map P (row_places n i) (range_with_len 0 (n + 1))
    (All-range (λ j. All P (row_places n i j)) 0 (n + 1)
    (λ j least most. All-row P n i j (λ k. each j k (omega arith))))

All-cube : (P : Place → Type 0) (n : ℕ) → ((i j k : ℕ) → i ≤ n → j ≤ n → k ≤ n → P (place i j k)) →
    All P (cube_places n)
All-cube P n each =
    All-flat_map P (layer_places n) (range_with_len 0 (n + 1))
    (All-range (λ i. All P (layer_places n i)) 0 (n + 1)
    (λ i least most. All-layer P n i (λ j k. each i j k (omega arith))))

rows_ascend : (n i j : ℕ) → AllPairs Before (row_places n i j)
rows_ascend n i j = AllPairs-range Before (place i j) (before_k i j) 0 (n + 1)

layers_ascend : (n i : ℕ) → AllPairs Before (layer_places n i)
layers_ascend n i =
    AllPairs-flat_map Before (row_places n i) (rows_ascend n i)
    (λ j l below. All-row (λ p. All (Before p) (row_places n i l)) n i j
    (λ k most. All-row (Before (place i j k)) n i l (λ m bound. before_j i j k l m below))) 0 (n + 1)

cube_ascends : (n : ℕ) → AllPairs Before (cube_places n)
cube_ascends n =
    AllPairs-flat_map Before (layer_places n) (layers_ascend n)
    (λ i h below. All-layer (λ p. All (Before p) (layer_places n h)) n i
    (λ j k a b. All-layer (Before (place i j k)) n h (λ l m c d. before_i i j k h l m below))) 0 (n + 1)

pub lattice-ascending : (n : ℕ) → IsAscending (lattice n)
lattice-ascending n = AllPairs-filter Before (is_on_surface n) (cube_places n) (cube_ascends n)

pub lattice-places : (n : ℕ) → IsBoxSize n → All IsPlace (lattice n)
lattice-places n size =
    All-filter (is_on_surface n) IsPlace (cube_places n)
    (All-cube IsPlace n (λ i j k a b c. record { i = omega arith; j = omega arith; k = omega arith }))

-- at most 296 places a row, and 296 rows a layer
pub length-row : (n i j : ℕ) → IsBoxSize n → length (row_places n i j) ≤ 296
length-row n i j size =
    omega (arith, length-map (range_with_len 0 (n + 1)) (place i j), length-range_with_len 0 (n + 1))

pub length-layer : (n i : ℕ) → IsBoxSize n → length (layer_places n i) ≤ 87616
length-layer n i size =
    omega (
      arith,
      length-flat_map_most (row_places n i) 296 (λ j. length-row n i j size) (range_with_len 0 (n + 1)),
      length-range_with_len 0 (n + 1),
    )
