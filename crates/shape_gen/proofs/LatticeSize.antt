-- How many places the lattice of the greatest box has: 6 n^2 + 2, of which the two layers at the ends have
-- (n + 1)^2 each and every other layer 4 n.
use Rattle.std.proofs.Common.{◌≡◌, ℕ, zero, suc, ◌+◌, ◌-◌, ◌*◌, ◌<◌, ◌≤◌, Bool, false, List, [], ◌∷◌, ◌++◌, length}
use Rattle.std.proofs.Common.{map, filter, flat_map, refl, ap, ◌∙◌, arith}
use Rattle.std.specs.List.{range_with_len}
use Rattle.std.proofs.lemmas.Bool.Decides.{nat_tests}
use Rattle.std.proofs.lemmas.List.{length-append}
use Rattle.std.proofs.lemmas.List.Elements.{filter-append}
use Rattle.std.proofs.lemmas.List.Sums.{length-filter, count_by-le-length}
use Rattle.shape_gen.specs.Lattice.{IsBoxSize, place, is_on_surface, up_to, row_places, layer_places, lattice}
use Rattle.shape_gen.proofs.LatticeLaws.{length-row, length-layer}
use Rattle.shape_gen.proofs.Ranges.{flat_map_more}

-- ---- lists of each number from 0 to n, few for those between the ends

length-between : {A : Type 0} (f : ℕ → List A) (few a c : ℕ) → ((k : ℕ) → a ≤ k → k < a + c → length (f k) ≤ few) →
    length (flat_map f (range_with_len a c)) ≤ c * few
length-between f few a zero each = omega arith
length-between f few a (suc c) each =
    omega (
      arith,
      length-append (f a) (flat_map f (range_with_len (a + 1) c)),
      each a (omega arith) (omega arith),
      length-between f few (a + 1) c (λ k least most. each k (omega arith) (omega arith)),
    )

length-ends : {A : Type 0} (f : ℕ → List A) (most few n : ℕ) → 1 ≤ n → ((k : ℕ) → length (f k) ≤ most) →
    ((k : ℕ) → 1 ≤ k → k < n → length (f k) ≤ few) → length (flat_map f (up_to n)) ≤ 2 * most + (n - 1) * few
length-ends f most few zero least each between = absurd (omega arith)
length-ends f most few (suc r) least each between =
    let start : length (flat_map f (range_with_len 0 (suc r))) ≡
    length (f 0) + length (flat_map f (range_with_len 1 r)) =
    length-append (f 0) (flat_map f (range_with_len 1 r)) in
    let inner : suc r - 1 ≡ r = omega arith in
    omega (
      arith,
      ap (λ k. k * few) inner,
      ap length (flat_map_more f (suc r)),
      length-append (flat_map f (range_with_len 0 (suc r))) (f (suc r)),
      start,
      each 0,
      each (suc r),
      length-between f few 1 r (λ k low high. between k low (omega arith)),
    )

-- ---- what passes a test in each list

filter-map : {A : Type 0} (p : A → Bool) (f : ℕ → A) (ks : List ℕ) →
    filter p (map f ks) ≡ flat_map (λ k. filter p (f k ∷ [])) ks
filter-map p f [] = refl
filter-map p f (k ∷ ks) =
    filter-append p (f k ∷ []) (map f ks) ∙ ap (λ l. filter p (f k ∷ []) ++ l) (filter-map p f ks)

filter-flat_map : {A : Type 0} (p : A → Bool) (f : ℕ → List A) (ks : List ℕ) →
    filter p (flat_map f ks) ≡ flat_map (λ k. filter p (f k)) ks
filter-flat_map p f [] = refl
filter-flat_map p f (k ∷ ks) =
    filter-append p (f k) (flat_map f ks) ∙ ap (λ l. filter p (f k) ++ l) (filter-flat_map p f ks)

length-filter-le : {A : Type 0} (p : A → Bool) (xs : List A) → length (filter p xs) ≤ length xs
length-filter-le p xs = omega (arith, length-filter p xs, count_by-le-length p xs)

-- ---- rows, layers and the lattice

inside : (n i j k : ℕ) → 1 ≤ i → i < n → 1 ≤ j → j < n → 1 ≤ k → k < n → is_on_surface n (place i j k) ≡ false
unfolding is_on_surface
inside n i j k low_i high_i low_j high_j low_k high_k = grind (arith, nat_tests)

-- a row between the ends has its two ends
length-inner_row : (n i j : ℕ) → 1 ≤ i → i < n → 1 ≤ j → j < n →
    length (filter (is_on_surface n) (row_places n i j)) ≤ 2
length-inner_row n i j low_i high_i low_j high_j =
    omega (
      arith,
      ap length (filter-map (is_on_surface n) (place i j) (up_to n)),
      length-ends (λ k. filter (is_on_surface n) (place i j k ∷ [])) 1 0 n (omega arith)
          (λ k. length-filter-le (is_on_surface n) (place i j k ∷ []))
          (λ k low_k high_k. none k (inside n i j k low_i high_i low_j high_j low_k high_k)),
    )
  where
    none : (k : ℕ) → is_on_surface n (place i j k) ≡ false → length (filter (is_on_surface n) (place i j k ∷ [])) ≤ 0
    none k e = rw e (omega arith)

length-inner_layer : (n i : ℕ) → IsBoxSize n → 1 ≤ i → i < n →
    length (filter (is_on_surface n) (layer_places n i)) ≤ 1180
length-inner_layer n i size low_i high_i =
    omega (
      arith,
      size.most,
      ap length (filter-flat_map (is_on_surface n) (row_places n i) (up_to n)),
      length-ends (λ j. filter (is_on_surface n) (row_places n i j)) 296 2 n (omega arith) row
          (λ j low_j high_j. length-inner_row n i j low_i high_i low_j high_j),
    )
  where
    row : (j : ℕ) → length (filter (is_on_surface n) (row_places n i j)) ≤ 296
    row j = omega (arith, length-filter-le (is_on_surface n) (row_places n i j), length-row n i j size)

pub length-lattice : (n : ℕ) → IsBoxSize n → length (lattice n) ≤ 522152
length-lattice n size =
    omega (
      arith,
      size.most,
      ap length (filter-flat_map (is_on_surface n) (layer_places n) (up_to n)),
      length-ends (λ i. filter (is_on_surface n) (layer_places n i)) 87616 1180 n size.least layer
          (λ i low_i high_i. length-inner_layer n i size low_i high_i),
    )
  where
    layer : (i : ℕ) → length (filter (is_on_surface n) (layer_places n i)) ≤ 87616
    layer i = omega (arith, length-filter-le (is_on_surface n) (layer_places n i), length-layer n i size)
