-- A triangle whose corners are all on one side of a picture's centres draws nothing.
use Rattle.std.specs.Prelude.{◌≡◌, ◌<◌, ◌+◌, ◌*◌, ◌/◌, ◌%◌, ℕ, zero, suc, pos, Bool, false, not, [], map, filter, refl}
use Rattle.std.proofs.Common.{inl, inr, ap, ◌∙◌, zero-add, arith}
use Rattle.std.proofs.Math.Nat.{mul_comm, div-lt_iff_lt-mul}
use Rattle.std.specs.List.{range_with_len}
use Rattle.std.specs.Ordering.{int_eq}
use Rattle.geom_core.specs.declared.screens.Spot.{Spot}
use Rattle.geom_core.specs.declared.screens.Size.{Size}
use Rattle.geom_core.specs.Coverage.{centre_x, centre_y, covers, word_at, words_of}
use Rattle.geom_core.specs.Winding.{winding}
use Rattle.geom_core.proofs.WindingLaws.{winding-above, winding-below, winding-left, winding-right}
use Rattle.view_camera.specs.Internal.Projections.{AreOffOneSide}

filter-range_none : (p : ℕ → Bool) (a n : ℕ) → ((k : ℕ) → k < n → p (a + k) ≡ false) →
    filter p (range_with_len a n) ≡ []
filter-range_none p a zero none = refl
filter-range_none p a (suc n) none =
    let here : p a ≡ false = ap p (omega arith) ∙ none 0 (omega arith) in
    rw here (filter-range_none p (a + 1) n (λ k h. ap p (omega arith) ∙ none (k + 1) (omega arith)))

not_covered : (a b c : Spot) (size : Size) (pixel : ℕ) →
    winding a b c (centre_x size pixel) (centre_y size pixel) ≡ pos 0 → covers a b c size pixel ≡ false
unfolding covers
not_covered a b c size pixel e = ap (λ w. not (int_eq w (pos 0))) e

words_of-none : (a b c : Spot) (cluster place : ℕ) (size : Size) →
    ((k : ℕ) → k < size.width * size.height → winding a b c (centre_x size k) (centre_y size k) ≡ pos 0) →
    words_of a b c cluster place size ≡ []
words_of-none a b c cluster place size none =
    ap (map (λ (pixel : ℕ). (pixel, word_at a b c cluster place size pixel)))
    (filter-range_none (covers a b c size) 0 (size.width * size.height)
    (λ k h. ap (covers a b c size) (zero-add k) ∙ not_covered a b c size k (none k h)))

pub words_of-off_columns : (a b c : Spot) (cluster place : ℕ) (size : Size) → 0 < size.width →
    AreOffOneSide size.width a.x b.x c.x → words_of a b c cluster place size ≡ []
words_of-off_columns a b c cluster place size wide (inl before) =
    words_of-none a b c cluster place size (λ k h.
    let column : k % size.width < size.width = omega arith in
    winding-right a b c (centre_x size k) (centre_y size k) (before.0 _ column) (before.1 _ column) (before.2 _ column))
words_of-off_columns a b c cluster place size wide (inr behind) =
    words_of-none a b c cluster place size (λ k h.
    let column : k % size.width < size.width = omega arith in
    winding-left a b c (centre_x size k) (centre_y size k) (behind.0 _ column) (behind.1 _ column) (behind.2 _ column))

row_of_pixel : (size : Size) (k : ℕ) → 0 < size.width → k < size.width * size.height → k / size.width < size.height
row_of_pixel size k wide h =
    let below : k < size.height * size.width = omega (arith, mul_comm size.width size.height) in
    (div-lt_iff_lt-mul wide).1 below

pub words_of-off_rows : (a b c : Spot) (cluster place : ℕ) (size : Size) → 0 < size.width →
    AreOffOneSide size.height a.y b.y c.y → words_of a b c cluster place size ≡ []
words_of-off_rows a b c cluster place size wide (inl before) =
    words_of-none a b c cluster place size (λ k h.
    let row = row_of_pixel size k wide h in
    winding-below a b c (centre_x size k) (centre_y size k) (before.0 _ row) (before.1 _ row) (before.2 _ row))
words_of-off_rows a b c cluster place size wide (inr behind) =
    words_of-none a b c cluster place size (λ k h.
    let row = row_of_pixel size k wide h in
    winding-above a b c (centre_x size k) (centre_y size k) (behind.0 _ row) (behind.1 _ row) (behind.2 _ row))
