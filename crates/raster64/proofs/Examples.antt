-- Worked examples of the definitions, computed by the checker.
use Rattle.std.proofs.Common.{◌≡◌, ℕ, ℤ, pos, negsuc, ◌<ℤ◌, int_lt, true, false, inl, inr, ⊎_elim, refl, arith}
use Rattle.std.proofs.lemmas.Int.{ints}
use Rattle.geom_core.specs.declared.screens.Size.{Size}
use Rattle.geom_core.specs.declared.screens.Spot.{Spot}
use Rattle.geom_core.specs.Winding.{edge_function}
use Rattle.raster64.specs.declared.raster.ScreenTriangle.{ScreenTriangle}
use Rattle.raster64.specs.Internal.Centres.{centre}
use Rattle.raster64.specs.Internal.Numerators.{by_depths, growth}
use Rattle.raster64.specs.Internal.Raster.{exchanged}
use Rattle.raster64.specs.Sides.{AreOpposite}
use Rattle.raster64.specs.Span.{crossing_column, is_between, is_in_span_by, is_in_span}

abbrev spot : ℕ → ℕ → Spot
spot x y = record { x = pos x; y = pos y; z = 1 }

-- the line crosses the height at 10 / 3, and a whole column is not rounded
pub column_rounded_up : crossing_column (spot 0 0) (spot 10 3) (pos 1) ≡ pos 4
unfolding crossing_column
column_rounded_up = refl

pub column_of_the_lesser_end : crossing_column (spot 7 0) (spot 10 3) (pos 0) ≡ pos 7
unfolding crossing_column
column_of_the_lesser_end = refl

-- towards lesser x, at 20 / 3, and beyond 0, at -10 / 3
pub falling_column_rounded_up : crossing_column (spot 10 0) (spot 0 3) (pos 1) ≡ pos 7
unfolding crossing_column
falling_column_rounded_up = refl

pub negative_column_rounded_up : crossing_column (spot 0 0) (record { x = negsuc 9; y = pos 3; z = 1 }) (pos 1)
    ≡ negsuc 2
unfolding crossing_column
negative_column_rounded_up = refl

-- the lesser column is in the span, the greater one is not, whichever comes first
pub lesser_column_in : is_between (pos 7) (pos 3) (pos 3) ≡ true
unfolding is_between
lesser_column_in = refl

pub greater_column_out : is_between (pos 7) (pos 3) (pos 7) ≡ false
unfolding is_between
greater_column_out = refl

pub before_both_out : is_between (pos 3) (pos 7) (pos 2) ≡ false
unfolding is_between
before_both_out = refl

pub empty_between_equal : is_between (pos 3) (pos 3) (pos 3) ≡ false
unfolding is_between
empty_between_equal = refl

-- The triangle (0, 0), (12, 3), (3, 6): at height 2 between 1 and 8, at height 4 between 2 and 9. In each order of
-- its corners the height has reached others, so all six spans occur.
pub upper_from : is_in_span (spot 0 0) (spot 12 3) (spot 3 6) (pos 1) (pos 2) ≡ true
unfolding is_in_span is_in_span_by is_between crossing_column
upper_from = refl

pub upper_before : is_in_span (spot 0 0) (spot 12 3) (spot 3 6) (pos 0) (pos 2) ≡ false
unfolding is_in_span is_in_span_by is_between crossing_column
upper_before = refl

pub upper_last : is_in_span (spot 12 3) (spot 3 6) (spot 0 0) (pos 7) (pos 2) ≡ true
unfolding is_in_span is_in_span_by is_between crossing_column
upper_last = refl

pub upper_to : is_in_span (spot 3 6) (spot 0 0) (spot 12 3) (pos 8) (pos 2) ≡ false
unfolding is_in_span is_in_span_by is_between crossing_column
upper_to = refl

pub lower_from : is_in_span (spot 0 0) (spot 12 3) (spot 3 6) (pos 2) (pos 4) ≡ true
unfolding is_in_span is_in_span_by is_between crossing_column
lower_from = refl

pub lower_last : is_in_span (spot 12 3) (spot 3 6) (spot 0 0) (pos 8) (pos 4) ≡ true
unfolding is_in_span is_in_span_by is_between crossing_column
lower_last = refl

pub lower_to : is_in_span (spot 3 6) (spot 0 0) (spot 12 3) (pos 9) (pos 4) ≡ false
unfolding is_in_span is_in_span_by is_between crossing_column
lower_to = refl

-- a height that no edge spans: above all corners, and level with the last
pub none_above : is_in_span (spot 0 1) (spot 12 3) (spot 3 6) (pos 0) (pos 0) ≡ false
unfolding is_in_span is_in_span_by
none_above = refl

pub none_at_the_greatest : is_in_span (spot 0 0) (spot 12 3) (spot 3 6) (pos 3) (pos 6) ≡ false
unfolding is_in_span is_in_span_by
none_at_the_greatest = refl

-- the first centre is half a pixel from the edge, the next one a whole pixel further
pub first_centre : centre 0 ≡ pos 8
first_centre = refl

pub third_centre : centre 2 ≡ pos 40
third_centre = refl

-- ---- depths along a row

abbrev deep : ℕ → ℕ → ℕ → Spot
deep x y z = record { x = pos x; y = pos y; z = z }

-- 2 * 7 - 3 * 11 + 5 * 13
pub weighted_by_depths : by_depths (deep 0 0 7) (deep 0 0 11) (deep 0 0 13) (pos 2) (negsuc 2) (pos 5) ≡ pos 46
weighted_by_depths = refl

-- The legs of the triangle are one pixel long, so its divisor is 16 * 16. A pixel to the right the depth grows
-- from 1 to 9, by 8 divisors.
pub growth_to_the_right : growth (deep 0 0 1) (deep 16 0 9) (deep 0 16 1) ≡ pos 2048
unfolding growth
growth_to_the_right = refl

-- the depth falls from 9 to 1
pub growth_that_falls : growth (deep 0 0 9) (deep 16 0 1) (deep 0 16 9) ≡ negsuc 2047
unfolding growth
growth_that_falls = refl

-- a depth that changes down the picture alone, and one depth for all corners
pub no_growth_downwards : growth (deep 0 0 1) (deep 16 0 1) (deep 0 16 9) ≡ pos 0
unfolding growth
no_growth_downwards = refl

pub no_growth_of_one_depth : growth (deep 3 1 7) (deep 50 20 7) (deep 9 60 7) ≡ pos 0
unfolding growth
no_growth_of_one_depth = refl

-- ---- the corners exchanged

abbrev narrow : Size
narrow = record { width = 4; height = 3 }

abbrev by_corners : Spot → Spot → Spot → ScreenTriangle
by_corners a b c = record { a = a; b = b; c = c; cluster = 5; tri = 7; size = narrow }

pub second_for_third : exchanged (by_corners (spot 0 0) (spot 12 3) (spot 3 6)) ≡
    by_corners (spot 0 0) (spot 3 6) (spot 12 3)
second_for_third = refl

pub exchanged_twice : exchanged (exchanged (by_corners (spot 0 0) (spot 12 3) (spot 3 6))) ≡
    by_corners (spot 0 0) (spot 12 3) (spot 3 6)
exchanged_twice = refl

-- ---- sides of the line through (0, 0) and (16, 4), on which (8, 2) and (32, 8) lie

less : (p q : ℤ) → int_lt p q ≡ true → p <ℤ q
less p q e = omega (arith, ints)

not_less : (p q : ℤ) → int_lt p q ≡ false → p <ℤ q → ⊥
not_less p q e h = omega (arith, ints)

abbrev OnBothSides : Spot → Spot → Type 0
OnBothSides c d = AreOpposite (spot 0 0) (spot 16 4) c d

pub below_and_above : OnBothSides (spot 8 3) (spot 8 1)
unfolding edge_function
below_and_above = inl (less _ _ refl, less _ _ refl)

pub above_and_below : OnBothSides (spot 8 1) (spot 8 3)
unfolding edge_function
above_and_below = inr (less _ _ refl, less _ _ refl)

-- beyond the ends of the edge its line still has two sides
pub beyond_the_edge : OnBothSides (spot 32 9) (spot 32 7)
unfolding edge_function
beyond_the_edge = inl (less _ _ refl, less _ _ refl)

pub both_below : OnBothSides (spot 8 3) (spot 0 1) → ⊥
unfolding edge_function
both_below = ⊎_elim (λ h. not_less _ _ refl h.1) (λ h. not_less _ _ refl h.0)

pub on_the_line : OnBothSides (spot 8 2) (spot 8 1) → ⊥
unfolding edge_function
on_the_line = ⊎_elim (λ h. not_less _ _ refl h.0) (λ h. not_less _ _ refl h.0)
