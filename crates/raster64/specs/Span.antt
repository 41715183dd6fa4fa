-- The points of a height that a triangle winds round: a half-open span between two crossing columns.
use Rattle.std.specs.Prelude.{Bool, true, false, ◌&&◌, ℤ, ◌-ℤ◌, ◌*ℤ◌, int_lt, int_le}
use Rattle.std.specs.Int.{int_min, int_max}
use Rattle.geom_core.specs.declared.screens.Spot.{Spot}
use Rattle.geom_core.specs.Floor.{floor_div}

-- where the edge from lo to hi, which has the greater y, crosses the height y, rounded up
unfoldable pub crossing_column : Spot → Spot → ℤ → ℤ
crossing_column lo hi y = lo.x -ℤ floor_div ((lo.x -ℤ hi.x) *ℤ (y -ℤ lo.y)) (hi.y -ℤ lo.y)

-- from the lesser of two columns on and before the greater
unfoldable pub is_between : ℤ → ℤ → ℤ → Bool
is_between p q x = int_le (int_min p q) x && int_lt x (int_max p q)

-- The span at a height, by whether the height has reached a, b and c: between the two edges from a corner that it
-- has reached to one that it has not.
unfoldable pub is_in_span_by : Bool → Bool → Bool → Spot → Spot → Spot → ℤ → ℤ → Bool
is_in_span_by true false false a b c x y = is_between (crossing_column a b y) (crossing_column a c y) x
is_in_span_by false true false a b c x y = is_between (crossing_column b c y) (crossing_column b a y) x
is_in_span_by false false true a b c x y = is_between (crossing_column c a y) (crossing_column c b y) x
is_in_span_by false true true a b c x y = is_between (crossing_column b a y) (crossing_column c a y) x
is_in_span_by true false true a b c x y = is_between (crossing_column a b y) (crossing_column c b y) x
is_in_span_by true true false a b c x y = is_between (crossing_column a c y) (crossing_column b c y) x
is_in_span_by true true true a b c x y = false
is_in_span_by false false false a b c x y = false

-- the point lies in the triangle's span at its height
unfoldable pub is_in_span : Spot → Spot → Spot → ℤ → ℤ → Bool
is_in_span a b c x y = is_in_span_by (int_le a.y y) (int_le b.y y) (int_le c.y y) a b c x y
