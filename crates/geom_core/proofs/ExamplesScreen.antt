-- Worked examples of winding, depth and coverage, computed by the checker.
use Rattle.std.specs.Prelude.{◌≡◌, ℕ, ℤ, pos, neg_ℤ, true, false, [], ◌∷◌, refl}
use Rattle.geom_core.specs.declared.screens.Spot.{Spot}
use Rattle.geom_core.specs.declared.screens.Size.{Size}
use Rattle.geom_core.specs.Winding.{edge_function, passes, crossing, winding}
use Rattle.geom_core.specs.Depth.{divisor, weighted, held, depth}
use Rattle.geom_core.specs.Coverage.{pixels_of, centre_x, centre_y, covers, covered, word_of, word_at, words_of}

-- the number below 0
abbrev minus : ℕ → ℤ
minus n = neg_ℤ (pos n)

abbrev spot : ℤ → ℤ → ℕ → Spot
spot x y z = record { x = x; y = y; z = z }

-- from the origin down to the right; halfway down it is 2 from the left
abbrev top : Spot
top = spot (pos 0) (pos 0) 1

abbrev right : Spot
right = spot (pos 4) (pos 8) 1

abbrev left : Spot
left = spot (minus 4) (pos 8) 1

-- 0 on the line, and of opposite signs on its two sides
pub edge_function-example : edge_function (spot (pos 1) (pos 2) 9) (spot (pos 4) (pos 7) 5) (pos 3) (pos 3) ≡ minus 7
unfolding edge_function
edge_function-example = refl

pub edge_function-left : edge_function top right (pos 1) (pos 4) ≡ pos 8
unfolding edge_function
edge_function-left = refl

pub edge_function-on : edge_function top right (pos 2) (pos 4) ≡ pos 0
unfolding edge_function
edge_function-on = refl

pub edge_function-right : edge_function top right (pos 3) (pos 4) ≡ minus 8
unfolding edge_function
edge_function-right = refl

-- an edge downwards passes points to its left: its upper end's height counts, its lower end's does not
pub passes-left : passes top right (pos 1) (pos 4) ≡ true
unfolding passes edge_function
passes-left = refl

pub passes-on : passes top right (pos 2) (pos 4) ≡ false
unfolding passes edge_function
passes-on = refl

pub passes-right : passes top right (pos 3) (pos 4) ≡ false
unfolding passes edge_function
passes-right = refl

pub passes-at_upper_end : passes top right (minus 1) (pos 0) ≡ true
unfolding passes edge_function
passes-at_upper_end = refl

pub passes-at_lower_end : passes top right (pos 1) (pos 8) ≡ false
unfolding passes edge_function
passes-at_lower_end = refl

pub passes-above : passes top right (minus 9) (minus 1) ≡ false
unfolding passes edge_function
passes-above = refl

pub passes-upwards : passes right top (pos 1) (pos 4) ≡ false
unfolding passes edge_function
passes-upwards = refl

-- down past a point, up past it, and beside it
pub crossing-down : crossing top right (pos 1) (pos 4) ≡ pos 1
unfolding crossing passes edge_function
crossing-down = refl

pub crossing-up : crossing right top (pos 1) (pos 4) ≡ minus 1
unfolding crossing passes edge_function
crossing-up = refl

pub crossing-beside : crossing top right (pos 3) (pos 4) ≡ pos 0
unfolding crossing passes edge_function
crossing-beside = refl

-- round a point both ways, and not round points on each side
pub winding-round : winding top right left (pos 0) (pos 4) ≡ pos 1
unfolding winding crossing passes edge_function
winding-round = refl

pub winding-turned : winding top left right (pos 0) (pos 4) ≡ minus 1
unfolding winding crossing passes edge_function
winding-turned = refl

pub winding-begun_later : winding right left top (pos 0) (pos 4) ≡ pos 1
unfolding winding crossing passes edge_function
winding-begun_later = refl

pub winding-to_the_left : winding top right left (minus 5) (pos 4) ≡ pos 0
unfolding winding crossing passes edge_function
winding-to_the_left = refl

pub winding-to_the_right : winding top right left (pos 5) (pos 4) ≡ pos 0
unfolding winding crossing passes edge_function
winding-to_the_right = refl

pub winding-below : winding top right left (pos 0) (pos 8) ≡ pos 0
unfolding winding crossing passes edge_function
winding-below = refl

-- legs of 4 and 3, so the area is 6; each corner has a depth of its own
abbrev a : Spot
a = spot (pos 0) (pos 0) 2

abbrev b : Spot
b = spot (pos 4) (pos 0) 3

abbrev c : Spot
c = spot (pos 0) (pos 3) 5

-- twice the area, with the sign of the winding, at every point
pub divisor-within : divisor a b c (pos 1) (pos 1) ≡ pos 12
unfolding divisor edge_function
divisor-within = refl

pub divisor-outside : divisor a b c (pos 10) (minus 7) ≡ pos 12
unfolding divisor edge_function
divisor-outside = refl

pub divisor-turned : divisor a c b (pos 1) (pos 1) ≡ minus 12
unfolding divisor edge_function
divisor-turned = refl

-- at (1, 1) the corners weigh 5, 3 and 4 twelfths
pub weighted-within : weighted a b c (pos 1) (pos 1) ≡ pos 39
unfolding weighted edge_function
weighted-within = refl

-- the nearest number from 2 to 5
pub held-less : held 2 5 (minus 3) ≡ 2
unfolding held
held-less = refl

pub held-among : held 2 5 (pos 3) ≡ 3
unfolding held
held-among = refl

pub held-more : held 2 5 (pos 7) ≡ 5
unfolding held
held-more = refl

-- thirteen quarters, rounded down, for both windings
pub depth-within : depth a b c (pos 1) (pos 1) ≡ 3
unfolding depth weighted divisor held edge_function
depth-within = refl

pub depth-turned : depth a c b (pos 1) (pos 1) ≡ 3
unfolding depth weighted divisor held edge_function
depth-turned = refl

-- beyond the corners it is held at the least and the greatest of the three depths
pub depth-held_above : depth a b c (pos 10) (pos 10) ≡ 5
unfolding depth weighted divisor held edge_function
depth-held_above = refl

pub depth-held_below : depth a b c (minus 10) (minus 10) ≡ 2
unfolding depth weighted divisor held edge_function
depth-held_below = refl

pub depth-held_above_later : depth b c a (pos 10) (pos 10) ≡ 5
unfolding depth weighted divisor held edge_function
depth-held_above_later = refl

pub depth-held_below_later : depth b c a (minus 10) (minus 10) ≡ 2
unfolding depth weighted divisor held edge_function
depth-held_below_later = refl

pub depth-held_above_last : depth c a b (pos 10) (pos 10) ≡ 5
unfolding depth weighted divisor held edge_function
depth-held_above_last = refl

pub depth-held_below_last : depth c a b (minus 10) (minus 10) ≡ 2
unfolding depth weighted divisor held edge_function
depth-held_below_last = refl

-- three columns and five rows
abbrev size : Size
size = record { width = 3; height = 5 }

pub pixels_of-two_by_three : pixels_of (record { width = 2; height = 3 }) ≡ 0 ∷ 1 ∷ 2 ∷ 3 ∷ 4 ∷ 5 ∷ []
pixels_of-two_by_three = refl

-- pixel 7 is in column 1 of row 2
pub centre_x-seven : centre_x size 7 ≡ pos 24
centre_x-seven = refl

pub centre_y-seven : centre_y size 7 ≡ pos 40
centre_y-seven = refl

-- a triangle over the upper left half of the picture
abbrev p : Spot
p = spot (pos 2) (pos 2) 268435455

abbrev q : Spot
q = spot (pos 45) (pos 3) 282563637

abbrev r : Spot
r = spot (pos 4) (pos 50) 261888249

-- the pixels whose centres lie in it, for both windings
pub covered-round : covered p q r size ≡ 0 ∷ 1 ∷ 2 ∷ 3 ∷ 4 ∷ 6 ∷ []
unfolding covers winding crossing passes edge_function
covered-round = refl

pub covered-turned : covered p r q size ≡ 0 ∷ 1 ∷ 2 ∷ 3 ∷ 4 ∷ 6 ∷ []
unfolding covers winding crossing passes edge_function
covered-turned = refl

pub covers-within : covers p q r size 4 ≡ true
unfolding covers winding crossing passes edge_function
covers-within = refl

pub covers-outside : covers p q r size 5 ≡ false
unfolding covers winding crossing passes edge_function
covers-outside = refl

-- seven bits for the triangle, and 27 for the cluster
pub word_of-example : word_of 3 5 7 ≡ 51539608199
word_of-example = refl

pub word_at-four : word_at p q r 2 5 size 4 ≡ 4680406319797108997
unfolding word_at depth weighted divisor held edge_function
word_at-four = refl

pub words_of-six : words_of p q r 2 5 size ≡
    (0, 4630427898497466629) ∷ (1, 4721702825485140229) ∷ (2, 4812977735292944645) ∷
    (3, 4589131392809435397) ∷ (4, 4680406319797108997) ∷ (6, 4547834887121404165) ∷ []
unfolding covers winding crossing passes edge_function word_at depth weighted divisor held
words_of-six = refl
