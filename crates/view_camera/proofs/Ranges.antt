-- What it is to be in a range, number by number.
use Rattle.std.specs.Prelude.{◌≤◌, ℕ, ℤ, Bool, true, false, ◌&&◌, nat_le, unsigned_abs, IsTrue}
use Rattle.std.proofs.Common.{arith}
use Rattle.std.proofs.lemmas.Bool.Decides.{nat_tests}
use Rattle.geom_core.specs.declared.limits.TheConstants.{MAX_COORDINATE, MAX_EYE, MAX_SCREEN_COORDINATE, MAX_SIDE}
use Rattle.geom_core.specs.declared.points.Pt.{Pt}
use Rattle.geom_core.specs.declared.screens.Size.{Size}
use Rattle.geom_core.specs.declared.screens.Spot.{Spot}
use Rattle.geom_core.specs.Limits.{IsDepth, IsEye, IsGridCoordinate, IsGridPoint, IsPicture, IsSpot, is_point_within}

-- the coordinates of a point are at most so far from 0
pub record AreWithin (most : ℕ) (p : Pt) : Type 0 where
  pub x : unsigned_abs p.x ≤ most
  pub y : unsigned_abs p.y ≤ most
  pub z : unsigned_abs p.z ≤ most

all_three : (a b c : Bool) → IsTrue (a && b && c) → IsTrue a × IsTrue b × IsTrue c
all_three true true true h = (h, h, h)
all_three false b c h = absurd (cc)
all_three true false c h = absurd (cc)
all_three true true false h = absurd (cc)

at_most : (n most : ℕ) → IsTrue (nat_le n most) → n ≤ most
at_most n most h = grind (arith, nat_tests)

within : (most : ℕ) (p : Pt) → IsTrue (is_point_within most p) → AreWithin most p
within most p h =
    let each = all_three (nat_le (unsigned_abs p.x) most) (nat_le (unsigned_abs p.y) most)
    (nat_le (unsigned_abs p.z) most) h in
    record {
      x = at_most (unsigned_abs p.x) most each.0;
      y = at_most (unsigned_abs p.y) most each.1;
      z = at_most (unsigned_abs p.z) most each.2;
    }

pub eye_coordinates : (p : Pt) → IsEye p → AreWithin MAX_EYE p
eye_coordinates p h = within MAX_EYE p h

pub grid_coordinates : (p : Pt) → IsGridPoint p → AreWithin MAX_COORDINATE p
grid_coordinates p h = within MAX_COORDINATE p h

pub grid_coordinate : (n : ℤ) → IsGridCoordinate n → unsigned_abs n ≤ MAX_COORDINATE
grid_coordinate n h = at_most (unsigned_abs n) MAX_COORDINATE h

pub is_grid_coordinate_from : (n : ℤ) → unsigned_abs n ≤ MAX_COORDINATE → IsGridCoordinate n
is_grid_coordinate_from n h = grind (arith, nat_tests)

pub is_eye_from : (p : Pt) → AreWithin MAX_EYE p → IsEye p
is_eye_from p h = grind (arith, nat_tests)

-- the sides of a picture
pub record AreSides (size : Size) : Type 0 where
  pub some_column : 1 ≤ size.width
  pub some_row : 1 ≤ size.height
  pub width : size.width ≤ MAX_SIDE
  pub height : size.height ≤ MAX_SIDE

pub sides : (size : Size) → IsPicture size → AreSides size
sides size h = grind (arith, nat_tests)

pub is_spot_from : (s : Spot) → unsigned_abs s.x ≤ MAX_SCREEN_COORDINATE → unsigned_abs s.y ≤ MAX_SCREEN_COORDINATE →
    IsDepth s.z → IsSpot s
is_spot_from s by_x by_y by_z = grind (arith, nat_tests)
