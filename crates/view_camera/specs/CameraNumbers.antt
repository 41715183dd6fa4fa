-- The fifteen numbers of a camera, the range of each, and the camera that they describe.
use Rattle.std.specs.Prelude.{◌+◌, ◌||◌, ℕ, ℤ, pos, neg_ℤ, int_lt, unsigned_abs, Bool, List, [], ◌∷◌, ◌++◌, replicate}
use Rattle.std.specs.Prelude.{Option, Some, None, if◌then◌else◌}
use Rattle.std.specs.List.{slice_index_or}
use Rattle.geom_core.specs.declared.limits.TheConstants.{MAX_FOCAL, MIN_NEAR, MAX_NEAR, MAX_TOLERANCE, MAX_EYE}
use Rattle.geom_core.specs.declared.limits.TheConstants.{ROTATION_ONE}
use Rattle.geom_core.specs.Camera.{Direction, View}
use Rattle.view_camera.specs.declared.number_ranges.NumberRange.{NumberRange}

-- from -most to most
abbrev pub within : ℕ → NumberRange
within most = record { least = neg_ℤ (pos most); greatest = pos most }

abbrev pub between : ℕ → ℕ → NumberRange
between least greatest = record { least = pos least; greatest = pos greatest }

-- the least and the greatest value of each number: the focal length, the near-plane distance, the tolerance,
-- the eye's x, y and z, and the entries of the rows right, down and forward
abbrev pub ranges : List NumberRange
ranges =
    between 1 MAX_FOCAL ∷ between MIN_NEAR MAX_NEAR ∷ between 0 MAX_TOLERANCE ∷
    (replicate 3 (within MAX_EYE) ++ replicate 9 (within ROTATION_ONE))

-- the number is below the range or above it
abbrev pub is_outside : NumberRange → ℤ → Bool
is_outside range n = int_lt n range.least || int_lt range.greatest n

-- the index of the first number that is outside the range at its index, if the first number has the index `place`
abbrev pub first_outside : ℕ → List NumberRange → List ℤ → Option ℕ
first_outside place [] ns = None
first_outside place (range ∷ rest) [] = None
first_outside place (range ∷ rest) (n ∷ ns) =
    if is_outside range n then Some place else first_outside (place + 1) rest ns

-- the index, from 0, of the first of a camera's numbers that is out of its range
unfoldable pub first_bad : List ℤ → Option ℕ
first_bad ns = first_outside 0 ranges ns

-- the number at an index
abbrev pub number_at : List ℤ → ℕ → ℤ
number_at ns place = slice_index_or ns place (pos 0)

-- the direction whose x, y and z begin at an index
abbrev pub direction_at : List ℤ → ℕ → Direction
direction_at ns place =
    record { x = number_at ns place; y = number_at ns (place + 1); z = number_at ns (place + 2) }

-- the camera that the numbers describe
unfoldable pub view_of_numbers : List ℤ → View
view_of_numbers ns = record {
  focal = unsigned_abs (number_at ns 0);
  near = unsigned_abs (number_at ns 1);
  tolerance = unsigned_abs (number_at ns 2);
  eye = record { x = number_at ns 3; y = number_at ns 4; z = number_at ns 5 };
  right = direction_at ns 6;
  down = direction_at ns 9;
  forward = direction_at ns 12;
}
