-- Worked examples of the definitions, computed by the checker. Values of spots are from a model apart from it.
use Rattle.std.specs.Prelude.{◌≡◌, ◌∷◌, [], List, ℤ, Some, None, pos, negsuc, refl}
use Rattle.geom_core.specs.declared.screens.Size.{Size}
use Rattle.geom_core.specs.Camera.{View, on_screen, reversed_depth}
use Rattle.view_camera.specs.declared.projections.ViewAxis.{ViewAxis}
use Rattle.view_camera.specs.declared.view_points.ViewPoint.{ViewPoint}
use Rattle.view_camera.specs.CameraNumbers.{first_bad, first_outside, between, view_of_numbers}
use Rattle.view_camera.specs.ViewPoints.{spot_at}
use Rattle.view_camera.specs.Internal.Projections.{screen_coordinate, centre}

-- a camera off every axis, turned about two of them
abbrev numbers : List ℤ
numbers =
    pos 3 ∷ pos 1048576 ∷ pos 7 ∷ pos 900 ∷ pos 2500 ∷ pos 1700 ∷ pos 13107 ∷ pos 0 ∷ negsuc 9829 ∷
    negsuc 5898 ∷ pos 13107 ∷ negsuc 7863 ∷ negsuc 7863 ∷ negsuc 9829 ∷ negsuc 10485 ∷ []

abbrev turned : View
turned = record {
  focal = 3;
  near = 1048576;
  tolerance = 7;
  eye = record { x = pos 900; y = pos 2500; z = pos 1700 };
  right = record { x = pos 13107; y = pos 0; z = negsuc 9829 };
  down = record { x = negsuc 5898; y = pos 13107; z = negsuc 7863 };
  forward = record { x = negsuc 7863; y = negsuc 9829; z = negsuc 10485 };
}

pub view_of_numbers-turned : view_of_numbers numbers ≡ turned
unfolding view_of_numbers
view_of_numbers-turned = refl

pub first_bad-none : first_bad numbers ≡ None
unfolding first_bad
first_bad-none = refl

-- of the numbers out of range the first counts
pub first_bad-two : first_bad (pos 4 ∷ pos 16383 ∷ negsuc 0 ∷ []) ≡ Some 1
unfolding first_bad
first_bad-two = refl

pub first_bad-row : first_bad
    (pos 4 ∷ pos 16384 ∷ pos 65535 ∷ pos 16777216 ∷ negsuc 16777215 ∷ pos 0 ∷ pos 16385 ∷ []) ≡ Some 6
unfolding first_bad
first_bad-row = refl

-- a range holds both its ends, and the table may have other ranges
pub first_outside-ends : first_outside 0 (between 2 4 ∷ between 2 4 ∷ between 2 4 ∷ between 2 4 ∷ [])
    (pos 2 ∷ pos 4 ∷ pos 3 ∷ pos 5 ∷ []) ≡ Some 3
first_outside-ends = refl

pub first_outside-below : first_outside 0 (between 2 4 ∷ between 2 4 ∷ []) (pos 2 ∷ pos 1 ∷ []) ≡ Some 1
first_outside-below = refl

-- three columns and five rows
abbrev narrow : Size
narrow = record { width = 3; height = 5 }

abbrev left_point : ViewPoint
left_point = record { right = negsuc 11023347; down = negsuc 3351423; depth = pos 49814160 }

pub spot_at-left : spot_at turned narrow left_point ≡ record { x = pos 13; y = pos 36; z = 22602005 }
unfolding spot_at on_screen reversed_depth
spot_at-left = refl

-- above the picture
abbrev upper_point : ViewPoint
upper_point = record { right = pos 14142220; down = negsuc 27679871; depth = pos 31359632 }

pub spot_at-above : spot_at turned narrow upper_point ≡ record { x = pos 45; y = negsuc 2; z = 35902841 }
unfolding spot_at on_screen reversed_depth
spot_at-above = refl

abbrev upper_axis : ViewAxis
upper_axis = record { offset = negsuc 27679871; depth = pos 31359632 }

pub screen_coordinate-above : screen_coordinate 3 5 upper_axis ≡ negsuc 2
unfolding on_screen
screen_coordinate-above = refl

pub centre-2 : centre 2 ≡ pos 40
centre-2 = refl
