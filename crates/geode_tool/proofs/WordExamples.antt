-- Worked examples of the words of `draw`, computed by the checker.
use Rattle.std.specs.Prelude.{◌≡◌, ℕ, ◌∷◌, [], List, Some, None, pos, negsuc, codes, refl}
use Rattle.geom_core.specs.Camera.{View}
use Rattle.geode_tool.specs.declared.commands.DrawRequest.{DrawRequest}
use Rattle.view_camera.specs.CameraNumbers.{first_bad, view_of_numbers}
use Rattle.geode_tool.specs.Words.{whole_number, signed_number, side, camera, draw_words}

abbrev draw : List ℕ
draw = codes "draw"

abbrev from_above : List ℕ
from_above = codes "4,33554432,0,0,4096,0,16384,0,0,0,0,16384,0,-16384,0"

-- the camera of these numbers looks down at the plane from depth 4,096
abbrev looking_down : View
looking_down = record {
  focal = 4;
  near = 33554432;
  tolerance = 0;
  eye = record { x = pos 0; y = pos 4096; z = pos 0 };
  right = record { x = pos 16384; y = pos 0; z = pos 0 };
  down = record { x = pos 0; y = pos 0; z = pos 16384 };
  forward = record { x = pos 0; y = negsuc 16383; z = pos 0 };
}

abbrev four_by_four : DrawRequest
four_by_four = record { size = record { width = 4; height = 4 }; camera = looking_down }

pub draw_words-four : draw_words (draw ∷ codes "4" ∷ codes "4" ∷ from_above ∷ []) ≡ Some four_by_four
unfolding draw_words side whole_number camera signed_number first_bad view_of_numbers
draw_words-four = refl

-- zeros may stand first
pub draw_words-zeros : draw_words (draw ∷ codes "0004" ∷ codes "0000000004" ∷ from_above ∷ []) ≡ Some four_by_four
unfolding draw_words side whole_number camera signed_number first_bad view_of_numbers
draw_words-zeros = refl

pub draw_words-eleven_digits : draw_words (draw ∷ codes "4" ∷ codes "00000000004" ∷ from_above ∷ []) ≡ None
unfolding draw_words side whole_number camera signed_number first_bad view_of_numbers
draw_words-eleven_digits = refl

pub draw_words-three : draw_words (draw ∷ codes "4" ∷ codes "4" ∷ []) ≡ None
unfolding draw_words
draw_words-three = refl

pub draw_words-five : draw_words (draw ∷ codes "4" ∷ codes "4" ∷ from_above ∷ codes "4" ∷ []) ≡ None
unfolding draw_words
draw_words-five = refl

pub draw_words-fly : draw_words (codes "fly" ∷ codes "4" ∷ codes "4" ∷ from_above ∷ []) ≡ None
unfolding draw_words
draw_words-fly = refl

-- a picture has 1 to 512 columns and rows
pub side-0 : side (codes "0") ≡ None
unfolding side whole_number
side-0 = refl

pub side-1 : side (codes "1") ≡ Some 1
unfolding side whole_number
side-1 = refl

pub side-512 : side (codes "512") ≡ Some 512
unfolding side whole_number
side-512 = refl

pub side-513 : side (codes "513") ≡ None
unfolding side whole_number
side-513 = refl

pub side-empty : side [] ≡ None
unfolding side whole_number
side-empty = refl

pub side-signed : side (codes "-4") ≡ None
unfolding side whole_number
side-signed = refl

pub signed_number-minus : signed_number 11 (codes "-16384") ≡ Some (negsuc 16383)
unfolding signed_number whole_number
signed_number-minus = refl

pub signed_number-minus_zero : signed_number 11 (codes "-0") ≡ Some (pos 0)
unfolding signed_number whole_number
signed_number-minus_zero = refl

pub signed_number-plus : signed_number 11 (codes "+1") ≡ None
unfolding signed_number whole_number
signed_number-plus = refl

pub signed_number-two_signs : signed_number 11 (codes "--1") ≡ None
unfolding signed_number whole_number
signed_number-two_signs = refl

pub signed_number-minus_alone : signed_number 11 (codes "-") ≡ None
unfolding signed_number whole_number
signed_number-minus_alone = refl

-- a camera has fifteen numbers, no fewer and no more
pub camera-two : camera (codes "0,1") ≡ None
unfolding camera signed_number whole_number first_bad view_of_numbers
camera-two = refl

pub camera-fourteen : camera (codes "4,33554432,0,0,4096,0,16384,0,0,0,0,16384,0,-16384") ≡ None
unfolding camera signed_number whole_number first_bad view_of_numbers
camera-fourteen = refl

pub camera-sixteen : camera (codes "4,33554432,0,0,4096,0,16384,0,0,0,0,16384,0,-16384,0,0") ≡ None
unfolding camera signed_number whole_number first_bad view_of_numbers
camera-sixteen = refl

pub camera-comma_last : camera (codes "4,33554432,0,0,4096,0,16384,0,0,0,0,16384,0,-16384,") ≡ None
unfolding camera signed_number whole_number first_bad view_of_numbers
camera-comma_last = refl

pub camera-minus_zero : camera (codes "4,33554432,-0,0,4096,0,16384,0,0,0,0,16384,0,-16384,0") ≡ Some looking_down
unfolding camera signed_number whole_number first_bad view_of_numbers
camera-minus_zero = refl

pub camera-focal_0 : camera (codes "0,33554432,0,0,4096,0,16384,0,0,0,0,16384,0,-16384,0") ≡ None
unfolding camera signed_number whole_number first_bad view_of_numbers
camera-focal_0 = refl
