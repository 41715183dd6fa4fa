-- Worked examples of cameras and pictures, computed by the checker.
use Rattle.std.specs.Prelude.{◌≡◌, ℕ, ℤ, pos, negsuc, neg_ℤ, List, [], ◌∷◌, drop, replicate, Some, None, refl}
use Rattle.geom_core.specs.declared.points.Pt.{Pt}
use Rattle.geom_core.specs.declared.triangles.Tri.{Tri}
use Rattle.geom_core.specs.declared.screens.Spot.{Spot}
use Rattle.geom_core.specs.declared.screens.Size.{Size}
use Rattle.geom_core.specs.Camera.{Direction, View, along, on_screen, reversed_depth, spot_of}
use Rattle.geom_core.specs.Winding.{edge_function, passes, crossing, winding}
use Rattle.geom_core.specs.Depth.{divisor, weighted, held, depth}
use Rattle.geom_core.specs.Coverage.{covers, covered, word_at}
use Rattle.geom_core.specs.Picture.{Item, words_of_spots, drawn, greatest_at, picture_of_words, picture, items_of}

-- the number below 0
abbrev minus : ℕ → ℤ
minus n = neg_ℤ (pos n)

abbrev point : ℤ → ℤ → ℤ → Pt
point x y z = record { x = x; y = y; z = z }

abbrev spot : ℕ → ℕ → ℕ → Spot
spot x y z = record { x = pos x; y = pos y; z = z }

abbrev direction : ℤ → ℤ → ℤ → Direction
direction x y z = record { x = x; y = y; z = z }

-- ---- a camera above a square, and a picture of 4 by 4 pixels

-- the mesh's grid is 1,024 to a unit
abbrev grid : ℤ → ℤ → Pt
grid x z = point x (pos 0) z

abbrev one : ℤ
one = pos 1024

abbrev minus_one : ℤ
minus_one = negsuc 1023

-- a camera at depth 4,096 above the plane, which sees a unit of 1,024 as 16 sixteenths of a pixel
abbrev camera : View
camera = record {
  focal = 4;
  near = 33554432;
  tolerance = 0;
  eye = point (pos 0) (pos 4096) (pos 0);
  right = record { x = pos 16384; y = pos 0; z = pos 0 };
  down = record { x = pos 0; y = pos 0; z = pos 16384 };
  forward = record { x = pos 0; y = negsuc 16383; z = pos 0 };
}

abbrev four_by_four : Size
four_by_four = record { width = 4; height = 4 }

abbrev lower_left : Pt
lower_left = grid minus_one one

abbrev lower_right : Pt
lower_right = grid one one

abbrev upper_right : Pt
upper_right = grid one minus_one

abbrev upper_left : Pt
upper_left = grid minus_one minus_one

-- the spots of three corners
pub spot_of-lower_left : spot_of camera four_by_four lower_left ≡ Some (spot 16 48 536870911)
unfolding spot_of along on_screen reversed_depth
spot_of-lower_left = refl

pub spot_of-lower_right : spot_of camera four_by_four lower_right ≡ Some (spot 48 48 536870911)
unfolding spot_of along on_screen reversed_depth
spot_of-lower_right = refl

pub spot_of-upper_right : spot_of camera four_by_four upper_right ≡ Some (spot 48 16 536870911)
unfolding spot_of along on_screen reversed_depth
spot_of-upper_right = refl

-- a point 1,024 nearer is seen further out, and deeper numbers are nearer
pub spot_of-raised : spot_of camera four_by_four (point one one minus_one) ≡ Some (spot 53 10 715827882)
unfolding spot_of along on_screen reversed_depth
spot_of-raised = refl

-- nothing nearer than near is seen
pub spot_of-too_near : spot_of (record camera { near = 17179869184 }) four_by_four lower_left ≡ None
unfolding spot_of along on_screen reversed_depth
spot_of-too_near = refl

-- a word of the first triangle, and of the second, at the depth of both
abbrev first : ℕ
first = 0x7ffffffc00000000

abbrev second : ℕ
second = 0x7ffffffc00000001

abbrev lower_triangle : Tri
lower_triangle = record { a = lower_left; b = lower_right; c = upper_right }

abbrev upper_triangle : Tri
upper_triangle = record { a = lower_left; b = upper_right; c = upper_left }

pub picture-one : picture camera four_by_four (items_of (lower_triangle ∷ [])) ≡
    0 ∷ 0 ∷ 0 ∷ 0 ∷ 0 ∷ 0 ∷ first ∷ 0 ∷ 0 ∷ first ∷ first ∷ 0 ∷ 0 ∷ 0 ∷ 0 ∷ 0 ∷ []
unfolding drawn greatest_at spot_of along on_screen reversed_depth covers winding crossing passes edge_function
    word_at depth weighted divisor held
picture-one = refl

-- the shared edge runs through two centres, and both pixels belong to the first triangle alone
pub picture-two : picture camera four_by_four (items_of (lower_triangle ∷ upper_triangle ∷ [])) ≡
    0 ∷ 0 ∷ 0 ∷ 0 ∷ 0 ∷ second ∷ first ∷ 0 ∷ 0 ∷ first ∷ first ∷ 0 ∷ 0 ∷ 0 ∷ 0 ∷ 0 ∷ []
unfolding drawn greatest_at spot_of along on_screen reversed_depth covers winding crossing passes edge_function
    word_at depth weighted divisor held
picture-two = refl

pub covered-upper : covered (spot 16 48 536870911) (spot 48 16 536870911) (spot 16 16 536870911) four_by_four ≡ 5 ∷ []
unfolding covers winding crossing passes edge_function
covered-upper = refl

-- the depths of a slanted triangle at the centres (40, 24) and (24, 40)
pub depth-slanted_right :
    depth (spot 16 48 536870911) (spot 48 48 536870911) (spot 53 10 715827882) (pos 40) (pos 24) ≡ 649896366
unfolding depth weighted divisor held edge_function
depth-slanted_right = refl

pub depth-slanted_left :
    depth (spot 16 48 536870911) (spot 48 48 536870911) (spot 53 10 715827882) (pos 24) (pos 40) ≡ 574546062
unfolding depth weighted divisor held edge_function
depth-slanted_left = refl

-- ---- a camera off every axis and turned about every axis, and a picture of 3 columns and 5 rows

pub along-each_axis :
    along (direction (pos 2) (pos 3) (pos 5)) (point (pos 10) (pos 20) (pos 30)) (point (pos 1) (pos 1) (pos 1)) ≡
    minus 220
unfolding along
along-each_axis = refl

-- sixteen per pixel, rounded down on both sides of the middle
pub on_screen-right : on_screen 3 (pos 7) (pos 10) ≡ pos 33
unfolding on_screen
on_screen-right = refl

pub on_screen-left : on_screen 3 (minus 7) (pos 10) ≡ minus 34
unfolding on_screen
on_screen-left = refl

-- the greatest at the near plane, and falling
pub reversed_depth-near : reversed_depth 100 (pos 100) ≡ 1073741823
unfolding reversed_depth
reversed_depth-near = refl

pub reversed_depth-further : reversed_depth 100 (pos 301) ≡ 356724858
unfolding reversed_depth
reversed_depth-further = refl

abbrev turned : View
turned = record {
  focal = 5;
  near = 13107;
  tolerance = 0;
  eye = point (pos 300) (minus 200) (pos 50);
  right = direction (pos 9830) (pos 13107) (pos 100);
  down = direction (minus 50) (pos 70) (pos 16383);
  forward = direction (pos 13107) (minus 9830) (pos 200);
}

abbrev three_by_five : Size
three_by_five = record { width = 3; height = 5 }

-- before the camera, and at the near plane: one step right of the eye its depth is 13,107
pub spot_of-turned :
    spot_of (record turned { near = 1000 }) three_by_five (point (pos 1000) (minus 700) (minus 90)) ≡
    Some (spot 25 26 76358)
unfolding spot_of along on_screen reversed_depth
spot_of-turned = refl

pub spot_of-at_near : spot_of turned three_by_five (point (pos 301) (minus 200) (pos 50)) ≡ Some (spot 83 39 1073741823)
unfolding spot_of along on_screen reversed_depth
spot_of-at_near = refl

-- one step nearer than the near plane, and behind the camera, though further from it
pub spot_of-nearer :
    spot_of (record turned { near = 13108 }) three_by_five (point (pos 301) (minus 200) (pos 50)) ≡
    None
unfolding spot_of along on_screen reversed_depth
spot_of-nearer = refl

pub spot_of-behind : spot_of turned three_by_five (point (minus 1000) (pos 700) (pos 3)) ≡ None
unfolding spot_of along on_screen reversed_depth
spot_of-behind = refl

-- looking down from 5,000 above the plane, with the mesh's z to the right and its x downwards
abbrev overhead : View
overhead = record {
  focal = 4;
  near = 16384000;
  tolerance = 0;
  eye = point (pos 64) (pos 5000) (minus 128);
  right = direction (pos 0) (pos 0) (pos 16384);
  down = direction (pos 16384) (pos 0) (pos 0);
  forward = direction (pos 0) (minus 16384) (pos 0);
}

-- the higher of two triangles over pixel 4, which is drawn first, and the lower one, which winds the other way
abbrev higher : Item
higher = record {
  cluster = 2;
  place = 5;
  tri = record {
    a = point (minus 2311) (pos 1000) (minus 1503);
    b = point (minus 2074) (pos 1200) (pos 1178);
    c = point (pos 705) (pos 900) (minus 1409);
  };
}

abbrev lower : Item
lower = record {
  cluster = 3;
  place = 1;
  tri = record {
    a = point (pos 3033) (pos 0) (pos 1434);
    b = point (minus 2036) (pos 200) (pos 1522);
    c = point (minus 702) (pos 100) (minus 1812);
  };
}

pub picture-three_by_five : picture overhead three_by_five (higher ∷ lower ∷ []) ≡
    4630427898497466629 ∷ 4721702825485140229 ∷ 4812977735292944645 ∷
    4589131392809435397 ∷ 4680406319797108997 ∷ 3810221773551567233 ∷
    4547834887121404165 ∷ 3759234825211347329 ∷ 3773608981239431553 ∷
    0 ∷ 0 ∷ 3736996206107165057 ∷
    0 ∷ 0 ∷ 3700383430974898561 ∷ []
unfolding drawn greatest_at spot_of along on_screen reversed_depth covers winding crossing passes edge_function
    word_at depth weighted divisor held
picture-three_by_five = refl

-- what each draws, pixel by pixel
pub drawn-lower : drawn overhead three_by_five lower ≡
    (4, 3795847600343613825) ∷ (5, 3810221773551567233) ∷ (7, 3759234825211347329) ∷
    (8, 3773608981239431553) ∷ (11, 3736996206107165057) ∷ (14, 3700383430974898561) ∷ []
unfolding drawn spot_of along on_screen reversed_depth covers winding crossing passes edge_function
    word_at depth weighted divisor held
drawn-lower = refl

-- a triangle with a corner that is not seen draws nothing
abbrev seen : Spot
seen = spot 0 0 1

-- whichever corner it is
pub words_of_spots-not_a : words_of_spots None (Some seen) (Some seen) 0 0 three_by_five ≡ []
words_of_spots-not_a = refl

pub words_of_spots-not_b : words_of_spots (Some seen) None (Some seen) 0 0 three_by_five ≡ []
words_of_spots-not_b = refl

pub words_of_spots-not_c : words_of_spots (Some seen) (Some seen) None 0 0 three_by_five ≡ []
words_of_spots-not_c = refl

-- of what was drawn at a pixel the greatest word, wherever in the list it is; 0 where nothing was
abbrev draws : List (ℕ × ℕ)
draws = (1, 5) ∷ (0, 9) ∷ (1, 7) ∷ (1, 6) ∷ []

pub greatest_at-middle : greatest_at draws 1 ≡ 7
unfolding greatest_at
greatest_at-middle = refl

pub greatest_at-none : greatest_at draws 2 ≡ 0
unfolding greatest_at
greatest_at-none = refl

pub picture_of_words-one_row : picture_of_words (record { width = 3; height = 1 }) draws ≡ 9 ∷ 7 ∷ 0 ∷ []
unfolding greatest_at
picture_of_words-one_row = refl

-- triangle 127 is the last of cluster 0, and triangle 129 the second of cluster 1
pub items_of-by_128 : drop 127 (items_of (replicate 130 higher.tri)) ≡
    record higher { cluster = 0; place = 127 } ∷ record higher { cluster = 1; place = 0 } ∷
    record higher { cluster = 1; place = 1 } ∷ []
items_of-by_128 = refl
