-- The pixels that a triangle covers, and the word that it draws at each.
use Rattle.std.specs.Prelude.{Bool, not, ℕ, ◌+◌, ◌*◌, ◌/◌, ◌%◌, ◌^◌, ℤ, pos, List, map, filter}
use Rattle.std.specs.List.{range_with_len}
use Rattle.std.specs.Ordering.{int_eq}
use Rattle.geom_core.specs.declared.limits.TheConstants.{CLUSTER_BITS, TRIANGLE_BITS, SUBPIXELS}
use Rattle.geom_core.specs.declared.screens.Spot.{Spot}
use Rattle.geom_core.specs.declared.screens.Size.{Size}
use Rattle.geom_core.specs.Winding.{winding}
use Rattle.geom_core.specs.Depth.{depth}

-- the pixels of a picture, row by row from the upper left corner
abbrev pub pixels_of : Size → List ℕ
pixels_of size = range_with_len 0 (size.width * size.height)

-- the centre of a pixel, in sixteenths: the pixel in column i of row j has the number j * width + i
abbrev pub centre_x : Size → ℕ → ℤ
centre_x size pixel = pos (SUBPIXELS * (pixel % size.width) + SUBPIXELS / 2)

abbrev pub centre_y : Size → ℕ → ℤ
centre_y size pixel = pos (SUBPIXELS * (pixel / size.width) + SUBPIXELS / 2)

-- the triangle winds round the pixel's centre
unfoldable pub covers : Spot → Spot → Spot → Size → ℕ → Bool
covers a b c size pixel = not (int_eq (winding a b c (centre_x size pixel) (centre_y size pixel)) (pos 0))

-- the pixels that the triangle covers, ascending
abbrev pub covered : Spot → Spot → Spot → Size → List ℕ
covered a b c size = filter (covers a b c size) (pixels_of size)

-- depth, cluster and triangle in 64 bits, the triangle's number in the lowest ones
abbrev pub word_of : ℕ → ℕ → ℕ → ℕ
word_of depth cluster tri = depth * 2 ^ (CLUSTER_BITS + TRIANGLE_BITS) + cluster * 2 ^ TRIANGLE_BITS + tri

-- the triangle's word at a pixel
unfoldable pub word_at : Spot → Spot → Spot → ℕ → ℕ → Size → ℕ → ℕ
word_at a b c cluster tri size pixel = word_of (depth a b c (centre_x size pixel) (centre_y size pixel)) cluster tri

-- the covered pixels, ascending, each with its word
abbrev pub words_of : Spot → Spot → Spot → ℕ → ℕ → Size → List (ℕ × ℕ)
words_of a b c cluster tri size = map (λ pixel. (pixel, word_at a b c cluster tri size pixel)) (covered a b c size)
