-- The picture of a list of triangles: at each pixel the greatest word drawn there.
use Rattle.std.specs.Prelude.{ℕ, ◌/◌, ◌%◌, ◌==◌, max, List, [], Option, Some, None, map, filter, flat_map, fold}
use Rattle.std.specs.List.{enumerate_from}
use Rattle.geom_core.specs.declared.limits.TheConstants.{TRIANGLES_PER_CLUSTER}
use Rattle.geom_core.specs.declared.screens.Spot.{Spot}
use Rattle.geom_core.specs.declared.screens.Size.{Size}
use Rattle.geom_core.specs.declared.triangles.Tri.{Tri}
use Rattle.geom_core.specs.Camera.{View, spot_of}
use Rattle.geom_core.specs.Coverage.{pixels_of, words_of}

-- a triangle under the numbers that its words have: its cluster's, and its place in the cluster
pub record Item : Type 0 where
  pub cluster : ℕ
  pub place : ℕ
  pub tri : Tri

-- the words of a triangle where all its corners have a spot; else it isn't drawn
abbrev pub words_of_spots : Option Spot → Option Spot → Option Spot → ℕ → ℕ → Size → List (ℕ × ℕ)
words_of_spots (Some a) (Some b) (Some c) cluster place size = words_of a b c cluster place size
words_of_spots None b c cluster place size = []
words_of_spots (Some a) None c cluster place size = []
words_of_spots (Some a) (Some b) None cluster place size = []

-- what an item draws, as the camera sees it: pixels, each with a word
unfoldable pub drawn : View → Size → Item → List (ℕ × ℕ)
drawn view size item =
    words_of_spots (spot_of view size item.tri.a) (spot_of view size item.tri.b) (spot_of view size item.tri.c)
    item.cluster item.place size

-- the greatest of 0 and the words drawn at the pixel
unfoldable pub greatest_at : List (ℕ × ℕ) → ℕ → ℕ
greatest_at draws pixel = fold max 0 (map (λ draw. draw.1) (filter (λ draw. draw.0 == pixel) draws))

-- the picture of what was drawn: a word for each pixel, row by row
abbrev pub picture_of_words : Size → List (ℕ × ℕ) → List ℕ
picture_of_words size draws = map (greatest_at draws) (pixels_of size)

-- the picture of the items
abbrev pub picture : View → Size → List Item → List ℕ
picture view size items = picture_of_words size (flat_map (drawn view size) items)

-- a mesh without clusters: they are cut from its triangles in their order
abbrev pub items_of : List Tri → List Item
items_of tris =
    map (λ (k, t). record { cluster = k / TRIANGLES_PER_CLUSTER; place = k % TRIANGLES_PER_CLUSTER; tri = t })
    (enumerate_from 0 tris)
