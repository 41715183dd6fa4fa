-- A triangle that is drawn, and the words of a stretch of pixels.
use Rattle.std.specs.Prelude.{◌<◌, ◌≤◌, ◌<ℤ◌, ◌≤ℤ◌, Bool, ℕ, List, map, filter}
use Rattle.std.specs.List.{range_with_len}
use Rattle.geom_core.specs.Coverage.{covers, word_at}
use Rattle.geom_core.specs.Limits.{IsSpot, IsClusterNumber, IsPicture}
use Rattle.geom_core.specs.declared.limits.TheConstants.{TRIANGLES_PER_CLUSTER}
use Rattle.raster64.specs.declared.raster.ScreenTriangle.{ScreenTriangle}
use Rattle.raster64.specs.Internal.Centres.{centre}
use Rattle.raster64.specs.Internal.Numerators.{IsWithin}

-- what a triangle has to keep to be drawn
pub record CanBeDrawn (d : ScreenTriangle) : Type 0 where
  pub spots : IsSpot d.a × IsSpot d.b × IsSpot d.c
  pub cluster : IsClusterNumber d.cluster
  pub tri : d.tri < TRIANGLES_PER_CLUSTER
  pub picture : IsPicture d.size

-- the corners are at most m away from 0
abbrev pub AreWithin : ℕ → ScreenTriangle → Type 0
AreWithin m d = IsWithin m d.a × IsWithin m d.b × IsWithin m d.c

-- The rows from `first` on and before `end` are those between the triangle's least and greatest y: the centres before
-- them lie above all corners, and those after them below, or level with the lowest.
pub record AreRowsOf (d : ScreenTriangle) (first end : ℕ) : Type 0 where
  pub order : first ≤ end
  pub limit : end ≤ d.size.height
  pub above : (k : ℕ) → k < first → (centre k <ℤ d.a.y) × (centre k <ℤ d.b.y) × (centre k <ℤ d.c.y)
  pub below : (k : ℕ) → end ≤ k → k < d.size.height → (d.a.y ≤ℤ centre k) × (d.b.y ≤ℤ centre k) × (d.c.y ≤ℤ centre k)

-- the triangle with its second and third corner exchanged
abbrev pub exchanged : ScreenTriangle → ScreenTriangle
exchanged d = record { a = d.a; b = d.c; c = d.b; cluster = d.cluster; tri = d.tri; size = d.size }

-- the triangle covers the pixel
abbrev pub is_covered : ScreenTriangle → ℕ → Bool
is_covered d pixel = covers d.a d.b d.c d.size pixel

-- the pixel, with the triangle's word there
abbrev pub draw_at : ScreenTriangle → ℕ → ℕ × ℕ
draw_at d pixel = (pixel, word_at d.a d.b d.c d.cluster d.tri d.size pixel)

-- the covered pixels among `count` pixels from `first` on, ascending, each with its word
unfoldable pub words_in : ScreenTriangle → ℕ → ℕ → List (ℕ × ℕ)
words_in d first count = map (draw_at d) (filter (is_covered d) (range_with_len first count))
