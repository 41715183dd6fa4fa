-- The screen coordinate of a point along one side of a picture, and whether it is before the first or after the
-- last pixel centre.
use Rattle.std.specs.Prelude.{◌<◌, ◌≤◌, ◌+◌, ◌*◌, ◌/◌, ◌⊎◌, ℕ, ℤ, pos, ◌+ℤ◌, ◌<ℤ◌, ◌≤ℤ◌, unsigned_abs}
use Rattle.geom_core.specs.declared.limits.TheConstants.{SUBPIXELS, MIN_NEAR, MAX_DOT}
use Rattle.geom_core.specs.Camera.{on_screen}
use Rattle.view_camera.specs.declared.projections.ViewAxis.{ViewAxis}

-- an offset and a depth of a mesh point that is no nearer than the nearest near plane
pub record IsViewAxis (at : ViewAxis) : Type 0 where
  pub offset : unsigned_abs at.offset ≤ MAX_DOT
  pub depth : unsigned_abs at.depth ≤ MAX_DOT
  pub far : pos MIN_NEAR ≤ℤ at.depth

-- the screen coordinate, in sixteenths of a pixel from the picture's edge
abbrev pub screen_coordinate : ℕ → ℕ → ViewAxis → ℤ
screen_coordinate focal side at = pos (SUBPIXELS / 2 * side) +ℤ on_screen focal at.offset at.depth

-- the centre of the pixels of row or column k
abbrev pub centre : ℕ → ℤ
centre k = pos (SUBPIXELS * k + SUBPIXELS / 2)

-- no pixel centre of the side is before the coordinate
abbrev pub IsBeforeFirstCentre : ℕ → ℤ → Type 0
IsBeforeFirstCentre side place = (k : ℕ) → k < side → place ≤ℤ centre k

-- all pixel centres of the side are before the coordinate
abbrev pub IsAfterLastCentre : ℕ → ℤ → Type 0
IsAfterLastCentre side place = (k : ℕ) → k < side → centre k <ℤ place

-- three coordinates are on one side of all pixel centres
abbrev pub AreOffOneSide : ℕ → ℤ → ℤ → ℤ → Type 0
AreOffOneSide side a b c =
    (IsBeforeFirstCentre side a × IsBeforeFirstCentre side b × IsBeforeFirstCentre side c)
    ⊎ (IsAfterLastCentre side a × IsAfterLastCentre side b × IsAfterLastCentre side c)
