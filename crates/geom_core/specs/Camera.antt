-- A camera, and the spot on the screen where it sees a point.
use Rattle.std.specs.Prelude.{ℕ, ◌*◌, ◌/◌, ℤ, pos, ◌+ℤ◌, ◌-ℤ◌, ◌*ℤ◌, int_lt, unsigned_abs, Option, Some, None}
use Rattle.std.specs.Prelude.{if◌then◌else◌}
use Rattle.geom_core.specs.declared.limits.TheConstants.{MAX_DEPTH, SUBPIXELS}
use Rattle.geom_core.specs.declared.points.Pt.{Pt}
use Rattle.geom_core.specs.declared.screens.Spot.{Spot}
use Rattle.geom_core.specs.declared.screens.Size.{Size}
use Rattle.geom_core.specs.Floor.{floor_div}

-- a direction; as a row of a rotation, in 1/16,384
pub record Direction : Type 0 where
  pub x : ℤ
  pub y : ℤ
  pub z : ℤ

-- a camera: its focal length in pixels at distance 1, the depth nearer than which nothing is seen, the
-- tolerance in sixteenths of a pixel, where it stands, and the rows of the rotation that turns the
-- mesh's axes to right, down and forward
pub record View : Type 0 where
  pub focal : ℕ
  pub near : ℕ
  pub tolerance : ℕ
  pub eye : Pt
  pub right : Direction
  pub down : Direction
  pub forward : Direction

-- how far p lies along the row from the eye
unfoldable pub along : Direction → Pt → Pt → ℤ
along row eye p = row.x *ℤ (p.x -ℤ eye.x) +ℤ row.y *ℤ (p.y -ℤ eye.y) +ℤ row.z *ℤ (p.z -ℤ eye.z)

-- the sixteenths of a pixel from the picture's middle at which an offset is seen at this depth
unfoldable pub on_screen : ℕ → ℤ → ℤ → ℤ
on_screen focal offset depth = floor_div (pos (SUBPIXELS * focal) *ℤ offset) depth

-- the reversed depth: MAX_DEPTH at the near depth, falling towards 0
unfoldable pub reversed_depth : ℕ → ℤ → ℕ
reversed_depth near depth = near * MAX_DEPTH / unsigned_abs depth

-- Where the point is seen; nothing nearer than `near` is.
unfoldable pub spot_of : View → Size → Pt → Option Spot
spot_of view size p =
    let depth = along view.forward view.eye p in
    if int_lt depth (pos view.near) then None else Some (record {
      x = pos (SUBPIXELS / 2 * size.width) +ℤ on_screen view.focal (along view.right view.eye p) depth;
      y = pos (SUBPIXELS / 2 * size.height) +ℤ on_screen view.focal (along view.down view.eye p) depth;
      z = reversed_depth view.near depth;
    })
