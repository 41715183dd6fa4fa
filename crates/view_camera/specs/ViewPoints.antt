-- View-space points, and the spot of each.
use Rattle.std.specs.Prelude.{◌≤◌, ◌*◌, ◌/◌, pos, ◌+ℤ◌, ◌≤ℤ◌, unsigned_abs}
use Rattle.geom_core.specs.declared.limits.TheConstants.{SUBPIXELS, MAX_DOT}
use Rattle.geom_core.specs.declared.screens.Spot.{Spot}
use Rattle.geom_core.specs.declared.screens.Size.{Size}
use Rattle.geom_core.specs.Camera.{View, on_screen, reversed_depth}
use Rattle.view_camera.specs.declared.view_points.ViewPoint.{ViewPoint}

-- the spot of a view-space point that is no nearer than the near plane
unfoldable pub spot_at : View → Size → ViewPoint → Spot
spot_at view size at = record {
  x = pos (SUBPIXELS / 2 * size.width) +ℤ on_screen view.focal at.right at.depth;
  y = pos (SUBPIXELS / 2 * size.height) +ℤ on_screen view.focal at.down at.depth;
  z = reversed_depth view.near at.depth;
}

-- the view-space point of a mesh point that is no nearer than the near plane
pub record IsBeyondNear (view : View) (at : ViewPoint) : Type 0 where
  pub right : unsigned_abs at.right ≤ MAX_DOT
  pub down : unsigned_abs at.down ≤ MAX_DOT
  pub depth : unsigned_abs at.depth ≤ MAX_DOT
  pub far : pos view.near ≤ℤ at.depth
