-- The ranges of a camera's fields, and the camera that they are.
use Rattle.std.specs.Prelude.{◌≤◌}
use Rattle.geom_core.specs.declared.limits.TheConstants.{MAX_FOCAL, MIN_NEAR, MAX_NEAR, MAX_TOLERANCE}
use Rattle.geom_core.specs.Camera.{View}
use Rattle.geom_core.specs.Limits.{IsEye}
use Rattle.view_camera.specs.Internal.RotationRows.{IsRotationRow, direction_of, row_of}
use Rattle.view_camera.specs.declared.cameras.Camera.TheInside.{Inside}

-- the ranges of a camera's fields
pub record IsCamera (c : Inside) : Type 0 where
  pub focal_low : 1 ≤ c.focal
  pub focal_high : c.focal ≤ MAX_FOCAL
  pub near_low : MIN_NEAR ≤ c.near
  pub near_high : c.near ≤ MAX_NEAR
  pub tolerance_high : c.tolerance ≤ MAX_TOLERANCE
  pub eye : IsEye c.eye
  pub right : IsRotationRow c.right
  pub down : IsRotationRow c.down
  pub forward : IsRotationRow c.forward

abbrev pub view_of : Inside → View
view_of c = record {
  focal = c.focal;
  near = c.near;
  tolerance = c.tolerance;
  eye = c.eye;
  right = direction_of c.right;
  down = direction_of c.down;
  forward = direction_of c.forward;
}

abbrev pub fields_of : View → Inside
fields_of v = record {
  focal = v.focal;
  near = v.near;
  tolerance = v.tolerance;
  eye = v.eye;
  right = row_of v.right;
  down = row_of v.down;
  forward = row_of v.forward;
}
