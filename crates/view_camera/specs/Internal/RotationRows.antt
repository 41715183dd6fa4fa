-- The rows of a camera's rotation, as fields and as directions.
use Rattle.std.specs.Prelude.{◌≤◌, unsigned_abs}
use Rattle.geom_core.specs.declared.limits.TheConstants.{ROTATION_ONE}
use Rattle.geom_core.specs.Camera.{Direction}
use Rattle.view_camera.specs.declared.rotation.RotationRow.{RotationRow}

-- each entry is from -1 to 1, in 1/ROTATION_ONE
pub record IsRotationRow (row : RotationRow) : Type 0 where
  pub x : unsigned_abs row.x ≤ ROTATION_ONE
  pub y : unsigned_abs row.y ≤ ROTATION_ONE
  pub z : unsigned_abs row.z ≤ ROTATION_ONE

abbrev pub direction_of : RotationRow → Direction
direction_of row = record { x = row.x; y = row.y; z = row.z }

abbrev pub row_of : Direction → RotationRow
row_of d = record { x = d.x; y = d.y; z = d.z }
