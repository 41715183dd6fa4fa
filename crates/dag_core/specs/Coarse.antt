-- Whether an error is seen: the test of detail. It is over an error and a box, so that a group and a box round many
-- groups are tested by the same word.
use Rattle.std.specs.Prelude.{Bool, nat_lt, ℕ, ◌*◌, max}
use Rattle.geom_core.specs.declared.limits.TheConstants.{SUBPIXELS}
use Rattle.geom_core.specs.declared.boxes.Cube.{Cube}
use Rattle.geom_core.specs.declared.views.Lens.{Lens}
use Rattle.geom_core.specs.Distance.{box_distance}
use Rattle.dag_core.specs.declared.groups.Group.{Group}

-- an error in a box is coarse: from the eye it is seen as more sixteenths of a pixel than the tolerance. The distance
-- is
-- that from the box to the eye, and 1 at least
unfoldable pub is_coarse : ℕ → Cube → Lens → Bool
is_coarse error cube lens =
    nat_lt (lens.tolerance * max 1 (box_distance cube lens.eye)) (error * lens.focal * SUBPIXELS)

-- a group whose error is coarse in its own box
abbrev pub is_coarse_group : Lens → Group → Bool
is_coarse_group lens group = is_coarse group.error group.cube lens
