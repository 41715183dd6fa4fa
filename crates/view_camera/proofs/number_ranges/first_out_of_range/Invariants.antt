-- what the numbers from here on give is what all give
use Rattle.std.proofs.Common.{◌≡◌, drop}
use Rattle.view_camera.specs.CameraNumbers.{first_outside}
use Rattle.view_camera.proofs.number_ranges.first_out_of_range.Given as goal

abbrev pub invariant-loop-field : goal.invariant-loop-field
invariant-loop-field l =
    first_outside l.field (drop l.field l.ranges) (drop l.field l.numbers) ≡ first_outside 0 l.ranges l.numbers
