use Rattle.std.proofs.Common.{◌≡◌, take}
use Rattle.half_mesh.specs.Corners.{corners_of}
use Rattle.half_mesh.proofs.corners.list_corners.Given as goal

-- the corners of the triangles so far
abbrev pub invariant-loop-number : goal.invariant-loop-number
invariant-loop-number l = l.corners.items ≡ corners_of (take l.number l.tris)
