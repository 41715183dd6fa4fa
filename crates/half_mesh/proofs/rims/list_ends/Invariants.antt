use Rattle.std.proofs.Common.{◌≡◌, take}
use Rattle.half_mesh.specs.Rim.{ends_of}
use Rattle.half_mesh.proofs.rims.list_ends.Given as goal

-- the points of the edges so far
abbrev pub invariant-loop-edge : goal.invariant-loop-edge
invariant-loop-edge l = l.points.items ≡ ends_of (take l.edge-index l.edges)
