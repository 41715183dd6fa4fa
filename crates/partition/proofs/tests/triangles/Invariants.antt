use Rattle.std.proofs.Common.{◌≡◌, length, All}
use Rattle.geom_core.specs.Limits.{HasGridCorners}
use Rattle.partition.proofs.tests.triangles.Given as goal

abbrev pub invariant-loop-corners : goal.invariant-loop-corners
invariant-loop-corners l = (length l.tris.items ≡ l.corners-index) × All HasGridCorners l.tris.items
