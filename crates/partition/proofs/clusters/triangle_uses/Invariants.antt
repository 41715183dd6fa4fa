use Rattle.std.proofs.Common.{◌≡◌, map, take}
use Rattle.geom_core.specs.EdgeSum.{edges_of}
use Rattle.partition.specs.Internal.EdgeUses.{in_order, uses_from}
use Rattle.partition.proofs.clusters.triangle_uses.Given as goal

abbrev pub invariant-loop-place : goal.invariant-loop-place
invariant-loop-place l = l.uses.items ≡ uses_from 0 (in_order (map edges_of l.tris) (take l.place l.order))
