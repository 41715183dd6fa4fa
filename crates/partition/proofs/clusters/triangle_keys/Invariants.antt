use Rattle.std.proofs.Common.{◌≡◌, map, take}
use Rattle.partition.specs.Clusters.{triangle_key}
use Rattle.partition.proofs.clusters.triangle_keys.Given as goal

abbrev pub invariant-loop-t : goal.invariant-loop-t
invariant-loop-t l = l.keys.items ≡ map triangle_key (take l.t-index l.tris)
