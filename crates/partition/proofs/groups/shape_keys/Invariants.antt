use Rattle.std.proofs.Common.{◌≡◌, map, take}
use Rattle.partition.specs.Groups.{shape_key}
use Rattle.partition.proofs.groups.shape_keys.Given as goal

abbrev pub invariant-loop-shape : goal.invariant-loop-shape
invariant-loop-shape l = l.keys.items ≡ map shape_key (take l.shape-index l.shapes)
