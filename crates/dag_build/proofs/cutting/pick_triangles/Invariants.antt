use Rattle.std.proofs.Common.{◌≡◌, take}
use Rattle.partition.specs.Batches.{pick}
use Rattle.dag_build.specs.Grouping.{no_triangle}
use Rattle.dag_build.proofs.cutting.pick_triangles.Given as goal

abbrev pub invariant-loop-number : goal.invariant-loop-number
invariant-loop-number l = l.picked.items ≡ pick l.tris no_triangle (take l.number-index l.numbers)
