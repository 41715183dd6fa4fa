use Rattle.std.proofs.Common.{◌≡◌, length, take, All}
use Rattle.partition.specs.Groups.{IsGridShape}
use Rattle.dag_build.specs.Grouping.{AreShapesOf}
use Rattle.dag_build.proofs.members.shapes_of.Given as goal

abbrev pub invariant-loop-cluster : goal.invariant-loop-cluster
invariant-loop-cluster l = record {
  shapes : AreShapesOf (take l.cluster-index l.clusters) l.shapes.items;
  range : All IsGridShape l.shapes.items;
  count : length l.shapes.items ≡ l.cluster-index;
}
