use Rattle.std.proofs.lemmas.List.Elements.{All-push}
use Rattle.partition.specs.Groups.{IsGridShape}
use Rattle.geode_bench.proofs.first_level.shapes_of.Goals as goal

pub loop-cluster-preserved : goal.loop-cluster-preserved
loop-cluster-preserved c =
    rw c.in_ok-push.ensures.items (All-push IsGridShape c.loop-cluster.shapes.items c.in_ok-shape.shape
    c.loop-cluster.invariant c.in_ok-shape.ensures.shape)
