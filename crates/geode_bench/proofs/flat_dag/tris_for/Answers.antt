use Rattle.std.proofs.Common.{All, ap, ◌∙◌}
use Rattle.std.proofs.lemmas.List.Elements.{All-push}
use Rattle.dag_core.specs.TriangleRules.{IsSourcedTriangle}
use Rattle.geode_bench.proofs.FlatLaws.{sizes_of, sizes_more}
use Rattle.geode_bench.proofs.flat_dag.tris_for.Goals as goal

pub clusters-preserved : goal.clusters-preserved
clusters-preserved c =
    let pushed = c.in_ok-push.ensures.items in
    let members = c.in_ok-triangles.field-0 in
    let made = c.in_ok-triangles.ensures in
    let before = c.clusters.tris.items in
    record {
      counts = ap sizes_of pushed ∙ sizes_more before members c.args.clusters.now c.clusters.cluster-index _
          c.clusters-test.true c.clusters.invariant.counts made.count;
      triangles = rw pushed (All-push (All (IsSourcedTriangle 1)) before members c.clusters.invariant.triangles
          made.triangles);
    }
