use Rattle.std.proofs.Common.{◌≡◌, not, ap, sym, ◌∙◌, arith, below_more, length}
use Rattle.dag_core.specs.TriangleRules.{breaks_corners}
use Rattle.dag_soundness.proofs.NearLaws.{corners-at}
use Rattle.dag_soundness.proofs.NumberLaws.{find_first, find_none}
use Rattle.dag_soundness.proofs.leaf_places.first_corner_break.Goals as goal

pub returns-then-not-is_cluster_near : goal.returns-then-not-is_cluster_near
returns-then-not-is_cluster_near c =
    let count : length c.as_slice-c-end.result.now ≡ length c.args.dag.now.heads.clusters =
    ap length c.as_slice-c-end.ensures in
    let dag = c.args.dag.now in
    record {
      cluster = sym (find_first (breaks_corners dag) (length dag.heads.clusters) c.clusters.c (omega arith)
          c.clusters.invariant
          (corners-at dag c.clusters.c (omega arith) ∙ ap not (sym c.if-not-is_cluster_near.ensures.near)));
    }

pub clusters-preserved : goal.clusters-preserved
clusters-preserved c =
    let count : length c.as_slice-c-end.result.now ≡ length c.args.dag.now.heads.clusters =
    ap length c.as_slice-c-end.ensures in
    below_more _ _ c.clusters.invariant
    (corners-at c.args.dag.now c.clusters.c (omega arith) ∙ ap not (sym c.if-not-is_cluster_near.ensures.near))

pub returns : goal.returns
returns c =
    let count : length c.as_slice-c-end.result.now ≡ length c.args.dag.now.heads.clusters =
    ap length c.as_slice-c-end.ensures in
    record {
      cluster = sym (find_none (breaks_corners c.args.dag.now) (length c.args.dag.now.heads.clusters)
          (λ k below. c.clusters.invariant k (omega arith)));
    }
