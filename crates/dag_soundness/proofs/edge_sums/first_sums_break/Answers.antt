use Rattle.std.proofs.Common.{◌≡◌, ◌≤◌, ◌∙◌, All, List, ap, sym, subst, arith, length}
use Rattle.geom_core.specs.declared.limits.TheConstants.{TRIANGLES_PER_CLUSTER}
use Rattle.geom_core.specs.declared.triangles.Tagged.{Tagged}
use Rattle.dag_core.specs.TriangleRules.{breaks_sums}
use Rattle.dag_soundness.proofs.NumberLaws.{find_first, find_none}
use Rattle.dag_soundness.proofs.PartLaws.{cluster_sizes}
use Rattle.dag_soundness.proofs.edge_sums.first_sums_break.Goals as goal

pub cluster_rims-requires : goal.cluster_rims-requires
cluster_rims-requires c =
    let dag = c.args.dag.now in
    record {
      triangle_limit = subst (All (λ (ts : List Tagged). length ts ≤ TRIANGLES_PER_CLUSTER)) (sym c.as_slice.ensures)
          (cluster_sizes dag c.requires.laid_out);
    }

pub returns-then-branch : goal.returns-then-branch
returns-then-branch c =
    let dag = c.args.dag.now in
    let count : length c.as_slice-2.result.now ≡ length c.args.dag.now.heads.groups = ap length c.as_slice-2.ensures in
    record {
      group = sym (find_first (breaks_sums dag) (length dag.heads.groups) c.groups.g (omega arith) c.groups.invariant
          (sym c.in_ok-breaks_sums.ensures.broken ∙ c.if-branch.true));
    }

pub returns : goal.returns
returns c =
    let dag = c.args.dag.now in
    let count : length c.as_slice-2.result.now ≡ length c.args.dag.now.heads.groups = ap length c.as_slice-2.ensures in
    record {
      group = sym (find_none (breaks_sums dag) (length dag.heads.groups)
          (λ k below. c.groups.invariant k (omega arith)));
    }
