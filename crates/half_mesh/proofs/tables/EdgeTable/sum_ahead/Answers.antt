use Rattle.std.proofs.Common.{◌≡◌, ◌≤◌, ℤ, ap, get_or, cond, pos, w32, to_z, of_z, unsigned_abs, sym}
use Rattle.geom_core.specs.declared.limits.TheConstants.{MAX_SUMMED_TRIANGLES}
use Rattle.geom_core.specs.EdgeSum.{edge_sum}
use Rattle.geom_core.specs.Order.{is_before}
use Rattle.half_mesh.proofs.TableLaws.{sorted_from_ascending, sum_there, sum_absent}
use Rattle.half_mesh.proofs.tables.EdgeTable.sum_ahead.Goals as goal

pub position_of-requires : goal.position_of-requires
position_of-requires c = record {
  sorted = rw c.edges.ensures.edges (sorted_from_ascending c.self.inside.rim.edges c.self.invariant.rim.ascending);
}

abbrev read : goal.After-result-1 → ℤ
read c = get_or c.sums.result.now c.in-Some.place (pos 0)

-- the sum at the place that was found
there : (c : goal.After-result-1) →
    (to_z w32 (of_z w32 (read c)) ≡
    (cond (is_before c.args.u c.args.v) (edge_sum c.self.inside.tris.now c.args.u c.args.v) (pos 0))) ×
    (unsigned_abs (to_z w32 (of_z w32 (read c))) ≤ MAX_SUMMED_TRIANGLES)
there c =
    sum_there c.self.inside.tris.now c.self.inside.rim.edges c.self.inside.rim.sums c.args.u c.args.v
    c.in-Some.place (read c) (pos 0) c.self.invariant.rim c.self.invariant.triangle_limit
    (rw c.edges.ensures.edges at c.in-Some.ensures.place) (rw c.edges.ensures.edges at c.in-Some.ensures.found)
    (ap (λ l. get_or l c.in-Some.place (pos 0)) c.sums.ensures.sums)

pub returns-in-Some-clause-sum : goal.returns-in-Some-clause-sum
returns-in-Some-clause-sum c = rw (sym c.self.view_is) (there c).0

pub returns-in-Some-clause-sum_range : goal.returns-in-Some-clause-sum_range
returns-in-Some-clause-sum_range c = (there c).1

pub returns-in-None-clause-sum : goal.returns-in-None-clause-sum
returns-in-None-clause-sum c =
    rw (sym c.self.view_is)
    (sum_absent c.self.inside.tris.now c.self.inside.rim.edges c.self.inside.rim.sums c.args.u c.args.v
    c.self.invariant.rim (rw c.edges.ensures.edges at c.in-None.ensures.absent))
