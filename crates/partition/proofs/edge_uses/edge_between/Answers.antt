use Rattle.std.proofs.Common.{◌≡◌, true, false, sym, ◌∙◌}
use Rattle.std.proofs.lemmas.Bool.{cond-true, cond-false}
use Rattle.std.specs.Ordering.{is_le, int_cmp}
use Rattle.geom_core.specs.Order.{point_cmp}
use Rattle.half_mesh.specs.declared.edges.Edge.{Edge}
use Rattle.partition.proofs.SameEdges.{partial_below}
use Rattle.partition.specs.Internal.EdgeUses.{edge_of}
use Rattle.partition.proofs.edge_uses.edge_between.Goals as goal

pub returns-then-le-clause-edge : goal.returns-then-le-clause-edge
unfolding edge_of
returns-then-le-clause-edge c =
    let e : is_le (point_cmp c.args.p c.args.q) ≡ true =
    sym (partial_below (int_cmp c.args.p.x c.args.q.x) (int_cmp c.args.p.y c.args.q.y)
    (int_cmp c.args.p.z c.args.q.z)) ∙ sym c.if-le.ensures in
    sym (cond-true {A = Edge} (is_le (point_cmp c.args.p c.args.q)) (record { u = c.args.p; v = c.args.q })
    (record { u = c.args.q; v = c.args.p }) e)

pub returns-else-le-clause-edge : goal.returns-else-le-clause-edge
unfolding edge_of
returns-else-le-clause-edge c =
    let e : is_le (point_cmp c.args.p c.args.q) ≡ false =
    sym (partial_below (int_cmp c.args.p.x c.args.q.x) (int_cmp c.args.p.y c.args.q.y)
    (int_cmp c.args.p.z c.args.q.z)) ∙ sym c.if-le.ensures in
    sym (cond-false {A = Edge} (is_le (point_cmp c.args.p c.args.q)) (record { u = c.args.p; v = c.args.q })
    (record { u = c.args.q; v = c.args.p }) e)
