use Rattle.std.proofs.Common.{sym}
use Rattle.std.proofs.lemmas.Slice.Eq.{slice_eq-Decides}
use Rattle.std.proofs.lemmas.Bool.Decides.{Decides-int_eq}
use Rattle.half_mesh.proofs.RimLaws.{edge_decides, same_edges_first, other_edges, same_where_sums_agree}
use Rattle.half_mesh.proofs.rims.Rim.has_same.Goals as goal

pub returns-then-eq-clause-same : goal.returns-then-eq-clause-same
returns-then-eq-clause-same c =
    rw (sym c.self.view_is, sym c.other.view_is)
    (same_edges_first c.self.inside.edges.items c.other.inside.edges.items c.self.inside.sums.items
    c.other.inside.sums.items
    c.eq.result c.eq-then-eq.result
    (rw (c.as_slice.ensures.value, c.as_slice-2.ensures.value) at
    (slice_eq-Decides edge_decides c.as_slice.result.now c.as_slice-2.result.now c.eq.result c.eq.ensures))
    (rw (c.as_slice-then-eq.ensures.value, c.as_slice-then-eq-2.ensures.value) at
    (slice_eq-Decides Decides-int_eq c.as_slice-then-eq.result.now c.as_slice-then-eq-2.result.now c.eq-then-eq.result
    c.eq-then-eq.ensures))
    c.if-eq.true)

pub returns-else-eq-clause-same : goal.returns-else-eq-clause-same
returns-else-eq-clause-same c =
    rw (sym c.self.view_is, sym c.other.view_is)
    (other_edges c.self.inside.edges.items c.other.inside.edges.items c.self.inside.sums.items c.other.inside.sums.items
    c.eq.result
    (rw (c.as_slice.ensures.value, c.as_slice-2.ensures.value) at
    (slice_eq-Decides edge_decides c.as_slice.result.now c.as_slice-2.result.now c.eq.result c.eq.ensures))
    c.if-eq.false)

pub returns-then-eq-clause-sums : goal.returns-then-eq-clause-sums
returns-then-eq-clause-sums c =
    same_where_sums_agree c.eq-then-eq.result c.args.self.now c.args.other.now (returns-then-eq-clause-same c)

pub returns-else-eq-clause-sums : goal.returns-else-eq-clause-sums
returns-else-eq-clause-sums c =
    same_where_sums_agree c.eq.result c.args.self.now c.args.other.now (returns-else-eq-clause-same c)
