use Rattle.std.proofs.Common.{sym}
use Rattle.half_mesh.proofs.TableLaws.{around_is}
use Rattle.half_mesh.proofs.tables.EdgeTable.around.Goals as goal

pub returns : goal.returns
returns c =
    rw (c.deref-2.ensures.value, sym c.self.view_is)
    (around_is c.self.inside.tris.now c.self.inside.corners.items c.self.inside.numbers.items c.args.p
    c.range_at-from.result.0 c.range_at-from.result.1 c.self.invariant.numbered
    (rw c.deref.ensures.value at c.range_at-from.ensures.group) (c.self.invariant.groups c.args.p))
