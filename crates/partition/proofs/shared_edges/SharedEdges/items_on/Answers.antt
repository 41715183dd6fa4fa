use Rattle.std.proofs.Common.{◌+◌, arith}
use Rattle.std.proofs.lemmas.List.{get_or_read}
use Rattle.partition.proofs.SharedEdgeLists.{edge_is_at}
use Rattle.partition.proofs.shared_edges.SharedEdges.items_on.Goals as goal

pub index-requires : goal.index-requires
index-requires c =
    let s = c.self.inside in
    let is =
    edge_is_at s.items.items s.starts.items c.args.self.now c.args.edge c.self.invariant c.self.view_is
    c.requires in
    omega (arith, s.starts.ok.0)

pub overflow_add-edge : goal.overflow_add-edge
overflow_add-edge c =
    let s = c.self.inside in
    let is =
    edge_is_at s.items.items s.starts.items c.args.self.now c.args.edge c.self.invariant c.self.view_is
    c.requires in
    omega (arith, s.starts.ok.0)

pub index-requires-2 : goal.index-requires-2
index-requires-2 c =
    let s = c.self.inside in
    let is =
    edge_is_at s.items.items s.starts.items c.args.self.now c.args.edge c.self.invariant c.self.view_is
    c.requires in
    omega (arith, s.starts.ok.0)

pub between-requires-clause-ordered : goal.between-requires-clause-ordered
between-requires-clause-ordered c =
    let s = c.self.inside in
    let is =
    edge_is_at s.items.items s.starts.items c.args.self.now c.args.edge c.self.invariant c.self.view_is
    c.requires in
    let start = get_or_read s.starts.items c.args.edge c.index.result.now (omega arith) c.index.ensures 0 in
    let end = get_or_read s.starts.items (c.args.edge + 1) c.index-2.result.now (omega arith) c.index-2.ensures 0 in
    omega arith

pub between-requires-clause-within : goal.between-requires-clause-within
between-requires-clause-within c =
    let s = c.self.inside in
    let is =
    edge_is_at s.items.items s.starts.items c.args.self.now c.args.edge c.self.invariant c.self.view_is
    c.requires in
    let end = get_or_read s.starts.items (c.args.edge + 1) c.index-2.result.now (omega arith) c.index-2.ensures 0 in
    omega (arith, c.deref.ensures.len, s.items.ok.0)

pub returns : goal.returns
returns c =
    let s = c.self.inside in
    let is =
    edge_is_at s.items.items s.starts.items c.args.self.now c.args.edge c.self.invariant c.self.view_is
    c.requires in
    let start = get_or_read s.starts.items c.args.edge c.index.result.now (omega arith) c.index.ensures 0 in
    let end = get_or_read s.starts.items (c.args.edge + 1) c.index-2.result.now (omega arith) c.index-2.ensures 0 in
    let value = c.between.ensures in
    let all = c.deref.ensures.value in
    rw (is.is, ← start, ← end, ← all) value
