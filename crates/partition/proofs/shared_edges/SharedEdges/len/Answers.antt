use Rattle.std.proofs.Common.{ap, length, arith}
use Rattle.partition.proofs.SharedEdgeLists.{length-shared_edges_of}
use Rattle.partition.proofs.shared_edges.SharedEdges.len.Goals as goal

pub returns : goal.returns
returns c =
    let s = c.self.inside in
    omega (
      arith,
      c.saturating_sub.ensures,
      c.len.ensures,
      length-shared_edges_of s.items.items s.starts.items,
      ap length c.self.view_is,
      s.starts.ok.0,
    )
