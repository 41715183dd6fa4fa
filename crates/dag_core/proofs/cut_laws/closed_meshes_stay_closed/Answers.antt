use Rattle.dag_core.proofs.CutEdgeLaws.{cuts_keep_edge_sums}
use Rattle.std.proofs.Common.{◌∙◌}
use Rattle.dag_core.proofs.cut_laws.closed_meshes_stay_closed.Goals as goal

pub returns : goal.returns
returns c = record {
  closed = λ dag lens resident sound closed all u v.
      cuts_keep_edge_sums dag lens resident u v sound closed ∙ all u v;
}
