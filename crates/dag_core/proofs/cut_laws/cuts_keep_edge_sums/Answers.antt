use Rattle.dag_core.proofs.CutEdgeLaws.{cuts_keep_edge_sums}
use Rattle.dag_core.proofs.cut_laws.cuts_keep_edge_sums.Goals as goal

pub returns : goal.returns
returns c = record {
  sums = λ dag lens resident sound closed u v.
      cuts_keep_edge_sums dag lens resident u v sound closed;
}
