use Rattle.std.proofs.Common.{length}
use Rattle.dag_core.proofs.CornerLaws.{corners_stay_within}
use Rattle.dag_core.specs.Cuts.{is_in_cut}
use Rattle.dag_core.proofs.PathLaws.{below_filter}
use Rattle.dag_core.proofs.cut_laws.corners_stay_within.Goals as goal

pub returns : goal.returns
returns c = record {
  within = λ dag lens resident c other sound has.
      corners_stay_within dag c other sound
      (below_filter (is_in_cut dag.heads lens resident) (length dag.heads.clusters) c has);
}
