use Rattle.dag_core.proofs.OpenLaws.{home_is_open}
use Rattle.dag_core.proofs.cut_laws.open_passes_to_the_home.Goals as goal

pub returns : goal.returns
returns c = record {
  «open» = λ heads lens resident c maker range checked closed below made is.
      home_is_open heads lens resident c maker range checked closed below made is;
}
