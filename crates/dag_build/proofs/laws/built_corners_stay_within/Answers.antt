use Rattle.dag_build.proofs.SourceTris.{corners}
use Rattle.dag_build.proofs.laws.built_corners_stay_within.Goals as goal

pub returns : goal.returns
returns c = record { within = corners }
