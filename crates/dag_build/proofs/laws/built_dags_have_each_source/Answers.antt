use Rattle.dag_build.proofs.SourceTris.{each_source, source_is}
use Rattle.dag_build.proofs.laws.built_dags_have_each_source.Goals as goal

pub returns : goal.returns
returns c = record { once = each_source; mesh = source_is }
