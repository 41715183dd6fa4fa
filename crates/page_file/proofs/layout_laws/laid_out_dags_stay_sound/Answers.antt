use Rattle.page_file.proofs.LaidTriangles.{same_rules, stays_sound, same_source}
use Rattle.page_file.proofs.layout_laws.laid_out_dags_stay_sound.Goals as goal

pub returns-clause-rules : goal.returns-clause-rules
returns-clause-rules c = same_rules

pub returns-clause-sound : goal.returns-clause-sound
returns-clause-sound c = stays_sound

pub returns-clause-source : goal.returns-clause-source
returns-clause-source c = same_source
