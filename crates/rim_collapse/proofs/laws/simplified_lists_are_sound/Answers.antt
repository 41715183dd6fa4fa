use Rattle.rim_collapse.proofs.Following.{simplified-sound}
use Rattle.rim_collapse.proofs.laws.simplified_lists_are_sound.Goals as goal

pub returns : goal.returns
returns c = simplified-sound
