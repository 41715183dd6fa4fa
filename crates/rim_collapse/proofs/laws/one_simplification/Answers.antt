use Rattle.rim_collapse.proofs.Determined.{one_simplification}
use Rattle.rim_collapse.proofs.laws.one_simplification.Goals as goal

pub returns : goal.returns
returns c = one_simplification
