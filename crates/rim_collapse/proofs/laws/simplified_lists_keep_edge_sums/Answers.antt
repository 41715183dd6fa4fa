use Rattle.rim_collapse.proofs.Following.{simplified-sums}
use Rattle.rim_collapse.proofs.laws.simplified_lists_keep_edge_sums.Goals as goal

pub returns : goal.returns
returns c = simplified-sums
