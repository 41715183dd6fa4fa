use Rattle.raster64.proofs.SharedEdgeLaws.{shared_edge}
use Rattle.raster64.proofs.laws.shared_edge_is_drawn_once.Goals as goal

pub returns : goal.returns
returns c = shared_edge
