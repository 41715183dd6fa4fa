use Rattle.shape_gen.proofs.ClosedBox.{edge_sum-box}
use Rattle.shape_gen.proofs.laws.boxes_are_closed.Goals as goal

pub returns : goal.returns
returns c = edge_sum-box
