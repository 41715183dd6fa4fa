use Rattle.shape_gen.proofs.ReadBack.{mesh-box}
use Rattle.shape_gen.proofs.laws.box_texts_read_back.Goals as goal

pub returns : goal.returns
returns c = mesh-box
