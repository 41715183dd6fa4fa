use Rattle.std.proofs.Common.{sym}
use Rattle.geom_core.proofs.PointLaws.{same_point-eq}
use Rattle.rim_collapse.proofs.corners.is_same.Goals as goal

pub returns : goal.returns
returns c = sym (same_point-eq c.args.p c.args.q c.eq.result c.eq.ensures)
