use Rattle.half_mesh.proofs.EdgeLaws.{point_from_equal}
use Rattle.rim_collapse.specs.Internal.Faces.{origin, point_at}
use Rattle.rim_collapse.proofs.FaceLaws.{listed-found}
use Rattle.rim_collapse.proofs.points.number_of.Goals as goal

pub returns-in-Ok-clause-point : goal.returns-in-Ok-clause-point
unfolding point_at
returns-in-Ok-clause-point c = point_from_equal _ c.args.p (c.in-Ok.ensures.ok origin)

pub returns-in-Err-clause-number : goal.returns-in-Err-clause-number
returns-in-Err-clause-number c =
    absurd (listed-found c.args.points.now c.args.p c.binary_search.result c.in-Err.number
    c.binary_search.ensures.position c.requires.ascending c.requires.listed c.in-Err.is)

pub returns-in-Err-clause-point : goal.returns-in-Err-clause-point
returns-in-Err-clause-point c =
    absurd (listed-found c.args.points.now c.args.p c.binary_search.result c.in-Err.number
    c.binary_search.ensures.position c.requires.ascending c.requires.listed c.in-Err.is)
