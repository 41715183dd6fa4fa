use Rattle.geom_core.proofs.CollapseCounts.{length-le-collapsed, length-lt-collapsed}
use Rattle.geom_core.proofs.laws.collapses_leave_fewer_triangles.Goals as goal

pub returns-clause-at_most : goal.returns-clause-at_most
returns-clause-at_most c = length-le-collapsed

pub returns-clause-fewer : goal.returns-clause-fewer
returns-clause-fewer c = length-lt-collapsed
