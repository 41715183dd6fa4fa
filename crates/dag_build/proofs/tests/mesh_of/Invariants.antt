use Rattle.std.proofs.Common.{All}
use Rattle.geom_core.specs.Limits.{IsGridTriangle}
use Rattle.dag_build.proofs.tests.mesh_of.Given as goal

abbrev pub invariant-loop-tri : goal.invariant-loop-tri
invariant-loop-tri l = All IsGridTriangle l.mesh.items
