use Rattle.std.proofs.Common.{All}
use Rattle.geom_core.specs.Limits.{IsGridTriangle}
use Rattle.geom_core.specs.TaggedLists.{tris_of}
use Rattle.rim_collapse.proofs.tests.triangles.Given as goal

abbrev pub invariant-loop-name : goal.invariant-loop-name
invariant-loop-name l = All IsGridTriangle (tris_of l.tris.items)
