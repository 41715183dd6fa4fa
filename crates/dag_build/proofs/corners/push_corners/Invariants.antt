use Rattle.std.proofs.Common.{◌≡◌, ◌++◌, take, flat_map}
use Rattle.geom_core.specs.TaggedLists.{tris_of}
use Rattle.dag_build.specs.Grouping.{corners_of}
use Rattle.dag_build.proofs.corners.push_corners.Given as goal

abbrev pub invariant-loop-t : goal.invariant-loop-t
invariant-loop-t l = l.points.items ≡ l.fn.points.items ++ flat_map corners_of (tris_of (take l.t-index l.tris))
