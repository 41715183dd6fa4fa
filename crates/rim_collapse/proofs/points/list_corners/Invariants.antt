use Rattle.std.proofs.Common.{◌≡◌, flat_map, take}
use Rattle.geom_core.specs.TaggedLists.{tris_of}
use Rattle.rim_collapse.specs.Internal.Points.{corners_of}
use Rattle.rim_collapse.proofs.points.list_corners.Given as goal

abbrev pub invariant-loop-tagged : goal.invariant-loop-tagged
invariant-loop-tagged l = l.corners.items ≡ flat_map corners_of (tris_of (take l.tagged-index l.tris))
