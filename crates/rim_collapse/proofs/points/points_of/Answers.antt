use Rattle.std.proofs.Common.{flat_map, length, ap, arith}
use Rattle.geom_core.specs.TaggedLists.{tris_of}
use Rattle.half_mesh.proofs.RimLaws.{ArePointsOf, points_from_sorted}
use Rattle.rim_collapse.specs.Internal.Points.{corners_of}
use Rattle.rim_collapse.proofs.StepLaws.{corners-listed, length-corners}
use Rattle.rim_collapse.proofs.points.points_of.Goals as goal

points_are : (c : goal.After-dedup) → ArePointsOf (flat_map corners_of (tris_of c.args.tris.now)) c.dedup.new.self.items
points_are c =
    points_from_sorted (flat_map corners_of (tris_of c.args.tris.now)) c.sort_unstable.new.self.items
    c.dedup.new.self.items
    (rw c.in_ok-points.ensures at c.sort_unstable.ensures.permutation)
    c.sort_unstable.ensures.sorted c.dedup.ensures.filtered

pub returns-clause-ascending : goal.returns-clause-ascending
returns-clause-ascending c = (points_are c).ascending

pub returns-clause-corners : goal.returns-clause-corners
returns-clause-corners c = λ p corner. ((points_are c).same p).1 (corners-listed p (tris_of c.args.tris.now) corner)

pub returns-clause-count : goal.returns-clause-count
returns-clause-count c =
    let corners = length-corners c.args.tris.now in
    let listed = ap length c.in_ok-points.ensures in
    omega (arith, corners, listed, c.sort_unstable.ensures.len, c.dedup.ensures.bound)
