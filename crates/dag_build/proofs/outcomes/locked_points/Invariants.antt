use Rattle.std.proofs.Common.{◌≤◌, ◌*◌, map, length, take}
use Rattle.geom_core.specs.declared.limits.TheConstants.{TRIANGLES_PER_CLUSTER}
use Rattle.half_mesh.specs.Rim.{AreRimsOf}
use Rattle.dag_build.specs.Levels.{tris_in}
use Rattle.dag_build.proofs.MemberLaws.{lists_of}
use Rattle.dag_build.proofs.outcomes.locked_points.Given as goal

-- the rims of the members so far, which have few triangles
abbrev pub invariant-loop-member : goal.invariant-loop-member
invariant-loop-member l = record {
  rims : AreRimsOf (lists_of (take l.member-index l.members)) (map (λ part. part.now) l.rims.items);
  few : length (tris_in (take l.member-index l.members)) ≤ TRIANGLES_PER_CLUSTER * l.member-index;
}
