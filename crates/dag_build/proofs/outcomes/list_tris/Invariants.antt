use Rattle.std.proofs.Common.{◌≡◌, ◌≤◌, ◌*◌, length, take, All}
use Rattle.geom_core.specs.declared.limits.TheConstants.{TRIANGLES_PER_CLUSTER}
use Rattle.geom_core.specs.Limits.{IsGridTriangle}
use Rattle.geom_core.specs.TaggedLists.{tris_of}
use Rattle.dag_build.specs.Levels.{tris_in}
use Rattle.dag_build.proofs.outcomes.list_tris.Given as goal

abbrev pub invariant-loop-member : goal.invariant-loop-member
invariant-loop-member l = record {
  triangles : l.tris.items ≡ tris_in (take l.member-index l.members);
  limit : length l.tris.items ≤ TRIANGLES_PER_CLUSTER * l.member-index;
  range : All IsGridTriangle (tris_of l.tris.items);
}
