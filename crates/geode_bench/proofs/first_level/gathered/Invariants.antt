use Rattle.std.proofs.Common.{◌≤◌, length, All}
use Rattle.geom_core.specs.declared.limits.TheConstants.{TRIANGLES_PER_GROUP}
use Rattle.geom_core.specs.Limits.{IsGridTriangle}
use Rattle.geom_core.specs.TaggedLists.{tris_of}
use Rattle.geode_bench.proofs.first_level.gathered.Given as goal

-- the triangles so far are few enough for a group, and each is one of a mesh
abbrev pub invariant-loop-number : goal.invariant-loop-number
invariant-loop-number l = record {
  count : length l.listed.items ≤ TRIANGLES_PER_GROUP;
  range : All IsGridTriangle (tris_of l.listed.items);
}
