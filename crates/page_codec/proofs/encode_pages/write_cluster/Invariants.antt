use Rattle.std.proofs.Common.{◌≡◌, ◌+◌, ◌*◌, ◌≤◌, ◌++◌, length, take}
use Rattle.page_codec.specs.Spelling.{cluster_bytes}
use Rattle.page_codec.proofs.encode_pages.write_cluster.Given as goal

abbrev pub invariant-triangles : goal.invariant-triangles
invariant-triangles l = record {
  place : l.end ≡ l.at + 40 * l.t-index;
  room : l.at + 40 * length l.tris ≤ length l.into;
  written : take l.end l.into ≡ take l.at l.initial.into ++ cluster_bytes (take l.t-index l.tris);
}
