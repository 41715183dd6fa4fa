use Rattle.std.proofs.Common.{◌≡◌, ◌+◌, ◌≤◌, ◌++◌, length, take, drop}
use Rattle.std.specs.List.{flat_map}
use Rattle.page_codec.specs.Spelling.{cluster_bytes}
use Rattle.page_codec.proofs.encode_pages.write_clusters.Given as goal

abbrev pub invariant-clusters : goal.invariant-clusters
invariant-clusters l = record {
  place : l.end ≡ l.at + length (flat_map cluster_bytes (take l.tris-index l.clusters));
  room : l.end + length (flat_map cluster_bytes (drop l.tris-index l.clusters)) ≤ length l.into;
  written : take l.end l.into ≡ take l.at l.initial.into ++ flat_map cluster_bytes (take l.tris-index l.clusters);
}
