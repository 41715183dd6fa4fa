-- What the bytes of a page, a directory and a header read as.
use Rattle.std.specs.Prelude.{ℕ, ◌+◌, ◌*◌, List, [], ◌∷◌, drop, slice_index, slice_range}
use Rattle.geom_core.specs.declared.limits.TheConstants.{TRIANGLE_BYTES}
use Rattle.geom_core.specs.declared.triangles.Tagged.{Tagged}
use Rattle.geom_core.specs.declared.digests.Digest32.{Digest32}
use Rattle.dag_core.specs.declared.counts.Counts.{Counts}
use Rattle.dag_core.specs.declared.heads.Heads.{Heads}
use Rattle.dag_core.specs.Members.{cluster_at}
use Rattle.dag_core.specs.Pages.{clusters_on}
use Rattle.page_codec.specs.declared.sizes.TheConstants.{HEADER_BYTES, COUNTS_END, GROUP_BYTES, CLUSTER_BYTES}
use Rattle.page_codec.specs.declared.sizes.TheConstants.{DIGEST_BYTES}
use Rattle.page_codec.specs.declared.pages.PageCluster.{PageCluster}
use Rattle.page_codec.specs.declared.pages.Page.{Page}
use Rattle.page_codec.specs.declared.directories.Directory.{Directory}
use Rattle.page_codec.specs.declared.headers.Header.{Header}
use Rattle.page_codec.specs.Numbers.{records, numbers_of}
use Rattle.page_codec.specs.Records.{triangle_of, group_of, head_of}

-- the n triangles that the bytes begin with
unfoldable pub triangles_of : ℕ → List ℕ → List Tagged
triangles_of n bytes = records triangle_of TRIANGLE_BYTES n bytes

-- these clusters, one after the other, each with as many triangles as its head states
abbrev pub clusters_of : Heads → List ℕ → List ℕ → List PageCluster
clusters_of heads [] bytes = []
clusters_of heads (c ∷ cs) bytes =
    record { number = c; tris = triangles_of (cluster_at heads c).tris bytes }
    ∷ clusters_of heads cs (drop (TRIANGLE_BYTES * (cluster_at heads c).tris) bytes)

-- page p of a file with these heads
unfoldable pub page_of : Heads → ℕ → List ℕ → Page
page_of heads p bytes = record { number = p; clusters = clusters_of heads (clusters_on heads p) bytes }

abbrev pub digest_of : List ℕ → Digest32
digest_of bytes = record { bytes = bytes }

-- where the clusters and the digests begin in a directory
abbrev pub clusters_at : Counts → ℕ
clusters_at counts = GROUP_BYTES * counts.groups

abbrev pub digests_at : Counts → ℕ
digests_at counts = clusters_at counts + CLUSTER_BYTES * counts.clusters

-- the heads in a directory with these counts
abbrev pub heads_of : Counts → List ℕ → Heads
heads_of counts bytes = record {
  groups = records group_of GROUP_BYTES counts.groups bytes;
  clusters = records head_of CLUSTER_BYTES counts.clusters (drop (clusters_at counts) bytes);
  pages = counts.pages;
  roots = counts.roots;
  sources = counts.sources;
}

-- the digests in a directory with these counts
abbrev pub digests_of : Counts → List ℕ → List Digest32
digests_of counts bytes = records digest_of DIGEST_BYTES counts.pages (drop (digests_at counts) bytes)

unfoldable pub directory_of : Counts → List ℕ → Directory
directory_of counts bytes = record { heads = heads_of counts bytes; digests = digests_of counts bytes }

-- the counts in the header's bytes from the version on
abbrev pub counts_from : List ℕ → Counts
counts_from numbers = record {
  groups = slice_index numbers 1;
  clusters = slice_index numbers 2;
  pages = slice_index numbers 3;
  roots = slice_index numbers 4;
  sources = slice_index numbers 5;
}

-- the numbers of the header: version and counts
abbrev pub header_numbers : List ℕ → List ℕ
header_numbers bytes = numbers_of 6 (slice_range bytes 8 COUNTS_END)

unfoldable pub header_of : List ℕ → Header
header_of bytes = record {
  version = slice_index (header_numbers bytes) 0;
  counts = counts_from (header_numbers bytes);
  digest = record { bytes = slice_range bytes COUNTS_END HEADER_BYTES };
}
