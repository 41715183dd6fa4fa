-- What a page, the directory, the header and a whole file spell, byte by byte; and where a page begins.
use Rattle.std.specs.Prelude.{ℕ, ◌+◌, ◌-◌, ◌*◌, List, [], ◌∷◌, ◌++◌, length, map, replicate, codes}
use Rattle.std.specs.List.{flat_map, range_with_len}
use Rattle.sha2.specs.Sha256.{sha256}
use Rattle.geom_core.specs.declared.limits.TheConstants.{PAGE_BYTES}
use Rattle.geom_core.specs.declared.triangles.Tagged.{Tagged}
use Rattle.geom_core.specs.declared.digests.Digest32.{Digest32}
use Rattle.dag_core.specs.declared.counts.Counts.{Counts}
use Rattle.dag_core.specs.declared.dags.Dag.{Dag}
use Rattle.dag_core.specs.Pages.{clusters_on}
use Rattle.dag_core.specs.Ranges.{counts_of}
use Rattle.dag_core.specs.Triangles.{tris_at}
use Rattle.page_codec.specs.declared.sizes.TheConstants.{VERSION, HEADER_BYTES, GROUP_BYTES, CLUSTER_BYTES}
use Rattle.page_codec.specs.declared.sizes.TheConstants.{DIGEST_BYTES}
use Rattle.page_codec.specs.declared.pages.PageCluster.{PageCluster}
use Rattle.page_codec.specs.declared.pages.Page.{Page}
use Rattle.page_codec.specs.declared.directories.Directory.{Directory}
use Rattle.page_codec.specs.declared.headers.Header.{Header}
use Rattle.page_codec.specs.Numbers.{numbers_bytes}
use Rattle.page_codec.specs.Records.{triangle_bytes, group_bytes, head_bytes}

-- ---- a page

-- a cluster: its triangles in order
unfoldable pub cluster_bytes : List Tagged → List ℕ
cluster_bytes tris = flat_map triangle_bytes tris

-- several clusters in order
abbrev pub clusters_bytes : List PageCluster → List ℕ
clusters_bytes clusters = flat_map (λ cluster. cluster_bytes cluster.tris) clusters

-- the tail of a page: zeros
unfoldable pub tail_bytes : ℕ → List ℕ
tail_bytes len = replicate len 0

-- a page of this length: its clusters, then the tail
abbrev pub page_bytes_in : ℕ → Page → List ℕ
page_bytes_in len page =
    clusters_bytes page.clusters ++ tail_bytes (len - length (clusters_bytes page.clusters))

unfoldable pub page_bytes : Page → List ℕ
page_bytes page = page_bytes_in PAGE_BYTES page

-- page p of a DAG: the clusters on it, ascending
abbrev pub page_cluster : Dag → ℕ → PageCluster
page_cluster dag c = record { number = c; tris = tris_at dag c }

unfoldable pub page_in : Dag → ℕ → Page
page_in dag p = record { number = p; clusters = map (page_cluster dag) (clusters_on dag.heads p) }

-- ---- the directory

abbrev pub digest_bytes : Digest32 → List ℕ
digest_bytes digest = digest.bytes

-- the groups, then the clusters, then the pages' digests
unfoldable pub directory_bytes : Directory → List ℕ
directory_bytes directory = flat_map group_bytes directory.heads.groups
    ++ flat_map head_bytes directory.heads.clusters
    ++ flat_map digest_bytes directory.digests

-- the number of bytes of a directory
abbrev pub directory_length : Counts → ℕ
directory_length counts = GROUP_BYTES * counts.groups + CLUSTER_BYTES * counts.clusters + DIGEST_BYTES * counts.pages

-- the digest of a page of a DAG
abbrev pub page_digest : Dag → ℕ → Digest32
page_digest dag p = record { bytes = sha256 (page_bytes (page_in dag p)) }

-- the directory of a DAG, with the digest of each page
unfoldable pub directory_in : Dag → Directory
directory_in dag = record { heads = dag.heads; digests = map (page_digest dag) (range_with_len 0 dag.heads.pages) }

-- ---- the header

abbrev pub magic : List ℕ
magic = codes "GEOPAGES"

-- the version and the counts
abbrev pub counts_numbers : ℕ → Counts → List ℕ
counts_numbers version counts =
    version ∷ counts.groups ∷ counts.clusters ∷ counts.pages ∷ counts.roots ∷ counts.sources ∷ []

unfoldable pub counts_bytes : ℕ → Counts → List ℕ
counts_bytes version counts = numbers_bytes (counts_numbers version counts)

abbrev pub header_bytes : Header → List ℕ
header_bytes header = magic ++ counts_bytes header.version header.counts ++ header.digest.bytes

-- what the header's digest is of: the version, the counts, and the directory
abbrev pub directory_digest : ℕ → Counts → List ℕ → List ℕ
directory_digest version counts directory = sha256 (counts_bytes version counts ++ directory)

unfoldable pub header_in : Dag → Header
header_in dag = record {
  version = VERSION;
  counts = counts_of dag.heads;
  digest = record { bytes = directory_digest VERSION (counts_of dag.heads) (directory_bytes (directory_in dag)) };
}

-- ---- the file

-- where page p begins
abbrev pub page_at : Counts → ℕ → ℕ
page_at counts p = HEADER_BYTES + directory_length counts + PAGE_BYTES * p

-- the page file of a laid-out DAG
unfoldable pub file_bytes : Dag → List ℕ
file_bytes dag = header_bytes (header_in dag) ++ directory_bytes (directory_in dag)
    ++ flat_map (λ p. page_bytes (page_in dag p)) (range_with_len 0 dag.heads.pages)
