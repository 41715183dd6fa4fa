-- Which pages can be those of given heads, and which directories can be spelt.
use Rattle.std.specs.Prelude.{◌≡◌, length, map, All}
use Rattle.dag_core.specs.declared.heads.Heads.{Heads}
use Rattle.dag_core.specs.Members.{cluster_at}
use Rattle.dag_core.specs.Pages.{clusters_on}
use Rattle.dag_core.specs.TriangleRules.{IsSourcedTriangle}
use Rattle.dag_core.specs.Ranges.{IsInRange}
use Rattle.page_codec.specs.declared.directories.Directory.{Directory}
use Rattle.page_codec.specs.declared.pages.Page.{Page}

-- the page has the clusters that the heads put on it, each with as many triangles as its head states, and all its
-- triangles are ones of a mesh, with a source triangle
pub record FitsPage (heads : Heads) (page : Page) : Type 0 where
  pub clusters : map (λ cluster. cluster.number) page.clusters ≡ clusters_on heads page.number
  pub counts : All (λ cluster. length cluster.tris ≡ (cluster_at heads cluster.number).tris) page.clusters
  pub triangles : All (λ cluster. All (IsSourcedTriangle heads.sources) cluster.tris) page.clusters

-- the directory's heads keep their ranges, and each page has a digest of 32 bytes
pub record FitsDirectory (directory : Directory) : Type 0 where
  pub heads : IsInRange directory.heads
  pub digest_count : length directory.digests ≡ directory.heads.pages
  pub digests : All (λ digest. length digest.bytes ≡ 32) directory.digests
