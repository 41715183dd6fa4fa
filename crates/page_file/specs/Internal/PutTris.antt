-- Lists of triangles by cluster, as the clusters of pages are put in their places.
use Rattle.std.specs.Prelude.{List, [], ◌∷◌, slice_set}
use Rattle.geom_core.specs.declared.triangles.Tagged.{Tagged}
use Rattle.page_codec.specs.declared.pages.Page.{Page}
use Rattle.page_codec.specs.declared.pages.PageCluster.{PageCluster}

-- each cluster's triangles replace those at its number
abbrev pub put_clusters : List (List Tagged) → List PageCluster → List (List Tagged)
put_clusters lists [] = lists
put_clusters lists (cluster ∷ clusters) = put_clusters (slice_set lists cluster.number cluster.tris) clusters

-- the clusters of each page
abbrev pub put_pages : List (List Tagged) → List Page → List (List Tagged)
put_pages lists [] = lists
put_pages lists (page ∷ pages) = put_pages (put_clusters lists page.clusters) pages
