-- Which triangles a page has for a cluster.
use Rattle.std.specs.Prelude.{◌==◌, ℕ, List, [], ◌∷◌, Option, Some, None, if◌then◌else◌}
use Rattle.geom_core.specs.declared.triangles.Tagged.{Tagged}
use Rattle.page_codec.specs.declared.pages.PageCluster.{PageCluster}

-- the triangles of the first cluster of this number
abbrev pub tris_with : ℕ → List PageCluster → Option (List Tagged)
tris_with c [] = None
tris_with c (cluster ∷ clusters) = if cluster.number == c then Some cluster.tris else tris_with c clusters
