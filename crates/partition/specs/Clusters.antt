-- Clusters: the triangles of a mesh in batches of TRIANGLES_PER_CLUSTER.
use Rattle.std.specs.Prelude.{ℕ, List, map}
use Rattle.geom_core.specs.declared.points.Pt.{Pt}
use Rattle.geom_core.specs.declared.triangles.Tri.{Tri}
use Rattle.geom_core.specs.declared.limits.TheConstants.{TRIANGLES_PER_CLUSTER}
use Rattle.geom_core.specs.Boxes.{low_of}
use Rattle.geom_core.specs.EdgeSum.{edges_of}
use Rattle.partition.specs.Morton.{morton_of}
use Rattle.partition.specs.Batches.{AreBatches}

-- the low corner of a triangle's box, which need be none of its corners
abbrev pub low_corner : Tri → Pt
low_corner t = low_of (low_of t.a t.b) t.c

-- the Morton key of a triangle: that of the low corner of its box
abbrev pub triangle_key : Tri → ℕ
triangle_key t = morton_of (low_corner t)

-- the triangles grow into these clusters, each given by the numbers of its triangles
abbrev pub AreClusters : List Tri → List (List ℕ) → Type 0
AreClusters tris clusters = AreBatches (map triangle_key tris) (map edges_of tris) TRIANGLES_PER_CLUSTER clusters
