-- Groups: the clusters of a level in batches of CLUSTERS_PER_GROUP.
use Rattle.std.specs.Prelude.{ℕ, List, map, All}
use Rattle.geom_core.specs.declared.points.Pt.{Pt}
use Rattle.geom_core.specs.declared.limits.TheConstants.{CLUSTERS_PER_GROUP}
use Rattle.geom_core.specs.Limits.{IsGridPoint}
use Rattle.half_mesh.specs.declared.edges.Edge.{Edge}
use Rattle.partition.specs.declared.shapes.ClusterShape.{ClusterShape}
use Rattle.partition.specs.Morton.{morton_of}
use Rattle.partition.specs.Batches.{AreBatches}

-- the two points of an edge
abbrev pub ends_of : Edge → Pt × Pt
ends_of e = (e.u, e.v)

-- the edges of a cluster's rim
abbrev pub rim_edges : ClusterShape → List (Pt × Pt)
rim_edges shape = map ends_of shape.rim

-- the Morton key of a cluster: that of the low corner of its box
abbrev pub shape_key : ClusterShape → ℕ
shape_key shape = morton_of shape.low

-- an edge of a mesh: both ends are points of one
pub record IsGridEdge (e : Edge) : Type 0 where
  pub u : IsGridPoint e.u
  pub v : IsGridPoint e.v

-- the shape of a cluster of a mesh: the low corner is a point of one, and the rim's edges are edges of one
pub record IsGridShape (shape : ClusterShape) : Type 0 where
  pub low : IsGridPoint shape.low
  pub rim : All IsGridEdge shape.rim

-- the clusters grow into these groups, each given by the numbers of its clusters
abbrev pub AreGroups : List ClusterShape → List (List ℕ) → Type 0
AreGroups shapes groups = AreBatches (map shape_key shapes) (map rim_edges shapes) CLUSTERS_PER_GROUP groups
