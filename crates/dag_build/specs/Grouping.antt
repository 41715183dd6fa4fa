-- How triangles are cut into clusters, and a level's clusters into groups. The sizes of a batch are parameters, so that
-- small lists show what the rule says.
use Rattle.std.specs.Prelude.{◌≡◌, ⊤, ℕ, ℤ, pos, List, [], ◌∷◌, map, flat_map, Option, Some, None}
use Rattle.geom_core.specs.declared.limits.TheConstants.{TRIANGLES_PER_CLUSTER, CLUSTERS_PER_GROUP}
use Rattle.geom_core.specs.declared.boxes.Cube.{Cube}
use Rattle.geom_core.specs.declared.points.Pt.{Pt}
use Rattle.geom_core.specs.declared.triangles.Tri.{Tri}
use Rattle.geom_core.specs.declared.triangles.Tagged.{Tagged}
use Rattle.geom_core.specs.Boxes.{hull_of}
use Rattle.geom_core.specs.EdgeSum.{edges_of}
use Rattle.geom_core.specs.TaggedLists.{tris_of}
use Rattle.half_mesh.specs.Rim.{IsRimOf}
use Rattle.partition.specs.declared.shapes.ClusterShape.{ClusterShape}
use Rattle.partition.specs.Batches.{AreBatches, pick}
use Rattle.partition.specs.Clusters.{triangle_key}
use Rattle.partition.specs.Groups.{rim_edges, shape_key}
use Rattle.dag_build.specs.declared.level_clusters.LevelCluster.{LevelCluster}

-- how many triangles a full cluster has, and how many clusters a full group
pub record Sizes : Type 0 where
  pub cluster : ℕ
  pub group : ℕ

-- the sizes of every DAG that is built
abbrev pub full_sizes : Sizes
full_sizes = record { cluster = TRIANGLES_PER_CLUSTER; group = CLUSTERS_PER_GROUP }

-- in the place of a triangle that isn't there
abbrev pub no_triangle : Tagged
no_triangle = let origin : Pt = record { x = pos 0; y = pos 0; z = pos 0 } in
    record { tri = record { a = origin; b = origin; c = origin }; source = 0 }

-- in the place of a cluster that isn't there
abbrev pub no_cluster : LevelCluster
no_cluster = record { tris = []; maker = None }

-- the triangles grow into these clusters
pub record AreCut (size : ℕ) (tris : List Tagged) (clusters : List (List Tagged)) : Type 0 where
  pub batches : List (List ℕ)
  pub grown : AreBatches (map triangle_key (tris_of tris)) (map edges_of (tris_of tris)) size batches
  pub picked : clusters ≡ map (pick tris no_triangle) batches

-- the corners of a triangle
abbrev pub corners_of : Tri → List Pt
corners_of t = t.a ∷ t.b ∷ t.c ∷ []

-- the low corner of a box; the origin where there is no box
abbrev pub low_or_origin : Option Cube → Pt
low_or_origin None = record { x = pos 0; y = pos 0; z = pos 0 }
low_or_origin (Some cube) = cube.lo

-- the low corner of the box round the triangles; the origin where there is none
abbrev pub low_corner_of : List Tri → Pt
low_corner_of tris = low_or_origin (hull_of (flat_map corners_of tris))

-- the shape of a cluster with these triangles: the low corner of their box, and the edges of their rim
pub record IsShapeOf (tris : List Tri) (shape : ClusterShape) : Type 0 where
  pub low : shape.low ≡ low_corner_of tris
  pub sums : List ℤ
  pub rim : IsRimOf tris shape.rim sums

-- each shape is that of the cluster at the same place
unfoldable pub AreShapesOf : List LevelCluster → List ClusterShape → Type 0
AreShapesOf [] [] = ⊤
AreShapesOf [] (shape ∷ shapes) = ⊥
AreShapesOf (cluster ∷ clusters) [] = ⊥
AreShapesOf (cluster ∷ clusters) (shape ∷ shapes) =
    IsShapeOf (tris_of cluster.tris) shape × AreShapesOf clusters shapes

-- the clusters grow into groups with these members
pub record AreGrouped (size : ℕ) (clusters : List LevelCluster) (members : List (List LevelCluster)) : Type 0 where
  pub shapes : List ClusterShape
  pub shaped : AreShapesOf clusters shapes
  pub batches : List (List ℕ)
  pub grown : AreBatches (map shape_key shapes) (map rim_edges shapes) size batches
  pub picked : members ≡ map (pick clusters no_cluster) batches
