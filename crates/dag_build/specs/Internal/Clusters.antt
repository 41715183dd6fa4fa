-- Clusters as the builder has them: what is kept beside a cluster's triangles while its level is worked on.
use Rattle.std.specs.Prelude.{◌≡◌, ◌≤◌, List, Option, length, All}
use Rattle.geom_core.specs.declared.limits.TheConstants.{TRIANGLES_PER_CLUSTER}
use Rattle.geom_core.specs.declared.points.Pt.{Pt}
use Rattle.geom_core.specs.declared.triangles.Tagged.{Tagged}
use Rattle.geom_core.specs.Limits.{IsGridTriangle}
use Rattle.geom_core.specs.TaggedLists.{tris_of}
use Rattle.half_mesh.specs.Rim.{EdgeSums, IsRimOf}
use Rattle.dag_build.specs.declared.level_clusters.LevelCluster.{LevelCluster}
use Rattle.dag_build.specs.declared.level_clusters.Maker.{Maker}
use Rattle.dag_build.specs.Grouping.{low_corner_of}

-- the cluster's triangles are few and of a mesh, and the rim and the low corner are theirs
pub record IsDescribed (cluster : LevelCluster) (rim : EdgeSums) (low : Pt) : Type 0 where
  pub rim_of : IsRimOf (tris_of cluster.tris) rim.edges rim.sums
  pub low_of : low ≡ low_corner_of (tris_of cluster.tris)
  pub triangles : All IsGridTriangle (tris_of cluster.tris)
  pub triangle_limit : length cluster.tris ≤ TRIANGLES_PER_CLUSTER

-- a cluster with these triangles and this maker
abbrev pub made_cluster : Option Maker → List Tagged → LevelCluster
made_cluster maker tris = record { tris = tris; maker = maker }
