-- The DAG of levels of detail that is built of a mesh.
use Rattle.std.specs.Prelude.{◌≡◌, ◌≢◌, List, [], ◌∷◌, length, map, All}
use Rattle.geom_core.specs.declared.triangles.Tri.{Tri}
use Rattle.geom_core.specs.declared.triangles.Tagged.{Tagged}
use Rattle.dag_core.specs.declared.dags.Dag.{Dag}
use Rattle.dag_build.specs.Grouping.{AreCut, AreGrouped, Sizes, full_sizes}
use Rattle.dag_build.specs.declared.level_clusters.LevelCluster.{LevelCluster}
use Rattle.dag_build.specs.Levels.{LevelGroup, next_clusters, numbered, source_cluster}
use Rattle.dag_build.specs.Numbers.{dag_of}
use Rattle.dag_build.specs.Outcomes.{IsOutcome}

-- the groups of a level with these clusters, each with its outcome
pub record IsLevel (sizes : Sizes) (clusters : List LevelCluster) (groups : List LevelGroup) : Type 0 where
  pub grouped : AreGrouped sizes.group clusters (map (λ group. group.members) groups)
  pub outcomes : All (IsOutcome sizes.cluster (length clusters)) groups

-- the levels from one with these clusters on: each next one has the clusters that the groups of the one before made,
-- and the last one made none
unfoldable pub AreLevels : Sizes → List LevelCluster → List (List LevelGroup) → Type 0
AreLevels sizes clusters [] = clusters ≡ []
AreLevels sizes clusters (groups ∷ levels) =
    (clusters ≢ []) × (IsLevel sizes clusters groups × AreLevels sizes (next_clusters groups) levels)

-- the levels of a mesh: level 0 has the clusters into which its triangles are cut
pub record AreLevelsOf (sizes : Sizes) (tris : List Tri) (levels : List (List LevelGroup)) : Type 0 where
  pub leaves : List (List Tagged)
  pub cut : AreCut sizes.cluster (numbered 0 tris) leaves
  pub grown : AreLevels sizes (map source_cluster leaves) levels

-- the DAG is that of the mesh's levels of detail, before pages are given
pub record IsBuilt (tris : List Tri) (dag : Dag) : Type 0 where
  pub levels : List (List LevelGroup)
  pub of_mesh : AreLevelsOf full_sizes tris levels
  pub numbered : dag ≡ dag_of (length tris) levels
