-- Levels that are done, as the builder keeps them: without what their groups made.
use Rattle.std.specs.Prelude.{◌≡◌, ◌<◌, ◌≤◌, ⊤, List, length, map, All, Option, Some, None}
use Rattle.geom_core.specs.declared.limits.TheConstants.{MAX_CLUSTERS, MAX_GROUPS, MAX_TRIANGLES, TRIANGLES_PER_CLUSTER}
use Rattle.dag_build.specs.declared.level_clusters.LevelCluster.{LevelCluster}
use Rattle.dag_build.specs.declared.level_clusters.Maker.{Maker}
use Rattle.dag_build.specs.Built.{AreLevels}
use Rattle.dag_build.specs.Grouping.{full_sizes}
use Rattle.dag_build.specs.Levels.{LevelGroup}
use Rattle.dag_build.specs.Numbers.{groups_in, members_in}
use Rattle.dag_build.specs.Internal.Groups.{unmade}

-- the maker's place is that of a group of a level of a mesh
abbrev pub IsPlaced : Option Maker → Type 0
IsPlaced None = ⊤
IsPlaced (Some maker) = maker.group < MAX_TRIANGLES

-- a cluster of a level: it has a triangle, and no more than a cluster may have
pub record IsProper (cluster : LevelCluster) : Type 0 where
  pub some : 1 ≤ length cluster.tris
  pub triangle_limit : length cluster.tris ≤ TRIANGLES_PER_CLUSTER
  pub placed : IsPlaced cluster.maker

-- each member of the group is a cluster of a level
abbrev pub HasProper : LevelGroup → Type 0
HasProper group = All IsProper group.members

-- the levels have no more groups and clusters than a DAG may have
pub record AreFewLevels (levels : List (List LevelGroup)) : Type 0 where
  pub clusters : length (members_in (groups_in levels)) ≤ MAX_CLUSTERS
  pub groups : length (groups_in levels) ≤ MAX_GROUPS
  pub members : All (λ groups. All HasProper groups) levels

-- the levels from the one with these clusters on, without what their groups made
pub record AreLevelsDone (first : List LevelCluster) (done : List (List LevelGroup)) : Type 0 where
  pub levels : List (List LevelGroup)
  pub grown : AreLevels full_sizes first levels
  pub unmade_of : done ≡ map (map unmade) levels
  pub few : AreFewLevels done
