-- The numbers of groups and clusters in a DAG: groups by level, from the last level to level 0, and within a level in
-- its order; clusters by group, and within a group in its order. Before pages are given, all groups are on page 0.
use Rattle.std.specs.Prelude.{ℕ, ◌+◌, List, [], ◌∷◌, ◌++◌, length, map, flat_map, Option, Some, None}
use Rattle.geom_core.specs.declared.triangles.Tagged.{Tagged}
use Rattle.dag_core.specs.declared.cluster_heads.ClusterHead.{ClusterHead}
use Rattle.dag_core.specs.declared.dags.Dag.{Dag}
use Rattle.dag_core.specs.declared.groups.Group.{Group}
use Rattle.dag_build.specs.declared.level_clusters.LevelCluster.{LevelCluster}
use Rattle.dag_build.specs.declared.level_clusters.Maker.{Maker}
use Rattle.dag_build.specs.Levels.{LevelGroup}

-- the groups of all levels, in the order of their numbers; level 0 is the first of the list
unfoldable pub groups_in : List (List LevelGroup) → List LevelGroup
groups_in [] = []
groups_in (groups ∷ levels) = groups_in levels ++ groups

-- the group as a DAG has it, where its members are numbered from `first` on
abbrev pub group_head : ℕ → LevelGroup → Group
group_head first group = record {
  error = group.error;
  terminal = group.terminal;
  cube = group.cube;
  page = 0;
  first = first;
  count = length group.members;
}

-- the groups as a DAG has them, of which the first has its members from `first` on
unfoldable pub heads_from : ℕ → List LevelGroup → List Group
heads_from first [] = []
heads_from first (group ∷ groups) = group_head first group ∷ heads_from (first + length group.members) groups

-- the number of a maker, where the groups of its level are numbered from `base` on
abbrev pub maker_number : ℕ → Option Maker → Option ℕ
maker_number base None = None
maker_number base (Some maker) = Some (base + maker.group)

-- a cluster as a DAG has it, where the groups of its maker's level are numbered from `base` on
abbrev pub head_of : ℕ → LevelCluster → ClusterHead
head_of base cluster = record { made = maker_number base cluster.maker; tris = length cluster.tris }

-- the members of these groups, in order
abbrev pub members_in : List LevelGroup → List LevelCluster
members_in groups = flat_map (λ group. group.members) groups

-- The clusters of all levels, in the order of their numbers. A level's clusters were made by the groups of the level
-- below it, whose numbers follow those of its own groups.
unfoldable pub clusters_in : List (List LevelGroup) → List ClusterHead
clusters_in [] = []
clusters_in (groups ∷ levels) =
    clusters_in levels ++ map (head_of (length (groups_in (groups ∷ levels)))) (members_in groups)

-- the DAG with these groups and clusters, before pages are given
abbrev pub dag_from : ℕ → List Group → List ClusterHead → List (List Tagged) → Dag
dag_from sources groups clusters tris = record {
  heads = record { groups = groups; clusters = clusters; pages = 1; roots = 1; sources = sources };
  tris = tris;
}

-- the DAG of these levels of a mesh of so many triangles, before pages are given
unfoldable pub dag_of : ℕ → List (List LevelGroup) → Dag
dag_of sources levels =
    dag_from sources (heads_from 0 (groups_in levels)) (clusters_in levels)
    (map (λ cluster. cluster.tris) (members_in (groups_in levels)))
