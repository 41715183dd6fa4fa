-- The ranges of a DAG's counts, and of each record of a group and a cluster. A range that a file's bytes decide is a
-- Bool, so that it can be asked of bytes.
use Rattle.std.specs.Prelude.{Bool, true, ◌&&◌, ◌==◌, nat_le, nat_lt, ℕ, length, Option, Some, None, IsTrue, All}
use Rattle.std.specs.Prelude.{if◌then◌else◌}
use Rattle.geom_core.specs.declared.limits.TheConstants.{CLUSTERS_PER_GROUP, MAX_CLUSTERS, MAX_ERROR, MAX_GROUPS}
use Rattle.geom_core.specs.declared.limits.TheConstants.{MAX_PAGES, MAX_TRIANGLES, TRIANGLES_PER_CLUSTER}
use Rattle.geom_core.specs.declared.boxes.Cube.{Cube}
use Rattle.geom_core.specs.Boxes.{is_under}
use Rattle.geom_core.specs.Limits.{is_grid_point}
use Rattle.dag_core.specs.declared.groups.Group.{Group}
use Rattle.dag_core.specs.declared.cluster_heads.ClusterHead.{ClusterHead}
use Rattle.dag_core.specs.declared.counts.Counts.{Counts}
use Rattle.dag_core.specs.declared.heads.Heads.{Heads}

-- the counts of a DAG
abbrev pub counts_of : Heads → Counts
counts_of heads = record {
  groups = length heads.groups;
  clusters = length heads.clusters;
  pages = heads.pages;
  roots = heads.roots;
  sources = heads.sources;
}

-- n is 1 to most
abbrev pub is_count_to : ℕ → ℕ → Bool
is_count_to most n = nat_le 1 n && nat_le n most

-- a count by its number keeps its range: 0 groups, 1 clusters, 2 pages, 3 root pages, 4 source triangles
abbrev pub is_count_in_range : Counts → ℕ → Bool
is_count_in_range counts part =
    if part == 0 then is_count_to MAX_GROUPS counts.groups
    else (if part == 1 then is_count_to MAX_CLUSTERS counts.clusters
    else (if part == 2 then is_count_to MAX_PAGES counts.pages
    else (if part == 3 then is_count_to counts.pages counts.roots
    else (if part == 4 then is_count_to MAX_TRIANGLES counts.sources
    else true))))

-- each count keeps its range
pub record AreCountsInRange (counts : Counts) : Type 0 where
  pub groups : IsTrue (is_count_in_range counts 0)
  pub clusters : IsTrue (is_count_in_range counts 1)
  pub pages : IsTrue (is_count_in_range counts 2)
  pub roots : IsTrue (is_count_in_range counts 3)
  pub sources : IsTrue (is_count_in_range counts 4)

-- an error, in grid steps
abbrev pub is_error : ℕ → Bool
is_error error = nat_le error MAX_ERROR

-- a box: both corners are points of a mesh, and the low one isn't above the high one
abbrev pub is_group_box : Cube → Bool
is_group_box box = is_grid_point box.lo && is_grid_point box.hi && is_under box.lo box.hi

-- a page's number
abbrev pub is_page : Counts → ℕ → Bool
is_page counts page = nat_lt page counts.pages

-- the first member's number and the number of members
abbrev pub are_members : Counts → ℕ → ℕ → Bool
are_members counts first count = is_count_to CLUSTERS_PER_GROUP count && nat_le first counts.clusters

-- a maker: a group's number, or none
abbrev pub is_group_or_none : Counts → Option ℕ → Bool
is_group_or_none counts None = true
is_group_or_none counts (Some made) = nat_lt made counts.groups

-- the number of a cluster's triangles
abbrev pub is_cluster_size : ℕ → Bool
is_cluster_size tris = is_count_to TRIANGLES_PER_CLUSTER tris

-- a group whose numbers keep their ranges
pub record IsGroupInRange (counts : Counts) (group : Group) : Type 0 where
  pub error : IsTrue (is_error group.error)
  pub box : IsTrue (is_group_box group.cube)
  pub page : IsTrue (is_page counts group.page)
  pub members : IsTrue (are_members counts group.first group.count)

-- a cluster whose numbers keep their ranges
pub record IsClusterInRange (counts : Counts) (cluster : ClusterHead) : Type 0 where
  pub maker : IsTrue (is_group_or_none counts cluster.made)
  pub size : IsTrue (is_cluster_size cluster.tris)

-- all numbers of the heads keep their ranges
pub record IsInRange (heads : Heads) : Type 0 where
  pub counts : AreCountsInRange (counts_of heads)
  pub groups : All (IsGroupInRange (counts_of heads)) heads.groups
  pub clusters : All (IsClusterInRange (counts_of heads)) heads.clusters
