-- The ranges of a group and of a cluster as one test each.
use Rattle.std.specs.Prelude.{Bool, ◌&&◌}
use Rattle.dag_core.specs.declared.groups.Group.{Group}
use Rattle.dag_core.specs.declared.cluster_heads.ClusterHead.{ClusterHead}
use Rattle.dag_core.specs.declared.counts.Counts.{Counts}
use Rattle.dag_core.specs.Ranges.{are_members, is_cluster_size, is_count_in_range, is_error, is_group_box}
use Rattle.dag_core.specs.Ranges.{is_group_or_none, is_page}

-- all counts keep their ranges
unfoldable pub are_counts_in_range : Counts → Bool
are_counts_in_range counts =
    is_count_in_range counts 0 && is_count_in_range counts 1 && is_count_in_range counts 2 && is_count_in_range counts 3
    && is_count_in_range counts 4

-- the numbers of a group keep their ranges
unfoldable pub is_group_in_range : Counts → Group → Bool
is_group_in_range counts group =
    is_error group.error && is_group_box group.cube && is_page counts group.page && are_members counts group.first
    group.count

-- the numbers of a cluster keep their ranges
unfoldable pub is_cluster_in_range : Counts → ClusterHead → Bool
is_cluster_in_range counts cluster = is_cluster_size cluster.tris && is_group_or_none counts cluster.made
