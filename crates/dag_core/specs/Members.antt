-- Which clusters a group has and which it made, and in which group a cluster is.
use Rattle.std.specs.Prelude.{Bool, false, ◌&&◌, ◌==◌, nat_le, nat_lt, ℕ, pos, ◌+◌, List, length, filter, Option, Some}
use Rattle.std.specs.Prelude.{None, slice_index_or}
use Rattle.std.specs.List.{range_with_len, position_or_len}
use Rattle.geom_core.specs.declared.points.Pt.{Pt}
use Rattle.dag_core.specs.declared.groups.Group.{Group}
use Rattle.dag_core.specs.declared.cluster_heads.ClusterHead.{ClusterHead}
use Rattle.dag_core.specs.declared.heads.Heads.{Heads}

-- a group that no DAG has, in the place of one that isn't there
abbrev pub no_group : Group
no_group = let origin : Pt = record { x = pos 0; y = pos 0; z = pos 0 } in
    record { error = 0; terminal = false; cube = record { lo = origin; hi = origin }; page = 0; first = 0; count = 0 }

-- a cluster that no DAG has, in the place of one that isn't there
abbrev pub no_cluster : ClusterHead
no_cluster = record { made = None; tris = 0 }

-- the group of this number
abbrev pub group_at : Heads → ℕ → Group
group_at heads g = slice_index_or heads.groups g no_group

-- the cluster of this number
abbrev pub cluster_at : Heads → ℕ → ClusterHead
cluster_at heads c = slice_index_or heads.clusters c no_cluster

-- the numbers of all clusters
abbrev pub all_clusters : Heads → List ℕ
all_clusters heads = range_with_len 0 (length heads.clusters)

-- the members of a group: `count` clusters from `first` on
abbrev pub members : Heads → ℕ → List ℕ
members heads g = range_with_len (group_at heads g).first (group_at heads g).count

-- the cluster is one of the group's members
abbrev pub has_member : ℕ → Group → Bool
has_member c group = nat_le group.first c && nat_lt c (group.first + group.count)

-- the home of a cluster: the first group that has it as a member, by its number
unfoldable pub home : Heads → ℕ → ℕ
home heads c = position_or_len (has_member c) heads.groups

-- the maker is this group
abbrev pub is_maker : ℕ → Option ℕ → Bool
is_maker g None = false
is_maker g (Some m) = m == g

-- the cluster was made by this group
abbrev pub is_made_by : ℕ → ClusterHead → Bool
is_made_by g cluster = is_maker g cluster.made

-- the clusters that the group made, ascending
abbrev pub made_by : Heads → ℕ → List ℕ
made_by heads g = filter (λ c. is_made_by g (cluster_at heads c)) (all_clusters heads)
