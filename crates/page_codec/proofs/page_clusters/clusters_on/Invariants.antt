use Rattle.std.proofs.Common.{◌≡◌, ◌-◌, ◌<◌, ◌≤◌, ◌++◌, length, get_or, drop}
use Rattle.std.specs.List.{flat_map}
use Rattle.dag_core.specs.Members.{no_group}
use Rattle.page_codec.proofs.Homes.{members_of}
use Rattle.page_codec.proofs.page_clusters.clusters_on.Given as goal

-- the members so far and those of the groups that are left
abbrev pub invariant-groups : goal.invariant-groups
invariant-groups l = record {
  within : l.g ≤ length l.heads.groups;
  here : l.g < length l.heads.groups → (get_or l.heads.groups l.g no_group).page ≡ l.page;
  all : l.clusters.items ++ flat_map (members_of l.page) (drop l.g l.heads.groups) ≡ flat_map
      (members_of l.page) l.heads.groups;
}

abbrev pub decreases-groups : goal.decreases-groups
decreases-groups l = length l.heads.groups - l.g
