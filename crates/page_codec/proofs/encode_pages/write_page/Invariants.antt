use Rattle.std.proofs.Common.{◌≡◌, ◌+◌, ◌-◌, ◌<◌, ◌≤◌, ◌++◌, length, get_or, take, drop}
use Rattle.std.specs.List.{flat_map}
use Rattle.dag_core.specs.Members.{no_group}
use Rattle.page_codec.proofs.Homes.{members_of}
use Rattle.page_codec.proofs.PageBytes.{bytes_of}
use Rattle.page_codec.proofs.encode_pages.write_page.Given as goal

-- the bytes so far and those of the groups that are left
abbrev pub invariant-groups : goal.invariant-groups
invariant-groups l = record {
  within : l.g ≤ length l.dag.heads.groups;
  here : l.g < length l.dag.heads.groups → (get_or l.dag.heads.groups l.g no_group).page ≡ l.page;
  room : l.end + length (bytes_of l.dag (flat_map (members_of l.page) (drop l.g l.dag.heads.groups))) ≡ length
      (bytes_of l.dag (flat_map (members_of l.page) l.dag.heads.groups));
  all : take l.end l.into ++ bytes_of l.dag
      (flat_map (members_of l.page) (drop l.g l.dag.heads.groups)) ≡ bytes_of l.dag
      (flat_map (members_of l.page) l.dag.heads.groups);
}

abbrev pub decreases-groups : goal.decreases-groups
decreases-groups l = length l.dag.heads.groups - l.g
