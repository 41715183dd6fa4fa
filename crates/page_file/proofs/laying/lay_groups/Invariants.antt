use Rattle.std.proofs.Common.{◌≡◌, map}
use Rattle.std.specs.List.{range_with_len}
use Rattle.page_file.specs.PagesRule.{laid_group, root_filling, other_filling}
use Rattle.page_file.proofs.laying.lay_groups.Given as goal

-- the groups before g are laid, and both parts are filled with them
abbrev pub invariant-groups : goal.invariant-groups
invariant-groups l = record {
  laid : l.laid.items ≡ map (laid_group l.heads) (range_with_len 0 l.g);
  root : l.root ≡ root_filling l.heads l.g;
  other : l.other ≡ other_filling l.heads l.g;
}
