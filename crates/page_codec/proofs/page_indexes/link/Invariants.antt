use Rattle.std.proofs.Common.{◌≡◌, ◌+◌, ◌<◌, ◌≤◌, ℕ, length, get_or}
use Rattle.dag_core.specs.Members.{no_group}
use Rattle.page_codec.specs.PageLinks.{next_on}
use Rattle.page_codec.proofs.page_indexes.link.Given as goal

-- the groups from g on are linked
abbrev pub invariant-groups : goal.invariant-groups
invariant-groups l = record {
  left : l.g ≤ length l.groups;
  first : (p : ℕ) → p < length l.firsts → get_or l.firsts p 0 ≡ next_on l.groups p l.g;
  next : (j : ℕ) → l.g ≤ j → j < length l.groups →
      get_or l.nexts j 0 ≡ next_on l.groups (get_or l.groups j no_group).page (j + 1);
}

abbrev pub decreases-groups : goal.decreases-groups
decreases-groups l = l.g
