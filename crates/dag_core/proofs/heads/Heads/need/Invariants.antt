use Rattle.std.proofs.Common.{◌≡◌, ◌==◌, ◌&&◌, ◌||◌, ℕ, false, length, take, get_or, nat_lt}
use Rattle.std.specs.List.{list_any}
use Rattle.dag_core.specs.declared.groups.Group.{Group}
use Rattle.dag_core.specs.Coarse.{is_coarse_group}
use Rattle.dag_core.proofs.heads.Heads.need.Given as goal

abbrev pub invariant-loop-g : goal.invariant-loop-g
invariant-loop-g l = record {
  count : length l.marks.items ≡ l.self.pages;
  marks : (p : ℕ) → get_or l.marks.items p false
      ≡ (nat_lt p l.self.roots || list_any (λ (group : Group). is_coarse_group l.lens group && group.page == p)
      (take l.g l.self.groups));
}
