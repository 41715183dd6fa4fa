use Rattle.std.proofs.Common.{◌≡◌, ◌==◌, ◌&&◌, ℕ, false, length, take, get_or}
use Rattle.std.specs.List.{list_any}
use Rattle.dag_core.specs.declared.groups.Group.{Group}
use Rattle.dag_core.proofs.heads.Heads.terminal_pages.Given as goal

abbrev pub invariant-loop-g : goal.invariant-loop-g
invariant-loop-g l = record {
  count : length l.pages.items ≡ l.self.pages;
  marks : (p : ℕ) → get_or l.pages.items p false ≡ list_any (λ (group : Group). group.terminal && group.page == p)
      (take l.g l.self.groups);
}
