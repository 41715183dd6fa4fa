use Rattle.std.proofs.Common.{◌≡◌, ◌||◌, ℕ, false, length, take, get_or, nat_lt}
use Rattle.dag_core.specs.PageSets.{has_page}
use Rattle.dag_core.proofs.heads.Heads.close.Given as goal

abbrev pub invariant-loop-page : goal.invariant-loop-page
invariant-loop-page l = record {
  count : length l.marks.items ≡ l.self.pages;
  marks : (p : ℕ) → get_or l.marks.items p false ≡ (nat_lt p l.self.roots || has_page (take l.page-index l.pages) p);
}
