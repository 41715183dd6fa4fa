use Rattle.std.proofs.Common.{◌≡◌, ℕ, false, length, get_or, nat_lt}
use Rattle.dag_core.proofs.heads.Heads.root_marks.Given as goal

abbrev pub invariant-loop-p : goal.invariant-loop-p
invariant-loop-p l = record {
  count : length l.marks.items ≡ l.self.pages;
  marks : (k : ℕ) → get_or l.marks.items k false ≡ nat_lt k l.p;
}
