use Rattle.std.proofs.Common.{◌≡◌, ℕ, false, length, get_or}
use Rattle.std.specs.List.{list_any, range_with_len}
use Rattle.dag_core.proofs.UpperMarks.{is_upper_by}
use Rattle.dag_core.proofs.heads.Heads.uppers.Given as goal

abbrev pub invariant-loop-c : goal.invariant-loop-c
invariant-loop-c l = record {
  count : length l.marks.items ≡ l.self.pages;
  marks : (q : ℕ) → get_or l.marks.items q false ≡ list_any (is_upper_by l.self l.p q) (range_with_len 0 l.c);
}
