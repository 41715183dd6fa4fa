use Rattle.std.proofs.Common.{◌≡◌, ℕ, false, length, get_or}
use Rattle.std.specs.List.{list_any, range_with_len}
use Rattle.dag_core.proofs.TableLaws.{is_made_for_later}
use Rattle.dag_core.proofs.heads.Heads.later_uppers.Given as goal

abbrev pub invariant-loop-c : goal.invariant-loop-c
invariant-loop-c l = record {
  count : length l.pages.items ≡ l.self.pages;
  marks : (p : ℕ) → get_or l.pages.items p false ≡ list_any (is_made_for_later l.self p) (range_with_len 0 l.c);
}
