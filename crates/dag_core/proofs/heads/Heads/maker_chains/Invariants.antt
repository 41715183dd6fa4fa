use Rattle.std.proofs.Common.{◌≡◌, ◌<◌, ℕ, None, length, map, get_or}
use Rattle.std.specs.List.{range_with_len}
use Rattle.dag_core.specs.Members.{cluster_at}
use Rattle.dag_core.specs.Internal.Marks.{last_made, made_before}
use Rattle.dag_core.proofs.heads.Heads.maker_chains.Given as goal

abbrev pub invariant-loop-c : goal.invariant-loop-c
invariant-loop-c l = record {
  count : length l.last.items ≡ l.self.pages;
  last : (p : ℕ) → p < l.self.pages → get_or l.last.items p None ≡ last_made l.self p l.c;
  before : l.before.items ≡ map (λ c. made_before l.self c (cluster_at l.self c).made) (range_with_len 0 l.c);
}
