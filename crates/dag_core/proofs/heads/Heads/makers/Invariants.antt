use Rattle.std.proofs.Common.{◌≡◌, ℕ, false, length, take, get_or}
use Rattle.std.specs.List.{list_any}
use Rattle.dag_core.specs.Members.{is_made_by}
use Rattle.dag_core.proofs.heads.Heads.makers.Given as goal

abbrev pub invariant-loop-c : goal.invariant-loop-c
invariant-loop-c l = record {
  count : length l.makers.items ≡ length l.self.groups;
  marks : (g : ℕ) → get_or l.makers.items g false ≡ list_any (is_made_by g) (take l.c l.self.clusters);
}
