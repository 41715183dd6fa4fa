use Rattle.std.proofs.Common.{◌≡◌, ◌≤◌, ◌*◌, ℕ, length, get_or}
use Rattle.geom_core.specs.declared.limits.TheConstants.{TRIANGLES_PER_CLUSTER}
use Rattle.dag_core.proofs.TableLaws.{tris_before}
use Rattle.dag_core.proofs.heads.Heads.page_tris.Given as goal

abbrev pub invariant-loop-c : goal.invariant-loop-c
invariant-loop-c l = record {
  count : length l.tris.items ≡ l.self.pages;
  sums : (p : ℕ) → get_or l.tris.items p 0 ≡ tris_before l.self p l.c;
  limit : (p : ℕ) → get_or l.tris.items p 0 ≤ TRIANGLES_PER_CLUSTER * l.c;
}
