use Rattle.std.proofs.Common.{◌≡◌, ℕ, true, length, drop}
use Rattle.std.specs.Bool.{◌==◌}
use Rattle.std.specs.List.{list_any}
use Rattle.rim_collapse.specs.Internal.Marks.{is_marked}
use Rattle.rim_collapse.proofs.number_sets.clear.Given as goal

-- the marks that are left are those of the members that are left
abbrev pub invariant-loop-i : goal.invariant-loop-i
invariant-loop-i l = record {
  size : length l.set.marks.items ≡ length l.fn.set.marks.items;
  members : l.set.members ≡ l.fn.set.members;
  left : (k : ℕ) → is_marked l.set.marks.items k ≡ true →
      list_any (λ m. m == k) (drop l.i l.fn.set.members.items) ≡ true;
}
