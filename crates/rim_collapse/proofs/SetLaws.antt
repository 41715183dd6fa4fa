-- Sets of numbers, and what is asked of their members, one after another.
use Rattle.std.proofs.Common.{◌≡◌, inl, inr, ℕ, ◌<◌, Bool, true, false, List, length}
use Rattle.std.proofs.Common.{set, ap, ◌∙◌, arith}
use Rattle.std.specs.Bool.{◌==◌}
use Rattle.std.specs.List.{list_any}
use Rattle.std.proofs.Math.ListN.{get_or-eq_default}
use Rattle.std.proofs.lemmas.Bool.{cases_Bool, cases_lt}
use Rattle.std.proofs.lemmas.Bool.Decides.{nat_tests}
use Rattle.rim_collapse.specs.declared.number_sets.NumberSet.{NumberSet}
use Rattle.rim_collapse.specs.Internal.Marks.{IsSetBelow, is_marked}
use Rattle.std.proofs.lemmas.List.Elements.{All-weaker}
use Rattle.std.proofs.lemmas.List.Folds.{list_any_none}

equal_from : (n m : ℕ) → n == m ≡ true → n ≡ m
equal_from n m h = grind (arith, nat_tests)

clash : (x : Bool) → x ≡ true → x ≡ false → ⊥
clash x h k = cc

pub marked-below : (marks : List Bool) (n : ℕ) → is_marked marks n ≡ true → n < length marks
marked-below marks n at =
    elim (cases_lt n (length marks)) [
      | inl less ↦ less
      | inr most ↦ absurd (clash (is_marked marks n) at (get_or-eq_default marks false (omega (arith, most))))
    ]

-- a number that isn't marked isn't listed
pub unlisted : (limit : ℕ) (set : NumberSet) (k : ℕ) → IsSetBelow limit set → is_marked set.marks.items k ≡ false →
    list_any (λ m. m == k) set.members.items ≡ false
unlisted limit set k is unmarked =
    list_any_none (λ m. m == k) set.members.items
    (All-weaker (λ m. is_marked set.marks.items m ≡ true) (λ m. m == k ≡ false) (λ m marked.
    elim (cases_Bool (m == k)) [
      | inl at ↦ absurd (clash (is_marked set.marks.items m) marked
          (ap (is_marked set.marks.items) (equal_from m k at) ∙ unmarked))
      | inr off ↦ off
    ]) set.members.items is.marked)
