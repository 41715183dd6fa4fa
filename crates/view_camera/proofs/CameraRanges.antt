-- The first number that is out of its range, one number on.
use Rattle.std.specs.Prelude.{◌≡◌, ◌+◌, ◌<◌, ◌≤◌, List, ℕ, ℤ, pos, FitsSigned, Bool, true, false, Some, None, cond}
use Rattle.std.specs.Prelude.{length, drop, refl}
use Rattle.std.proofs.Common.{arith, ap, sym, ◌∙◌, to_z, of_z, w64, get_or}
use Rattle.std.proofs.lemmas.Int.{to_z-of_z}
use Rattle.std.proofs.lemmas.List.{drop_more, drop_all}
use Rattle.view_camera.specs.declared.number_ranges.NumberRange.{NumberRange}
use Rattle.view_camera.specs.CameraNumbers.{is_outside, first_outside}

-- what the code reads after the end of a table
abbrev none : NumberRange
none = record { least = pos 0; greatest = pos 0 }

-- the test of this number, and then the rest
first_outside-step : (rs : List NumberRange) (ns : List ℤ) (field : ℕ) → length rs ≡ 15 → length ns ≡ 15 → field < 15 →
    first_outside field (drop field rs) (drop field ns) ≡
    cond (is_outside (get_or rs field none) (get_or ns field (pos 0))) (Some field)
    (first_outside (field + 1) (drop (field + 1) rs) (drop (field + 1) ns))
first_outside-step rs ns field d e h =
    let in_table : field < length rs = omega arith in
    let inside : field < length ns = omega arith in
    rw (drop_more rs field none in_table, drop_more ns field (pos 0) inside) refl

-- the answer of the test, as the code has it
abbrev IsTest : List NumberRange → List ℤ → ℕ → Bool → Type 0
IsTest rs ns field b = b ≡ is_outside (get_or rs field none) (to_z w64 (of_z w64 (get_or ns field (pos 0))))

test_is : (rs : List NumberRange) (ns : List ℤ) (field : ℕ) (b : Bool) → FitsSigned w64 (get_or ns field (pos 0)) →
    IsTest rs ns field b → is_outside (get_or rs field none) (get_or ns field (pos 0)) ≡ b
test_is rs ns field b f h = sym (h ∙ ap (is_outside (get_or rs field none)) (to_z-of_z w64 _ f))

pub first_outside-hit : (rs : List NumberRange) (ns : List ℤ) (field : ℕ) (b : Bool) → length rs ≡ 15 → length ns ≡ 15 →
    field < 15 → FitsSigned w64 (get_or ns field (pos 0)) → IsTest rs ns field b → b ≡ true →
    first_outside field (drop field rs) (drop field ns) ≡ Some field
first_outside-hit rs ns field b d e h f t is =
    first_outside-step rs ns field d e h ∙ rw (test_is rs ns field b f t, is) refl

pub first_outside-miss : (rs : List NumberRange) (ns : List ℤ) (field : ℕ) (b : Bool) → length rs ≡ 15 →
    length ns ≡ 15 →
    field < 15 → FitsSigned w64 (get_or ns field (pos 0)) → IsTest rs ns field b → b ≡ false →
    first_outside field (drop field rs) (drop field ns) ≡
    first_outside (field + 1) (drop (field + 1) rs) (drop (field + 1) ns)
first_outside-miss rs ns field b d e h f t is =
    first_outside-step rs ns field d e h ∙ rw (test_is rs ns field b f t, is) refl

pub first_outside-end : (rs : List NumberRange) (ns : List ℤ) (field : ℕ) → length rs ≡ 15 → 15 ≤ field →
    first_outside field (drop field rs) (drop field ns) ≡ None
first_outside-end rs ns field d h = rw (drop_all field rs (omega arith)) refl
