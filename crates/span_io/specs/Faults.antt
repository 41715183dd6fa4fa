-- Counts of faults: how one fault is counted, and when a count rose in a call.
use Rattle.std.specs.Prelude.{◌≡◌, ◌≤◌, ◌<◌, ◌⊎◌, ◌+◌, ◌-◌, ◌^◌, min, ℕ}

-- the greatest count; a fault leaves it
abbrev pub greatest_count : ℕ
greatest_count = 2 ^ 64 - 1

-- one more, unless the count is the greatest
abbrev pub raised : ℕ → ℕ
raised count = min (count + 1) greatest_count

-- At least one fault was counted: the count is greater at the call's end than at its start, or it was the
-- greatest, and is.
pub record Rose (before after : ℕ) : Type 0 where
  pub rose : (before < after) ⊎ (before ≡ greatest_count)
  pub never_falls : before ≤ after
  pub range : after ≤ greatest_count
