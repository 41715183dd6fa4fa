-- Searches for the first place at which a test passes.
use Rattle.std.proofs.Common.{◌≡◌, ◌<◌, ◌≤◌, ℕ, Bool, false, inl, inr}
use Rattle.std.proofs.lemmas.Bool.{cases_lt}

-- the test passes at no place before this one
abbrev pub NoneBefore : (ℕ → Bool) → ℕ → Type 0
NoneBefore test place = (before : ℕ) → before < place → test before ≡ false

-- at no place below the end, and at none from there on
pub none_at_all : (test : ℕ → Bool) (end : ℕ) → NoneBefore test end → ((place : ℕ) → end ≤ place → test place ≡ false) →
    (place : ℕ) → test place ≡ false
none_at_all test end before after place =
    elim (cases_lt place end) [ inl below ↦ before place below | inr from ↦ after place from ]
