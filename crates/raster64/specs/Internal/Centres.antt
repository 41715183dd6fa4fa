-- Where the centres of rows and columns are, and which of them pass a test.
use Rattle.std.specs.Prelude.{◌≡◌, ℕ, ◌+◌, ◌*◌, ◌/◌, ◌<◌, ◌≤◌, Bool, true, false, ℤ, pos}
use Rattle.geom_core.specs.declared.limits.TheConstants.{SUBPIXELS}

-- the centre of a row or column, in sixteenths of a pixel
abbrev pub centre : ℕ → ℤ
centre k = pos (SUBPIXELS * k + SUBPIXELS / 2)

-- of the first `count` numbers, exactly those from `first` on and before `end` pass the test
pub record AreInRange (passes : ℕ → Bool) (first end count : ℕ) : Type 0 where
  pub order : first ≤ end
  pub limit : end ≤ count
  pub before : (k : ℕ) → k < first → passes k ≡ false
  pub inside : (k : ℕ) → first ≤ k → k < end → passes k ≡ true
  pub after : (k : ℕ) → end ≤ k → k < count → passes k ≡ false
