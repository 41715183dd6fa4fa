-- Bytes put into a sink, and what they leave of 'flushed'.
use Rattle.std.specs.Prelude.{◌≡◌, ℕ, List, [], ◌∷◌, ◌++◌, Bool, false, Option, option_map}

-- these bytes stand at the end of what was written, where that is told
abbrev pub Appended : Option (List ℕ) → Option (List ℕ) → List ℕ → Type 0
Appended written new_written bytes = new_written ≡ option_map (λ before. before ++ bytes) written

-- any byte leaves a sink unflushed
abbrev pub flushed_after : Bool → List ℕ → Bool
flushed_after flushed [] = flushed
flushed_after flushed (byte ∷ more) = false

-- exactly these bytes were put
pub record Appends (written new_written : Option (List ℕ)) (flushed new_flushed : Bool) (bytes : List ℕ) : Type 0 where
  pub appended : Appended written new_written bytes
  pub flushed_is : new_flushed ≡ flushed_after flushed bytes
