-- The whole text that a source has left, and what the gathering of it came to.
use Rattle.std.specs.Prelude.{◌≡◌, ◌+◌, ◌<◌, ◌≤◌, ℕ, List, length, drop, Option, IfSome, option_map}
use Rattle.span_io.specs.declared.texts.TextFault.{TextFault}
use Rattle.span_io.specs.declared.texts.TextFault.TheVariants.{Read, TooLong, Memory}
use Rattle.span_io.specs.Faults.{Rose}
use Rattle.span_io.specs.Reads.{Consumed}

-- the text that the source has left, where it tells its bytes; any text where it doesn't
abbrev pub IsText : Option (List ℕ) → List ℕ → Type 0
IsText left text = IfSome left (λ bytes. text ≡ bytes)

-- a read failed, after at most `limit` bytes
pub record FailsWithin (limit : ℕ) (left new_left : Option (List ℕ)) (faults new_faults : ℕ) : Type 0 where
  pub bytes : List ℕ
  pub consumed : Consumed left new_left bytes
  pub limited : length bytes ≤ limit
  pub rose : Rose faults new_faults

-- the text has more than `limit` bytes, and was read up to the first one too many
pub record IsLonger (limit : ℕ) (left new_left : Option (List ℕ)) (faults new_faults : ℕ) : Type 0 where
  pub longer : IfSome left (λ text. limit < length text)
  pub read : new_left ≡ option_map (drop (limit + 1)) left
  pub no_fault : new_faults ≡ faults

-- what each fault says of the bytes left and of the count of faults
abbrev pub TextRefused : ℕ → Option (List ℕ) → Option (List ℕ) → ℕ → ℕ → TextFault → Type 0
TextRefused limit left new_left faults new_faults Read = FailsWithin limit left new_left faults new_faults
TextRefused limit left new_left faults new_faults TooLong = IsLonger limit left new_left faults new_faults
TextRefused limit left new_left faults new_faults Memory = new_faults ≡ faults
