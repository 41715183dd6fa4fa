-- What one read of a source does, for each of its answers.
use Rattle.std.specs.Prelude.{◌≡◌, ◌≤◌, ℕ, List, [], ◌++◌, length, take, drop, Option, IfSome, option_map}
use Rattle.span_io.specs.declared.sources.Got.{Got}
use Rattle.span_io.specs.declared.sources.Got.TheVariants.{Bytes, End, Failed}
use Rattle.span_io.specs.Faults.{Rose}

-- these bytes were taken from the front of those left, where they are known
abbrev pub Consumed : Option (List ℕ) → Option (List ℕ) → List ℕ → Type 0
Consumed left new_left bytes = left ≡ option_map (λ rest. bytes ++ rest) new_left

-- no byte is left
abbrev pub ReadToEnd : Option (List ℕ) → Option (List ℕ) → Type 0
ReadToEnd left new_left = new_left ≡ option_map (λ bytes. []) left

-- the next n bytes are at the front of the buffer and are left no longer; no fault was counted
pub record GotBytes (left new_left : Option (List ℕ)) (faults new_faults : ℕ) (buffer : List ℕ) (n : ℕ) : Type 0 where
  pub some_byte : 1 ≤ n
  pub fits : n ≤ length buffer
  pub gone : new_left ≡ option_map (drop n) left
  pub enough : IfSome left (λ bytes. n ≤ length bytes)
  pub same : IfSome left (λ bytes. take n buffer ≡ take n bytes)
  pub no_fault : new_faults ≡ faults

-- no byte is left; no fault was counted
pub record GotEnd (left new_left : Option (List ℕ)) (faults new_faults : ℕ) : Type 0 where
  pub stays : new_left ≡ left
  pub none_left : IfSome left (λ bytes. bytes ≡ [])
  pub no_fault : new_faults ≡ faults

-- a fault was counted, and the bytes left stay
pub record GotFailed (left new_left : Option (List ℕ)) (faults new_faults : ℕ) : Type 0 where
  pub rose : Rose faults new_faults
  pub stays : new_left ≡ left

-- what a read did to the bytes left, to the count of faults and to the buffer
abbrev pub ReadDoes : Option (List ℕ) → Option (List ℕ) → ℕ → ℕ → List ℕ → Got → Type 0
ReadDoes left new_left faults new_faults buffer (Bytes n) =
    GotBytes left new_left faults new_faults buffer n
ReadDoes left new_left faults new_faults buffer End = GotEnd left new_left faults new_faults
ReadDoes left new_left faults new_faults buffer Failed = GotFailed left new_left faults new_faults
