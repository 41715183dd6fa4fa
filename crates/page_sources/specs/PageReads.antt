-- What one read of a page source does, for each of its answers. A source that doesn't tell its bytes holds `None`.
use Rattle.std.specs.Prelude.{◌≡◌, ◌<◌, ℕ, List, length, take, drop, Option, IfSome}
use Rattle.page_sources.specs.declared.page_sources.PageGot.{PageGot}
use Rattle.page_sources.specs.declared.page_sources.PageGot.TheVariants.{All, Short, Failed}
use Rattle.span_io.specs.Faults.{Rose}

-- the buffer has the bytes from this place on, and no fault was counted
pub record ReadAll (holds : Option (List ℕ)) (faults new_faults : ℕ) (at : ℕ) (buffer : List ℕ) : Type 0 where
  pub bytes : IfSome holds (λ bytes. buffer ≡ take (length buffer) (drop at bytes))
  pub no_fault : new_faults ≡ faults

-- only n bytes stand from this place on, fewer than the buffer takes; it begins with them, and no fault was counted
pub record ReadShort (holds : Option (List ℕ)) (faults new_faults : ℕ) (at : ℕ) (buffer : List ℕ) (n : ℕ) : Type 0 where
  pub fewer : n < length buffer
  pub bytes : IfSome holds (λ bytes. take n buffer ≡ drop at bytes)
  pub no_fault : new_faults ≡ faults

-- what a read did to the count of faults and to the buffer; the buffer of a read that failed has any bytes
abbrev pub PageReadDoes : Option (List ℕ) → ℕ → ℕ → ℕ → List ℕ → PageGot → Type 0
PageReadDoes holds faults new_faults at buffer All = ReadAll holds faults new_faults at buffer
PageReadDoes holds faults new_faults at buffer (Short n) = ReadShort holds faults new_faults at buffer n
PageReadDoes holds faults new_faults at buffer Failed = Rose faults new_faults
