-- What putting a text into a sink comes to, for each of its two ends.
use Rattle.std.specs.Prelude.{◌≡◌, ℕ, List, Option}
use Rattle.span_io.specs.Faults.{Rose}
use Rattle.span_io.specs.Puts.{Appended}
use Rattle.page_file.specs.WrittenFiles.{AppendsPrefix}

-- all of the text was appended, and no fault was counted
pub record PutsText (written new_written : Option (List ℕ)) (faults new_faults : ℕ) (text : List ℕ) : Type 0 where
  pub appended : Appended written new_written text
  pub no_fault : new_faults ≡ faults

-- a prefix of the text was appended, and then a fault was counted
pub record StopsPutting (written new_written : Option (List ℕ)) (faults new_faults : ℕ) (text : List ℕ) : Type 0 where
  pub prefix : AppendsPrefix written new_written text
  pub rose : Rose faults new_faults
