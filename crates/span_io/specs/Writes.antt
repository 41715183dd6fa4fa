-- What one call of a sink does, for each of its answers.
use Rattle.std.specs.Prelude.{◌≡◌, ◌≤◌, ℕ, List, length, take, Bool, true, false, Option}
use Rattle.span_io.specs.declared.sinks.Took.{Took}
use Rattle.span_io.specs.declared.sinks.Took.TheVariants.{Bytes, Failed}
use Rattle.span_io.specs.Faults.{Rose}
use Rattle.span_io.specs.Puts.{Appended}

-- the first n bytes were appended, so the sink is not flushed; no fault was counted
pub record TookBytes (written new_written : Option (List ℕ)) (new_flushed : Bool) (faults new_faults : ℕ)
    (from : List ℕ) (n : ℕ) : Type 0 where
  pub some_byte : 1 ≤ n
  pub within : n ≤ length from
  pub appended : Appended written new_written (take n from)
  pub unflushed : new_flushed ≡ false
  pub no_fault : new_faults ≡ faults

-- a fault was counted, and the rest stays
pub record Refused (written new_written : Option (List ℕ)) (flushed new_flushed : Bool)
    (faults new_faults : ℕ) : Type 0 where
  pub rose : Rose faults new_faults
  pub stays : new_written ≡ written
  pub flushed_stays : new_flushed ≡ flushed

-- what a write did to the bytes written, to flushed and to the count of faults
abbrev pub WriteDoes : Option (List ℕ) → Option (List ℕ) → Bool → Bool → ℕ → ℕ → List ℕ → Took → Type 0
WriteDoes written new_written flushed new_flushed faults new_faults from (Bytes n) =
    TookBytes written new_written new_flushed faults new_faults from n
WriteDoes written new_written flushed new_flushed faults new_faults from Failed =
    Refused written new_written flushed new_flushed faults new_faults

-- the bytes written stay, and the sink is flushed; no fault was counted
pub record Finished (written new_written : Option (List ℕ)) (new_flushed : Bool) (faults new_faults : ℕ) : Type 0 where
  pub stays : new_written ≡ written
  pub flushed_is : new_flushed ≡ true
  pub no_fault : new_faults ≡ faults

-- what a finish did to the bytes written, to flushed and to the count of faults
abbrev pub FinishDoes : Option (List ℕ) → Option (List ℕ) → Bool → Bool → ℕ → ℕ → Bool → Type 0
FinishDoes written new_written flushed new_flushed faults new_faults true =
    Finished written new_written new_flushed faults new_faults
FinishDoes written new_written flushed new_flushed faults new_faults false =
    Refused written new_written flushed new_flushed faults new_faults
