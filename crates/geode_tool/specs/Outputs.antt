-- What a command appends to the output, and what a refusal leaves there.
use Rattle.std.specs.Prelude.{◌≡◌, ◌≤◌, ◌⊎◌, ℕ, List, length, take, Option}
use Rattle.span_io.specs.Puts.{Appended}
use Rattle.geode_tool.specs.declared.faults.Fault.{Fault}
use Rattle.geode_tool.specs.declared.faults.Fault.TheVariants.{WriteFault, Memory}

-- a whole text, of which `IsOutput` holds
pub record WritesAll (IsOutput : List ℕ → Type 0) (written new_written : Option (List ℕ)) : Type 0 where
  pub text : List ℕ
  pub is_output : IsOutput text
  pub appended : Appended written new_written text

-- a prefix of such a text, possibly empty or complete
pub record WritesPrefix (IsOutput : List ℕ → Type 0) (written new_written : Option (List ℕ)) : Type 0 where
  pub text : List ℕ
  pub is_output : IsOutput text
  pub count : ℕ
  pub within : count ≤ length text
  pub appended : Appended written new_written (take count text)

-- a prefix after a failed write; after want of memory nothing, or a prefix
pub record LeavesPrefix (IsOutput : List ℕ → Type 0) (written new_written : Option (List ℕ))
    (fault : Fault) : Type 0 where
  pub write_fault : fault ≡ WriteFault → WritesPrefix IsOutput written new_written
  pub memory : fault ≡ Memory → (new_written ≡ written) ⊎ WritesPrefix IsOutput written new_written
