-- The first place at which a test passes, and the fault that it is.
use Rattle.std.specs.Prelude.{◌≡◌, Bool, true, false, ℕ, ◌<◌, Option, Some, None, Result, Ok, Err}
use Rattle.dag_core.specs.declared.faults.CheckFault.{CheckFault}
use Rattle.dag_core.specs.declared.faults.CheckFault.TheVariants.{Rule}

-- the first place at which the test passes, if there is one
abbrev pub IsFirstPlace : (ℕ → Bool) → Option ℕ → Type 0
IsFirstPlace test None = (place : ℕ) → test place ≡ false
IsFirstPlace test (Some place) = (test place ≡ true) × ((before : ℕ) → before < place → test before ≡ false)

-- the refusal for a rule that is broken at this place, if it is
abbrev pub refusal_of : ℕ → Option ℕ → Result (Unit {0}) CheckFault
refusal_of rule None = Ok tt
refusal_of rule (Some place) = Err (Rule rule place)
