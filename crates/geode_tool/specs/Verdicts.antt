-- A verdict on the known parts of the inputs, and which answers keep to it.
use Rattle.std.specs.Prelude.{◌≡◌, ◌⊎◌, ℕ, List, Option, Some, None, Result, Ok, Err}
use Rattle.geode_tool.specs.declared.faults.Done.{Done}
use Rattle.geode_tool.specs.declared.faults.Fault.{Fault}

pub data Verdict : Type 0 where
  -- the command is refused: this is the first refusal
  Refuses : Fault → Verdict
  -- the command is accepted
  Accepts : Verdict
  -- the known parts do not decide it
  Undecided : Verdict

-- accepted if the inputs give what the command works on, else refused with the fault
abbrev pub verdict_from : {A : Type 0} → Result A Fault → Verdict
verdict_from (Ok found) = Accepts
verdict_from (Err fault) = Refuses fault

-- the verdict on a text, if it is known
abbrev pub verdict_on : (List ℕ → Verdict) → Option (List ℕ) → Verdict
verdict_on judge None = Undecided
verdict_on judge (Some text) = judge text

-- a refusal is the answer, and an accepted command succeeds, unless the answer is a fault of which IsFree holds
abbrev pub Answers : (Fault → Type 0) → Verdict → Result Done Fault → Type 0
Answers IsFree (Refuses fault) (Ok done) = ⊥
Answers IsFree (Refuses fault) (Err other) = (other ≡ fault) ⊎ IsFree other
Answers IsFree Accepts (Ok done) = Unit {0}
Answers IsFree Accepts (Err other) = IsFree other
Answers IsFree Undecided result = Unit {0}
