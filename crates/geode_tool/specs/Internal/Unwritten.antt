-- A fault before the first write.
use Rattle.std.specs.Prelude.{◌≡◌, ◌≢◌, ◌≤◌, ◌⊎◌, ℕ, List, Err}
use Rattle.span_io.specs.Faults.{Rose}
use Rattle.geode_tool.specs.declared.commands.Command.{Command}
use Rattle.geode_tool.specs.declared.faults.Fault.{Fault}
use Rattle.geode_tool.specs.declared.faults.Fault.TheVariants.{NoSource, ReadFault, Pages, PageFault, WriteFault}
use Rattle.geode_tool.specs.Audit.{audit_answer}
use Rattle.page_file.specs.declared.open_faults.OpenFault.{OpenFault}
use Rattle.geode_tool.specs.Commands.{verdict_of, LacksSources, ReadsUpTo}
use Rattle.geode_tool.specs.FaultTable.{kind_of, IsMemory, IsOutside, MayReturn}
use Rattle.geode_tool.specs.FaultTable.FaultKind.{Journal}
use Rattle.geode_tool.specs.Inputs.{Inputs, Sources}
use Rattle.geode_tool.specs.Verdicts.{Answers}
use Rattle.geode_tool.specs.Verify.{IsOfBytes}

-- what such a fault says of the known input, of how far it was read, and of its count of failures
pub record StopsUnwritten (command : Command) (before after : Inputs) (faults new_faults : ℕ)
    (fault : Fault) : Type 0 where
  pub answered : Answers IsOutside (verdict_of command before) (Err fault)
  pub may_return : MayReturn command fault
  pub cause : fault ≡ ReadFault → Rose faults new_faults
  pub reads : ReadsUpTo command before after fault
  pub no_write : fault ≢ WriteFault

-- what such a fault says of the page sources
pub record SourcesCause (command : Command) (before after : Sources) (fault : Fault) : Type 0 where
  pub never_falls : before.faults ≤ after.faults
  pub no_source : (need have : ℕ) → fault ≡ NoSource need have → LacksSources command before.count need have
  pub page_fault : fault ≡ PageFault → Rose before.faults after.faults
  pub pages : (why : OpenFault) → fault ≡ Pages why → IsOfBytes why

-- what a fault of judging a whole text says of it: it is that of the text, or memory ran out
abbrev pub JudgeRefuses : List ℕ → Fault → Type 0
JudgeRefuses text fault = IsMemory fault ⊎ ((kind_of fault ≡ Journal) × (audit_answer text ≡ Err fault))
