-- What the top call promises of a command: a field for each phrase of the promise, in its order.
--
-- Commands to come keep the sense of each field. The causes of journal entries will be a field of their own, over the
-- counts of the page sources before and after; a field `partial` will say what a value inside `WriteFault` or `Memory`
-- is.
use Rattle.std.specs.Prelude.{◌≡◌, ◌≢◌, ◌≤◌, ℕ, true, List, Result, Ok, IfOk, IfErr, OnOk}
use Rattle.dag_core.specs.declared.counts.Counts.{Counts}
use Rattle.dag_core.specs.Ranges.{counts_of}
use Rattle.page_file.specs.declared.open_faults.OpenFault.{OpenFault}
use Rattle.span_io.specs.Faults.{Rose}
use Rattle.geode_tool.specs.declared.commands.Command.{Command}
use Rattle.geode_tool.specs.declared.faults.Done.{Done}
use Rattle.geode_tool.specs.declared.faults.Done.TheVariants.{Built, Verified}
use Rattle.geode_tool.specs.declared.faults.Fault.{Fault}
use Rattle.geode_tool.specs.declared.faults.Fault.TheVariants.{NoSource, ReadFault, Pages, PageFault, WriteFault}
use Rattle.geode_tool.specs.declared.faults.Fault.TheVariants.{Memory}
use Rattle.geode_tool.specs.Build.{DoesBuild, IsSoundBuild}
use Rattle.geode_tool.specs.Commands.{verdict_of, Does, HasRead, LacksSources, ReadsUpTo, TakesMemoryFirst}
use Rattle.geode_tool.specs.FaultTable.{IsMemory, IsOutside, MayReturn}
use Rattle.geode_tool.specs.Inputs.{Inputs, Streams}
use Rattle.geode_tool.specs.Outputs.{LeavesPrefix, WritesAll}
use Rattle.geode_tool.specs.Verdicts.{Answers}
use Rattle.geode_tool.specs.Verify.{IsOfBytes, IsVerified}

-- the input failed in the call
abbrev pub InputFailed : {K : Type 0} → Streams K → Streams K → Type 0
InputFailed before after = Rose before.input_faults after.input_faults

-- the output failed in the call
abbrev pub OutputFailed : {K : Type 0} → Streams K → Streams K → Type 0
OutputFailed before after = Rose before.output_faults after.output_faults

-- the first page source failed in the call
abbrev pub PagesFailed : {K : Type 0} → Streams K → Streams K → Type 0
PagesFailed before after = Rose before.source_faults after.source_faults

-- A fault of the outside has its cause, and so has a lack of page sources. A page file is refused by its bytes: a
-- failed read or want of memory has its own fault.
pub record HasCause {K : Type 0} (command : Command) (before after : Streams K) (fault : Fault) : Type 0 where
  pub no_source : (need have : ℕ) → fault ≡ NoSource need have → LacksSources command before.inputs.sources need have
  pub read_fault : fault ≡ ReadFault → InputFailed before after
  pub page_fault : fault ≡ PageFault → PagesFailed before after
  pub pages : (why : OpenFault) → fault ≡ Pages why → IsOfBytes why
  pub write_fault : fault ≡ WriteFault → OutputFailed before after

-- No count of failures falls, and a success changes neither that of the input nor that of the output.
pub record CountsFailures {K : Type 0} (before after : Streams K) (result : Result Done Fault) : Type 0 where
  pub input : before.input_faults ≤ after.input_faults
  pub sources : before.source_faults ≤ after.source_faults
  pub output : before.output_faults ≤ after.output_faults
  pub none_in_success : OnOk result ((after.input_faults ≡ before.input_faults) ×
      (after.output_faults ≡ before.output_faults))

-- a text that a success of the command may write
abbrev pub IsOutput : Command → Inputs → List ℕ → Type 0
IsOutput command inputs text = (done : Done) × Does command inputs done text

pub record Holds {K : Type 0} (command : Command) (before after : Streams K) (result : Result Done Fault) : Type 0 where
  -- known input has one answer, its first refusal or success, unless a read, a write or memory fails
  pub answered : Answers IsOutside (verdict_of command before.inputs) result
  -- if no read and no write failed, only want of memory gives another answer (a corollary of `answered` and `causes`)
  pub complete : ¬ (InputFailed before after) → ¬ (PagesFailed before after) → ¬ (OutputFailed before after)
      → Answers IsMemory (verdict_of command before.inputs) result
  -- a success has written exactly its text
  pub written : IfOk result (λ done. WritesAll (Does command before.inputs done) before.written after.written)
  -- `build` has written the page file of the DAG that is built from the triangles in its input
  pub built : (counts : Counts) → result ≡ Ok (Built counts)
      → WritesAll (DoesBuild before.inputs (Built counts)) before.written after.written
  -- (that DAG is sound, and its source mesh is these triangles)
  pub sound : (counts : Counts) → (is : result ≡ Ok (Built counts)) → IsSoundBuild (built counts is).is_output
  -- (the counts that it returns are those of the file)
  pub counted : (counts : Counts) → (is : result ≡ Ok (Built counts))
      → counts ≡ counts_of (built counts is).is_output.laid.heads
  -- `verify` has written its line and flushed it, and the page file is that of a sound DAG with these counts
  pub verified : (counts : Counts) → result ≡ Ok (Verified counts) → IsVerified counts before after
  -- flushed it
  pub flushed : OnOk result (after.flushed ≡ true)
  -- and read all input, if the command takes input, and else left it as it was
  pub input_read : OnOk result (HasRead command before.inputs after.inputs)
  -- a refusal is one that the command may return
  pub refusals : IfErr result (MayReturn command)
  -- has its cause
  pub causes : IfErr result (HasCause command before after)
  -- comes before any further read
  pub reads : IfErr result (ReadsUpTo command before.inputs after.inputs)
  -- and leaves a prefix of such a text after a failed write or want of memory
  pub prefix : IfErr result (LeavesPrefix (IsOutput command before.inputs) before.written after.written)
  -- and otherwise the output as it was
  pub output_unchanged : IfErr result (λ fault. fault ≢ WriteFault → fault ≢ Memory → after.output ≡ before.output)
  -- (a command that takes its memory first leaves it so after want of memory too)
  pub memory : TakesMemoryFirst command → IfErr result (λ fault. fault ≡ Memory → after.output ≡ before.output)
  -- no count of failures falls, and a success changes none
  pub counts : CountsFailures before after result
