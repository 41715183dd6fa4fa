-- An answer that is the one defined, unless memory ran out.
use Rattle.std.specs.Prelude.{◌≡◌, ◌⊎◌, Result, Err}
use Rattle.camera_script.specs.declared.faults.ScriptFault.{ScriptFault}
use Rattle.camera_script.specs.declared.faults.ScriptFault.TheVariants.{Memory}

abbrev pub AnswersOrMemory : {A : Type 0} → Result A ScriptFault → Result A ScriptFault → Type 0
AnswersOrMemory defined result = (result ≡ defined) ⊎ (result ≡ Err Memory)
