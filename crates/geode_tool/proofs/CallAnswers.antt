-- Want of memory before a command begins.
use Rattle.std.proofs.Common.{◌≡◌, ℕ, List, Bool, Option, None, Some, Result, Ok, Err, refl, sym, subst, arith}
use Rattle.std.specs.Prelude.{IsErr, IfSome}
use Rattle.std.specs.Result.{IsErrAnd}
use Rattle.geode_tool.specs.declared.commands.Command.{Command}
use Rattle.geode_tool.specs.declared.commands.Command.TheVariants.{Draw, Audit, Make, Build, Verify}
use Rattle.geode_tool.specs.declared.faults.Done.{Done}
use Rattle.geode_tool.specs.declared.faults.Fault.{Fault}
use Rattle.geode_tool.specs.declared.faults.Fault.TheVariants.{Memory}
use Rattle.geode_tool.specs.Headline.{Holds}
use Rattle.geode_tool.specs.Inputs.{inputs_of, Sources, streams, with_sources}
use Rattle.geode_tool.specs.Internal.Unwritten.{StopsUnwritten}
use Rattle.geode_tool.proofs.AuditAnswers as audit
use Rattle.geode_tool.proofs.BuildAnswers.{dag_refused}
use Rattle.geode_tool.proofs.DrawAnswers.{memory_refused}
use Rattle.geode_tool.proofs.MakeAnswers.{box-stops}
use Rattle.geode_tool.proofs.Promise.{promise-refused, refused_with, untouched}
use Rattle.geode_tool.proofs.VerifyAnswers.{memory_stops}

-- nothing was read or written, and there was no memory
pub starved : {K : Type 0} (command : Command) (sources : Sources) (left : Option (List ℕ)) (faults : ℕ)
    (written : Option (List ℕ)) (flushed : Bool) (output_faults : ℕ) (output : K) →
    Holds command (with_sources sources (streams left faults written flushed output_faults output))
    (with_sources sources (streams left faults written flushed output_faults output)) (Err Memory)
starved (Draw request) sources left faults written flushed output_faults output =
    untouched (Draw request) sources _ _ (Err Memory) refl
    (promise-refused (Draw request) left left faults faults written flushed output_faults output
    (Err Memory) Memory refl
    (refl, refl) (memory_refused {T = Done} (Err Memory) request left left faults faults (refl, refl)) (omega arith))
starved Audit sources left faults written flushed output_faults output =
    untouched Audit sources _ _ (Err Memory) refl
    (promise-refused Audit left left faults faults written flushed output_faults output (Err Memory) Memory refl
    (refl, refl) (audit.memory-stops left left faults faults) (omega arith))
starved (Make request) sources left faults written flushed output_faults output =
    untouched (Make request) sources _ _ (Err Memory) refl
    (promise-refused (Make request) left left faults faults written flushed output_faults output
    (Err Memory) Memory refl
    (refl, refl) (box-stops request left faults) (omega arith))
starved Build sources left faults written flushed output_faults output =
    untouched Build sources _ _ (Err Memory) refl
    (promise-refused Build left left faults faults written flushed output_faults output (Err Memory) Memory refl
    (refl, refl) (dag_refused {T = Done} (Err Memory) left left faults faults (refl, refl)) (omega arith))
starved Verify sources left faults written flushed output_faults output =
    let stops = memory_stops left faults sources sources
    (record { bytes = refl; count = refl; never_falls = omega arith }) in
    refused_with Verify sources sources left left faults faults written flushed output_faults output (Err Memory) Memory
    (refl, refl) stops.stops stops.cause (omega arith)

-- the same of an answer that says so, where the words may ask for nothing
pub early_memory : {K : Type 0} (asked : Option Command) (sources : Sources) (left : Option (List ℕ)) (faults : ℕ)
    (written : Option (List ℕ)) (flushed : Bool) (output_faults : ℕ) (output : K) (r : Result Done Fault) →
    IsErr r × IsErrAnd r (λ e. e ≡ Memory) → IfSome asked (λ command. Holds command
    (with_sources sources (streams left faults written flushed output_faults output))
    (with_sources sources (streams left faults written flushed output_faults output)) r)
early_memory asked sources left faults written flushed output_faults output (Ok done) becomes = absurd cc
early_memory None sources left faults written flushed output_faults output (Err e) becomes = tt
early_memory (Some command) sources left faults written flushed output_faults output (Err e) becomes =
    subst (λ (f : Fault). Holds command
    (with_sources sources (streams left faults written flushed output_faults output))
    (with_sources sources (streams left faults written flushed output_faults output)) (Err f)) (sym becomes.1)
    (starved command sources left faults written flushed output_faults output)
