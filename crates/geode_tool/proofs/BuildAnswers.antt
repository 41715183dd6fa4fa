-- What a DAG that was built, or a fault before it, says of the promise of `build`.
use Rattle.std.proofs.Common.{◌≡◌, ◌≤◌, ℕ, List, Bool, Option, Some, None, Result, Ok, Err, pos, inl, ap}
use Rattle.std.proofs.Common.{sym, subst, refl}
use Rattle.std.specs.Prelude.{IsErr, IfErr}
use Rattle.std.specs.Result.{IsErrAnd}
use Rattle.geom_core.specs.declared.limits.TheConstants.{STEPS_PER_UNIT}
use Rattle.geom_core.specs.declared.triangles.Tri.{Tri}
use Rattle.dag_core.specs.declared.counts.Counts.{Counts}
use Rattle.dag_core.specs.declared.dags.Dag.{Dag}
use Rattle.dag_core.specs.Ranges.{counts_of}
use Rattle.obj_source.specs.declared.faults.ObjFault.{ObjFault}
use Rattle.obj_source.specs.Readings.{Listed, ReadsUpTo, Refused}
use Rattle.page_codec.specs.Spelling.{file_bytes}
use Rattle.page_file.specs.declared.page_writes.PageWrite.{PageWrite}
use Rattle.page_file.specs.declared.page_writes.PageWrite.TheVariants as writes
use Rattle.page_file.specs.WrittenFiles.{AppendsPrefix}
use Rattle.span_io.specs.Faults.{Rose}
use Rattle.span_io.specs.Reads.{ReadToEnd}
use Rattle.geode_tool.specs.declared.commands.Command.TheVariants.{Build, Draw}
use Rattle.geode_tool.specs.declared.commands.DrawRequest.{DrawRequest}
use Rattle.geode_tool.specs.declared.faults.Done.{Done}
use Rattle.geode_tool.specs.declared.faults.Done.TheVariants.{Built}
use Rattle.geode_tool.specs.declared.faults.Fault.{Fault}
use Rattle.geode_tool.specs.declared.faults.Fault.TheVariants.{Memory, WriteFault}
use Rattle.geom_core.specs.Camera.{Direction}
use Rattle.geode_tool.specs.Build.{IsBuiltFrom}
use Rattle.geode_tool.specs.Faults.{fault_of_obj, fault_of_pages}
use Rattle.geode_tool.specs.Inputs.{inputs_of, streams}
use Rattle.geode_tool.specs.Headline.{Holds}
use Rattle.geode_tool.specs.Internal.Unwritten.{StopsUnwritten}
use Rattle.geode_tool.specs.Commands.{verdict_of}
use Rattle.geode_tool.specs.Draw.{mesh_answer}
use Rattle.geode_tool.specs.FaultTable.{IsOutside}
use Rattle.geode_tool.specs.Verdicts.{Answers}
use Rattle.geode_tool.proofs.DrawAnswers.{memory_refused, mesh_answer-from, obj_refused, write-reads}
use Rattle.geode_tool.proofs.Promise.{accepted-answers, promise-refused, promise-unwritten, IsMade}

-- ---- the faults of reading are those of `draw`, whatever picture is requested

no_direction : Direction
no_direction = record { x = pos 0; y = pos 0; z = pos 0 }

any_request : DrawRequest
any_request = record {
  size = record { width = 1; height = 1 };
  camera = record {
    focal = 1;
    near = 1;
    tolerance = 0;
    eye = record { x = pos 0; y = pos 0; z = pos 0 };
    right = no_direction;
    down = no_direction;
    forward = no_direction;
  };
}

as_build : (left new_left : Option (List ℕ)) (faults new_faults : ℕ) (fault : Fault) →
    StopsUnwritten (Draw any_request) (inputs_of left) (inputs_of new_left) faults new_faults fault →
    StopsUnwritten Build (inputs_of left) (inputs_of new_left) faults new_faults fault
as_build left new_left faults new_faults fault stops = record {
  answered = stops.answered;
  may_return = stops.may_return;
  cause = stops.cause;
  reads = stops.reads;
  no_write = stops.no_write;
}

all_as_build : {T : Type 0} (r : Result T Fault) (left new_left : Option (List ℕ)) (faults new_faults : ℕ) →
    IfErr r (StopsUnwritten (Draw any_request) (inputs_of left) (inputs_of new_left) faults new_faults) →
    IfErr r (StopsUnwritten Build (inputs_of left) (inputs_of new_left) faults new_faults)
all_as_build (Ok found) left new_left faults new_faults stops = tt
all_as_build (Err fault) left new_left faults new_faults stops = as_build left new_left faults new_faults fault stops

-- a text that gave no mesh
pub mesh_refused : {T : Type 0} (r : Result T Fault) (left new_left : Option (List ℕ)) (faults new_faults : ℕ)
    (why : ObjFault) →
    IsErr r × IsErrAnd r (λ e. e ≡ fault_of_obj why) → Refused STEPS_PER_UNIT left faults new_faults why →
    ReadsUpTo STEPS_PER_UNIT left new_left why →
    IfErr r (StopsUnwritten Build (inputs_of left) (inputs_of new_left) faults new_faults)
mesh_refused r left new_left faults new_faults why becomes refused reads =
    all_as_build r left new_left faults new_faults
    (obj_refused r any_request left new_left faults new_faults why becomes refused reads)

-- no memory for the DAG
pub dag_refused : {T : Type 0} (r : Result T Fault) (left new_left : Option (List ℕ)) (faults new_faults : ℕ) →
    IsErr r × IsErrAnd r (λ e. e ≡ Memory) →
    IfErr r (StopsUnwritten Build (inputs_of left) (inputs_of new_left) faults new_faults)
dag_refused r left new_left faults new_faults becomes =
    all_as_build r left new_left faults new_faults
    (memory_refused r any_request left new_left faults new_faults becomes)

-- ---- the file

pub file_made : (left new_left : Option (List ℕ)) (faults new_faults : ℕ) (laid : Dag) (counts : Counts) →
    IsBuiltFrom left laid →
    counts ≡ counts_of laid.heads → ReadToEnd left new_left → new_faults ≡ faults →
    IsMade Build left new_left faults new_faults (Built counts) (file_bytes laid)
file_made left new_left faults new_faults laid counts built counted ended no_fault = record {
  does = record { laid = laid; built = built; told = ap Built counted; file = refl };
  accepted = accepted_built left counts built.tris built.listed;
  input_read = ended;
  reads = record { reading = λ why e. absurd (write-reads why e); writing = λ e. ended };
  may_fail = inl refl;
  no_fault = no_fault;
}
  where
    accepted_built : (left : Option (List ℕ)) (counts : Counts) (tris : List Tri) → Listed STEPS_PER_UNIT left tris →
        Answers IsOutside (verdict_of Build (inputs_of left)) (Ok (Built counts))
    accepted_built None counts tris listed = tt
    accepted_built (Some text) counts tris listed =
        accepted-answers (mesh_answer text) tris (Built counts) (mesh_answer-from text (Ok tris) listed)

-- ---- a file that was not written whole

pub file_refused : {K : Type 0} (written : K → Option (List ℕ)) (flushed : K → Bool) (count : K → ℕ)
    (left new_left : Option (List ℕ))
    (faults new_faults : ℕ) (old new : K) (r : Result Done Fault) (why : PageWrite) (counts : Counts) (text : List ℕ) →
    IsErr r × IsErrAnd r (λ e. e ≡ fault_of_pages why) →
    IsMade Build left new_left faults new_faults (Built counts) text →
    (why ≡ writes.Write → Rose (count old) (count new)) →
    (why ≡ writes.Write → AppendsPrefix (written old) (written new) text) →
    (why ≡ writes.Memory → new ≡ old) → faults ≤ new_faults →
    Holds Build (streams left faults (written old) (flushed old) (count old) old)
    (streams new_left new_faults (written new) (flushed new) (count new) new) r
file_refused written flushed count left new_left faults new_faults old new r writes.Memory counts text becomes made rose
    prefix same le =
    subst (λ k. Holds Build (streams left faults (written old) (flushed old) (count old) old)
    (streams new_left new_faults (written k) (flushed k) (count k) k) r) (sym (same refl))
    (promise-refused Build left new_left faults new_faults (written old) (flushed old) (count old) old r Memory refl
    becomes
    (dag_refused {T = Done} (Err Memory) left new_left faults new_faults (refl, refl)) le)
file_refused written flushed count left new_left faults new_faults old new r writes.Write counts text becomes made rose
    prefix same le =
    let part = prefix refl in
    promise-unwritten Build left new_left faults new_faults (written old) (written new) (flushed old) (flushed new)
    (count old) (count new)
    old new r WriteFault (Built counts) text becomes refl made (rose refl) (part.count, part.within, part.appended)
