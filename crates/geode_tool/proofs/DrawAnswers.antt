-- What a picture that was made, or a fault before it, says of the promise of `draw`.
use Rattle.std.proofs.Common.{◌≡◌, ◌≢◌, ℕ, List, Option, Some, None, Result, Ok, Err, inl, inr, ap, sym, subst, refl}
use Rattle.std.specs.Prelude.{IsErr, IfErr}
use Rattle.std.specs.Result.{IsErrAnd}
use Rattle.geom_core.specs.declared.triangles.Tri.{Tri}
use Rattle.geom_core.specs.declared.limits.TheConstants.{STEPS_PER_UNIT}
use Rattle.span_io.specs.Reads.{ReadToEnd}
use Rattle.obj_source.specs.declared.faults.ObjFault.{ObjFault}
use Rattle.obj_source.specs.declared.faults.ObjFault.TheVariants as obj
use Rattle.obj_source.specs.Mesh.{mesh}
use Rattle.obj_source.specs.Readings.{Answers, ReadsUpTo, Refused}
use Rattle.geode_tool.specs.declared.commands.Command.TheVariants.{Draw}
use Rattle.geode_tool.specs.declared.commands.DrawRequest.{DrawRequest}
use Rattle.geode_tool.specs.declared.faults.Done.TheVariants.{Drawn}
use Rattle.geode_tool.specs.declared.faults.Fault.{Fault}
use Rattle.geode_tool.specs.declared.faults.Fault.TheVariants.{Memory, ReadFault, WriteFault}
use Rattle.geode_tool.specs.Commands.{verdict_of}
use Rattle.geode_tool.specs.Draw.{mesh_answer, tris_or_fault, DrawReadsUpTo, IsPictureText}
use Rattle.geode_tool.specs.FaultTable.{IsOutside}
use Rattle.geode_tool.specs.Faults.{fault_of_obj}
use Rattle.geode_tool.specs.Inputs.{inputs_of}
use Rattle.geode_tool.specs.Internal.Unwritten.{StopsUnwritten}
use Rattle.geode_tool.specs.Verdicts as verdicts
use Rattle.geode_tool.proofs.Promise.{accepted-answers, outside-answers, refused-answers, IsMade}

pub mesh_answer-from : (text : List ℕ) (found : Result (List Tri) ObjFault) → mesh STEPS_PER_UNIT text ≡ found →
    mesh_answer text ≡ tris_or_fault found
unfolding mesh_answer
mesh_answer-from text found e = ap tris_or_fault e

-- a fault of the mesh determines which one it was
obj-same : (one other : ObjFault) → fault_of_obj one ≡ fault_of_obj other → one ≡ other
obj-same (obj.Line line why) (obj.Line line' why') e = cc
obj-same (obj.Line line why) obj.TooMany e = cc
obj-same (obj.Line line why) obj.TooLong e = cc
obj-same (obj.Line line why) obj.Empty e = cc
obj-same (obj.Line line why) obj.Read e = cc
obj-same (obj.Line line why) obj.Memory e = cc
obj-same obj.TooMany (obj.Line line' why') e = cc
obj-same obj.TooMany obj.TooMany e = refl
obj-same obj.TooMany obj.TooLong e = cc
obj-same obj.TooMany obj.Empty e = cc
obj-same obj.TooMany obj.Read e = cc
obj-same obj.TooMany obj.Memory e = cc
obj-same obj.TooLong (obj.Line line' why') e = cc
obj-same obj.TooLong obj.TooMany e = cc
obj-same obj.TooLong obj.TooLong e = refl
obj-same obj.TooLong obj.Empty e = cc
obj-same obj.TooLong obj.Read e = cc
obj-same obj.TooLong obj.Memory e = cc
obj-same obj.Empty (obj.Line line' why') e = cc
obj-same obj.Empty obj.TooMany e = cc
obj-same obj.Empty obj.TooLong e = cc
obj-same obj.Empty obj.Empty e = refl
obj-same obj.Empty obj.Read e = cc
obj-same obj.Empty obj.Memory e = cc
obj-same obj.Read (obj.Line line' why') e = cc
obj-same obj.Read obj.TooMany e = cc
obj-same obj.Read obj.TooLong e = cc
obj-same obj.Read obj.Empty e = cc
obj-same obj.Read obj.Read e = refl
obj-same obj.Read obj.Memory e = cc
obj-same obj.Memory (obj.Line line' why') e = cc
obj-same obj.Memory obj.TooMany e = cc
obj-same obj.Memory obj.TooLong e = cc
obj-same obj.Memory obj.Empty e = cc
obj-same obj.Memory obj.Read e = cc
obj-same obj.Memory obj.Memory e = refl

no_write : (why : ObjFault) → fault_of_obj why ≢ WriteFault
no_write (obj.Line line why) e = cc
no_write obj.TooMany e = cc
no_write obj.TooLong e = cc
no_write obj.Empty e = cc
no_write obj.Read e = cc
no_write obj.Memory e = cc

obj-reads : (left new_left : Option (List ℕ)) (why : ObjFault) → ReadsUpTo STEPS_PER_UNIT left new_left why →
    DrawReadsUpTo left new_left (fault_of_obj why)
obj-reads left new_left why reads = record {
  reading = λ other e. subst (λ (w : ObjFault). ReadsUpTo STEPS_PER_UNIT left new_left w) (obj-same why other e) reads;
  writing = λ e. absurd (no_write why e);
}

-- a fault of the text is its verdict
known : (request : DrawRequest) (left : Option (List ℕ)) (why : ObjFault) → Answers STEPS_PER_UNIT left (Err why) →
    verdicts.Answers IsOutside (verdict_of (Draw request) (inputs_of left)) (Err (fault_of_obj why))
known request None why answers = tt
known request (Some text) why answers =
    refused-answers (mesh_answer text) (fault_of_obj why) (mesh_answer-from text (Err why) answers)

pub obj-stops : (request : DrawRequest) (left new_left : Option (List ℕ)) (faults new_faults : ℕ) (why : ObjFault) →
    Refused STEPS_PER_UNIT left faults new_faults why → ReadsUpTo STEPS_PER_UNIT left new_left why →
    StopsUnwritten (Draw request) (inputs_of left) (inputs_of new_left) faults new_faults (fault_of_obj why)
obj-stops request left new_left faults new_faults (obj.Line line why) refused reads = record {
  answered = known request left (obj.Line line why) refused;
  may_return = inr (inr (inl refl));
  cause = λ e. cc;
  reads = obj-reads left new_left (obj.Line line why) reads;
  no_write = λ e. cc;
}
obj-stops request left new_left faults new_faults obj.TooMany refused reads = record {
  answered = known request left obj.TooMany refused;
  may_return = inr (inr (inl refl));
  cause = λ e. cc;
  reads = obj-reads left new_left obj.TooMany reads;
  no_write = λ e. cc;
}
obj-stops request left new_left faults new_faults obj.TooLong refused reads = record {
  answered = known request left obj.TooLong refused;
  may_return = inr (inl refl);
  cause = λ e. cc;
  reads = obj-reads left new_left obj.TooLong reads;
  no_write = λ e. cc;
}
obj-stops request left new_left faults new_faults obj.Empty refused reads = record {
  answered = known request left obj.Empty refused;
  may_return = inr (inr (inl refl));
  cause = λ e. cc;
  reads = obj-reads left new_left obj.Empty reads;
  no_write = λ e. cc;
}
obj-stops request left new_left faults new_faults obj.Read refused reads = record {
  answered = outside-answers (verdict_of (Draw request) (inputs_of left)) ReadFault refl;
  may_return = inl refl;
  cause = λ e. refused;
  reads = obj-reads left new_left obj.Read reads;
  no_write = λ e. cc;
}
obj-stops request left new_left faults new_faults obj.Memory refused reads = record {
  answered = outside-answers (verdict_of (Draw request) (inputs_of left)) Memory refl;
  may_return = inl refl;
  cause = λ e. cc;
  reads = obj-reads left new_left obj.Memory reads;
  no_write = λ e. cc;
}

-- a text that gave no mesh
pub obj_refused : {T : Type 0} (r : Result T Fault) (request : DrawRequest) (left new_left : Option (List ℕ))
    (faults new_faults : ℕ) (why : ObjFault) → IsErr r × IsErrAnd r (λ e. e ≡ fault_of_obj why) →
    Refused STEPS_PER_UNIT left faults new_faults why → ReadsUpTo STEPS_PER_UNIT left new_left why →
    IfErr r (StopsUnwritten (Draw request) (inputs_of left) (inputs_of new_left) faults new_faults)
obj_refused (Ok text) request left new_left faults new_faults why becomes refused reads = absurd becomes.1
obj_refused (Err e) request left new_left faults new_faults why becomes refused reads =
    subst (λ (f : Fault). StopsUnwritten (Draw request) (inputs_of left) (inputs_of new_left) faults new_faults f)
    (sym becomes.1) (obj-stops request left new_left faults new_faults why refused reads)

memory-reads : (left new_left : Option (List ℕ)) (why : ObjFault) → Memory ≡ fault_of_obj why →
    ReadsUpTo STEPS_PER_UNIT left new_left why
memory-reads left new_left (obj.Line line why) e = cc
memory-reads left new_left obj.TooMany e = cc
memory-reads left new_left obj.TooLong e = cc
memory-reads left new_left obj.Empty e = cc
memory-reads left new_left obj.Read e = cc
memory-reads left new_left obj.Memory e = tt

-- no memory for the picture or its text
pub memory_refused : {T : Type 0} (r : Result T Fault) (request : DrawRequest) (left new_left : Option (List ℕ))
    (faults new_faults : ℕ) → IsErr r × IsErrAnd r (λ e. e ≡ Memory) →
    IfErr r (StopsUnwritten (Draw request) (inputs_of left) (inputs_of new_left) faults new_faults)
memory_refused (Ok text) request left new_left faults new_faults becomes = tt
memory_refused (Err e) request left new_left faults new_faults becomes =
    subst (λ (f : Fault). StopsUnwritten (Draw request) (inputs_of left) (inputs_of new_left) faults new_faults f)
    (sym becomes.1) (record {
      answered = outside-answers (verdict_of (Draw request) (inputs_of left)) Memory refl;
      may_return = inl refl;
      cause = λ e. cc;
      reads = record { reading = memory-reads left new_left; writing = λ e. cc };
      no_write = λ e. cc;
    })

pub write-reads : (why : ObjFault) → WriteFault ≡ fault_of_obj why → ⊥
write-reads why e = no_write why (sym e)

pub accepted : (request : DrawRequest) (left : Option (List ℕ)) (tris : List Tri) →
    Answers STEPS_PER_UNIT left (Ok tris) → verdicts.Answers IsOutside (verdict_of (Draw request) (inputs_of left))
    (Ok Drawn)
accepted request None tris listed = tt
accepted request (Some text) tris listed =
    accepted-answers (mesh_answer text) tris Drawn (mesh_answer-from text (Ok tris) listed)

-- the text of a picture
pub picture_made : (request : DrawRequest) (left new_left : Option (List ℕ)) (faults new_faults : ℕ) (text : List ℕ) →
    IsPictureText request left text → ReadToEnd left new_left → new_faults ≡ faults →
    IsMade (Draw request) left new_left faults new_faults Drawn text
picture_made request left new_left faults new_faults text picture ended no_fault = record {
  does = (refl, picture);
  accepted = accepted request left picture.tris picture.listed;
  input_read = ended;
  reads = record { reading = λ why e. absurd (write-reads why e); writing = λ e. ended };
  may_fail = inl refl;
  no_fault = no_fault;
}
