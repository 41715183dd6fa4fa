-- What the bytes that were read and taken in say of the whole text, at each end of the reading.
use Rattle.std.proofs.Common.{◌≡◌, ℕ, ◌+◌, ◌≤◌, List, [], ◌++◌, length, take, drop, Option, Some, None, option_map}
use Rattle.std.proofs.Common.{Result, Err, refl, ap, sym, inl, inr, ◌∙◌, subst, append_assoc, arith}
use Rattle.std.proofs.lemmas.List.{append-nil, take-append-drop, drop_at, length-take}
use Rattle.std.specs.Option.{IfSome}
use Rattle.geom_core.specs.declared.limits.TheConstants.{MAX_OBJ_BYTES}
use Rattle.geom_core.specs.declared.triangles.Tri.{Tri}
use Rattle.span_io.specs.Consumers.{FedToEnd, FedToFailure, FedToLimit, FedToStop}
use Rattle.span_io.specs.Reads.{Consumed}
use Rattle.span_io.proofs.Gathered.{consumed-read_to_end}
use Rattle.obj_source.specs.declared.faults.ObjFault.{ObjFault}
use Rattle.obj_source.specs.declared.faults.ObjFault.TheVariants.{Line, TooMany, TooLong, Empty, Read, Memory}
use Rattle.obj_source.specs.declared.obj_scanner.ObjScanner.{ObjScanner}
use Rattle.obj_source.specs.Mesh.{nothing, read_lines, ended_lines, mesh}
use Rattle.obj_source.specs.Readings.{Answers, Refused, HasNoFault, HasFault, ReadsToFault, ReadsUpTo}
use Rattle.obj_source.specs.Scanner.{HasTaken, IsFirstFault, OnLineFault, RefusedAtEnd}
use Rattle.obj_source.proofs.TextLines.{LinesRead-no_fault, mesh-fault, mesh-too_long}

-- the bytes were taken in, on a grid of this scale
abbrev pub Takes : ℕ → ObjScanner → List ℕ → Type 0
Takes scale scanner bytes = HasTaken scanner scale bytes

-- they end with a line that has this fault, the first one
abbrev pub StopsAt : ℕ → List ℕ → ObjFault → Type 0
StopsAt scale bytes fault = OnLineFault (IsFirstFault scale bytes) fault

-- what was taken from the front answers for the whole
answers_from : (scale : ℕ) (left after : Option (List ℕ)) (text : List ℕ) (answer : Result (List Tri) ObjFault) →
    Consumed left after text → ((rest : List ℕ) → mesh scale (text ++ rest) ≡ answer) → Answers scale left answer
answers_from scale left None text answer taken says = rw taken (text, ap (mesh scale) (sym (append-nil text)) ∙ says [])
answers_from scale left (Some rest) text answer taken says = rw taken (says rest)

refused_first : (scale : ℕ) (left after : Option (List ℕ)) (text : List ℕ) (fault : ObjFault) →
    Consumed left after text → IsFirstFault scale (take MAX_OBJ_BYTES text) fault → Answers scale left (Err fault)
refused_first scale left after text fault taken first =
    let parted : text ≡ take MAX_OBJ_BYTES text ++ drop MAX_OBJ_BYTES text =
    sym (take-append-drop MAX_OBJ_BYTES text) in
    answers_from scale left after text (Err fault) taken
    (λ rest. ap (λ l. mesh scale (l ++ rest)) parted ∙
    ap (mesh scale) (append_assoc (take MAX_OBJ_BYTES text) (drop MAX_OBJ_BYTES text) rest) ∙
    mesh-fault scale (take MAX_OBJ_BYTES text) (drop MAX_OBJ_BYTES text ++ rest) fault
    (omega (arith, length-take MAX_OBJ_BYTES text)) first)

refused_line : (scale : ℕ) (left after : Option (List ℕ)) (faults new_faults : ℕ) (text : List ℕ) (fault : ObjFault) →
    Consumed left after text → StopsAt scale (take MAX_OBJ_BYTES text) fault →
    Refused scale left faults new_faults fault
refused_line scale left after faults new_faults text (Line line why) taken first =
    refused_first scale left after text (Line line why) taken first
refused_line scale left after faults new_faults text TooMany taken first =
    refused_first scale left after text TooMany taken first
refused_line scale left after faults new_faults text TooLong taken first = absurd first
refused_line scale left after faults new_faults text Empty taken first = absurd first
refused_line scale left after faults new_faults text Read taken first = absurd first
refused_line scale left after faults new_faults text Memory taken first = tt

-- a faulty line
pub refused_at_stop : (scale : ℕ) (left after : Option (List ℕ)) (faults new_faults : ℕ) (fault : ObjFault) →
    FedToStop (Takes scale) (StopsAt scale) MAX_OBJ_BYTES left after faults new_faults fault →
    Refused scale left faults new_faults fault
refused_at_stop scale left after faults new_faults fault stop =
    refused_line scale left after faults new_faults (stop.before ++ stop.piece) fault stop.consumed stop.stopped

-- more bytes than a text has that is read
pub refused_long : (scale : ℕ) (left after : Option (List ℕ)) (faults new_faults : ℕ) (scanner : ObjScanner) →
    FedToLimit (Takes scale) MAX_OBJ_BYTES left after faults new_faults scanner →
    Refused scale left faults new_faults TooLong
refused_long scale left after faults new_faults scanner long =
    let t = long.fed in
    answers_from scale left after long.bytes (Err TooLong) long.consumed
    (λ rest. mesh-too_long scale long.bytes rest t.mesh_so_far t.line t.begun (omega (arith, long.too_long)) t.lines)

-- the end of the source
answers_at_end : (scale : ℕ) (left after : Option (List ℕ)) (text : List ℕ) (answer : Result (List Tri) ObjFault) →
    Consumed left after text → IfSome after (λ rest. rest ≡ []) → mesh scale text ≡ answer → Answers scale left answer
answers_at_end scale left None text answer taken none_left says = rw taken (text, says)
answers_at_end scale left (Some rest) text answer taken none_left says =
    rw taken (ap (λ l. mesh scale (text ++ l)) none_left ∙ ap (mesh scale) (append-nil text) ∙ says)

refused_end : (scale : ℕ) (left after : Option (List ℕ)) (faults new_faults : ℕ) (text : List ℕ) (fault : ObjFault) →
    Consumed left after text → IfSome after (λ rest. rest ≡ []) → RefusedAtEnd scale text fault →
    Refused scale left faults new_faults fault
refused_end scale left after faults new_faults text (Line line why) taken none_left says =
    answers_at_end scale left after text _ taken none_left says
refused_end scale left after faults new_faults text TooMany taken none_left says =
    answers_at_end scale left after text _ taken none_left says
refused_end scale left after faults new_faults text TooLong taken none_left says = absurd says
refused_end scale left after faults new_faults text Empty taken none_left says =
    answers_at_end scale left after text _ taken none_left says
refused_end scale left after faults new_faults text Read taken none_left says = absurd says
refused_end scale left after faults new_faults text Memory taken none_left says = tt

pub refused_at_end : (scale : ℕ) (left after : Option (List ℕ)) (faults new_faults : ℕ) (scanner : ObjScanner)
    (fault : ObjFault) → FedToEnd (Takes scale) MAX_OBJ_BYTES left after faults new_faults scanner →
    ((scale : ℕ) (text : List ℕ) → HasTaken scanner scale text → length text ≤ MAX_OBJ_BYTES →
    RefusedAtEnd scale text fault) → Refused scale left faults new_faults fault
refused_at_end scale left after faults new_faults scanner fault end says =
    refused_end scale left after faults new_faults end.all.bytes fault end.all.consumed end.none_left
    (says scale end.all.bytes end.all.fed end.all.limited)

-- what was taken in has no faulty line that ended
taken-no_fault : (scale : ℕ) (scanner : ObjScanner) (text : List ℕ) → HasTaken scanner scale text →
    HasNoFault scale text
taken-no_fault scale scanner text t =
    (t.mesh_so_far, LinesRead-no_fault scale text t.mesh_so_far t.line t.begun t.lines)

-- how far the source was read, for each end of the reading

fault_among : (scale : ℕ) (text : List ℕ) (fault : ObjFault) → IsFirstFault scale (take MAX_OBJ_BYTES text) fault →
    HasFault scale text fault
fault_among scale text fault first =
    ap (λ l. read_lines scale nothing 1 (ended_lines l)) (sym (append-nil (take MAX_OBJ_BYTES text))) ∙ first.ended []

reads_to_fault : (scale : ℕ) (left after : Option (List ℕ)) (faults new_faults : ℕ) (given fault : ObjFault) →
    (stop : FedToStop (Takes scale) (StopsAt scale) MAX_OBJ_BYTES left after faults new_faults given) →
    IsFirstFault scale (take MAX_OBJ_BYTES (stop.before ++ stop.piece)) fault →
    ReadsToFault scale left after fault
reads_to_fault scale left after faults new_faults given fault stop first = record {
  before = stop.before;
  piece = stop.piece;
  consumed = stop.consumed;
  one_read = stop.one_read;
  no_fault_before = taken-no_fault scale stop.state stop.before stop.went_on;
  fault_after = inl (fault_among scale (stop.before ++ stop.piece) fault first);
}

pub stop-reads_up_to : (scale : ℕ) (left after : Option (List ℕ)) (faults new_faults : ℕ) (fault : ObjFault) →
    FedToStop (Takes scale) (StopsAt scale) MAX_OBJ_BYTES left after faults new_faults fault →
    ReadsUpTo scale left after fault
stop-reads_up_to scale left after faults new_faults (Line line why) stop =
    reads_to_fault scale left after faults new_faults (Line line why) (Line line why) stop stop.stopped
stop-reads_up_to scale left after faults new_faults TooMany stop =
    reads_to_fault scale left after faults new_faults TooMany TooMany stop stop.stopped
stop-reads_up_to scale left after faults new_faults TooLong stop = absurd stop.stopped
stop-reads_up_to scale left after faults new_faults Empty stop = absurd stop.stopped
stop-reads_up_to scale left after faults new_faults Read stop = absurd stop.stopped
stop-reads_up_to scale left after faults new_faults Memory stop = tt

pub failure-reads_up_to : (scale : ℕ) (left after : Option (List ℕ)) (faults new_faults : ℕ) (scanner : ObjScanner) →
    FedToFailure (Takes scale) MAX_OBJ_BYTES left after faults new_faults scanner →
    ReadsUpTo scale left after Read
failure-reads_up_to scale left after faults new_faults scanner failure =
    (failure.all.bytes, failure.all.consumed, taken-no_fault scale scanner failure.all.bytes failure.all.fed)

dropped : (left after : Option (List ℕ)) (text : List ℕ) → Consumed left after text → length text ≡ MAX_OBJ_BYTES + 1 →
    after ≡ option_map (drop (MAX_OBJ_BYTES + 1)) left
dropped left None text taken long = rw taken refl
dropped left (Some rest) text taken long =
    rw taken (ap (λ (l : List ℕ). Some l) (sym (drop_at text rest (MAX_OBJ_BYTES + 1) long)))

pub limit-reads_up_to : (scale : ℕ) (left after : Option (List ℕ)) (faults new_faults : ℕ) (scanner : ObjScanner) →
    FedToLimit (Takes scale) MAX_OBJ_BYTES left after faults new_faults scanner →
    ReadsUpTo scale left after TooLong
limit-reads_up_to scale left after faults new_faults scanner long =
    dropped left after long.bytes long.consumed long.too_long

no_piece : (left after : Option (List ℕ)) (text : List ℕ) → Consumed left after text → Consumed left after (text ++ [])
no_piece left after text taken = subst (Consumed left after) (sym (append-nil text)) taken

-- a faulty last line, which no LF ends: all was read
reads_to_end : (scale : ℕ) (left after : Option (List ℕ)) (faults new_faults : ℕ) (scanner : ObjScanner)
    (fault : ObjFault) →
    FedToEnd (Takes scale) MAX_OBJ_BYTES left after faults new_faults scanner →
    ReadsToFault scale left after fault
reads_to_end scale left after faults new_faults scanner fault end = record {
  before = end.all.bytes;
  piece = [];
  consumed = no_piece left after end.all.bytes end.all.consumed;
  one_read = omega arith;
  no_fault_before = taken-no_fault scale scanner end.all.bytes end.all.fed;
  fault_after = inr (consumed-read_to_end left after end.all.bytes end.all.consumed end.none_left);
}

pub end-reads_up_to : (scale : ℕ) (left after : Option (List ℕ)) (faults new_faults : ℕ) (scanner : ObjScanner)
    (fault : ObjFault) →
    FedToEnd (Takes scale) MAX_OBJ_BYTES left after faults new_faults scanner →
    ((scale : ℕ) (text : List ℕ) → HasTaken scanner scale text → length text ≤ MAX_OBJ_BYTES →
    RefusedAtEnd scale text fault) →
    ReadsUpTo scale left after fault
end-reads_up_to scale left after faults new_faults scanner (Line line why) end says =
    reads_to_end scale left after faults new_faults scanner (Line line why) end
end-reads_up_to scale left after faults new_faults scanner TooMany end says =
    reads_to_end scale left after faults new_faults scanner TooMany end
end-reads_up_to scale left after faults new_faults scanner TooLong end says =
    absurd (says scale end.all.bytes end.all.fed end.all.limited)
end-reads_up_to scale left after faults new_faults scanner Empty end says =
    consumed-read_to_end left after end.all.bytes end.all.consumed end.none_left
end-reads_up_to scale left after faults new_faults scanner Read end says =
    absurd (says scale end.all.bytes end.all.fed end.all.limited)
end-reads_up_to scale left after faults new_faults scanner Memory end says = tt
