-- `draw`: its verdict on the input, what a success is, and how far it reads before a refusal.
use Rattle.std.specs.Prelude.{◌≡◌, ℕ, List, Option, Result, Ok, Err}
use Rattle.geom_core.specs.declared.limits.TheConstants.{STEPS_PER_UNIT}
use Rattle.geom_core.specs.declared.triangles.Tri.{Tri}
use Rattle.geom_core.specs.Picture.{items_of, picture}
use Rattle.obj_source.specs.declared.faults.ObjFault.{ObjFault}
use Rattle.obj_source.specs.Mesh.{mesh}
use Rattle.obj_source.specs.Readings.{Listed, ReadsUpTo}
use Rattle.span_io.specs.Reads.{ReadToEnd}
use Rattle.geode_tool.specs.declared.commands.DrawRequest.{DrawRequest}
use Rattle.geode_tool.specs.declared.faults.Done.{Done}
use Rattle.geode_tool.specs.declared.faults.Done.TheVariants.{Drawn}
use Rattle.geode_tool.specs.declared.faults.Fault.{Fault}
use Rattle.geode_tool.specs.declared.faults.Fault.TheVariants.{WriteFault}
use Rattle.geode_tool.specs.Faults.{fault_of_obj}
use Rattle.geode_tool.specs.Inputs.{Inputs}
use Rattle.geode_tool.specs.Verdicts.{Verdict, verdict_from, verdict_on}
use Rattle.report_text.specs.PictureText.{picture_text_of}

-- a fault of the mesh is the fault of the command
abbrev pub tris_or_fault : Result (List Tri) ObjFault → Result (List Tri) Fault
tris_or_fault (Ok tris) = Ok tris
tris_or_fault (Err fault) = Err (fault_of_obj fault)

-- the triangles of a text, or its first fault
unfoldable pub mesh_answer : List ℕ → Result (List Tri) Fault
mesh_answer text = tris_or_fault (mesh STEPS_PER_UNIT text)

-- a text with a mesh is accepted
abbrev pub draw_verdict : Inputs → Verdict
draw_verdict inputs = verdict_on (λ text. verdict_from (mesh_answer text)) inputs.text

-- the text of the requested picture of triangles, each drawn under its number in the list
unfoldable pub requested_text : DrawRequest → List Tri → List ℕ
requested_text request tris = picture_text_of (picture request.camera request.size (items_of tris)) request.size.width

-- The text is that of the requested picture of the triangles in the input's bytes. If the bytes are not known,
-- it is that of the triangles in some text.
pub record IsPictureText (request : DrawRequest) (input : Option (List ℕ)) (text : List ℕ) : Type 0 where
  pub tris : List Tri
  pub listed : Listed STEPS_PER_UNIT input tris
  pub shown : text ≡ requested_text request tris

-- what a success is, and the text that it writes
abbrev pub DoesDraw : DrawRequest → Inputs → Done → List ℕ → Type 0
DoesDraw request inputs done text = (done ≡ Drawn) × IsPictureText request inputs.text text

-- How far the input was read before a refusal: as far as the reading of the mesh says of its fault, and to its end
-- before anything is written.
pub record DrawReadsUpTo (left new_left : Option (List ℕ)) (fault : Fault) : Type 0 where
  pub reading : (why : ObjFault) → fault ≡ fault_of_obj why → ReadsUpTo STEPS_PER_UNIT left new_left why
  pub writing : fault ≡ WriteFault → ReadToEnd left new_left
