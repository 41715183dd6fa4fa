-- What the reading of a source came to.
use Rattle.std.specs.Prelude.{◌≡◌, ◌≤◌, ◌⊎◌, ℕ, ◌+◌, List, ◌++◌, length, take, drop, Option, Some, None, option_map}
use Rattle.std.specs.Prelude.{Result, Ok, Err}
use Rattle.geom_core.specs.declared.limits.TheConstants.{MAX_OBJ_BYTES, READ_BYTES}
use Rattle.geom_core.specs.declared.triangles.Tri.{Tri}
use Rattle.span_io.specs.Faults.{Rose}
use Rattle.span_io.specs.Reads.{Consumed, ReadToEnd}
use Rattle.obj_source.specs.declared.faults.ObjFault.{ObjFault}
use Rattle.obj_source.specs.declared.faults.ObjFault.TheVariants.{Line, TooMany, TooLong, Empty, Read, Memory}
use Rattle.obj_source.specs.Mesh.{MeshSoFar, nothing, read_lines, ended_lines, mesh}

-- the answer is that of the text that was left, and of some text where that isn't told
abbrev pub Answers : ℕ → Option (List ℕ) → Result (List Tri) ObjFault → Type 0
Answers scale None answer = (text : List ℕ) × (mesh scale text ≡ answer)
Answers scale (Some text) answer = mesh scale text ≡ answer

-- the triangles of the text
abbrev pub Listed : ℕ → Option (List ℕ) → List Tri → Type 0
Listed scale left tris = Answers scale left (Ok tris)

-- what each refusal says of the bytes that were left, and a failed read of the count of faults
abbrev pub Refused : ℕ → Option (List ℕ) → ℕ → ℕ → ObjFault → Type 0
Refused scale left faults new_faults (Line line why) = Answers scale left (Err (Line line why))
Refused scale left faults new_faults TooMany = Answers scale left (Err TooMany)
Refused scale left faults new_faults TooLong = Answers scale left (Err TooLong)
Refused scale left faults new_faults Empty = Answers scale left (Err Empty)
Refused scale left faults new_faults Read = Rose faults new_faults
Refused scale left faults new_faults Memory = Unit {0}

-- no line that ended in the text has a fault
abbrev pub HasNoFault : ℕ → List ℕ → Type 0
HasNoFault scale text =
    (mesh_so_far : MeshSoFar) × (read_lines scale nothing 1 (ended_lines text) ≡ Ok mesh_so_far)

-- what was read has no faulty line among those that ended in it
abbrev pub ReadsNoFault : ℕ → Option (List ℕ) → Option (List ℕ) → Type 0
ReadsNoFault scale left new_left = (text : List ℕ) × Consumed left new_left text × HasNoFault scale text

-- the first fault among the lines that ended in the text, of which only the first MAX_OBJ_BYTES are looked at
abbrev pub HasFault : ℕ → List ℕ → ObjFault → Type 0
HasFault scale text fault = read_lines scale nothing 1 (ended_lines (take MAX_OBJ_BYTES text)) ≡ Err fault

-- What was read ends with the piece, of at most one read, in which the first faulty line ends. A faulty last line
-- without an LF ends where the source does.
pub record ReadsToFault (scale : ℕ) (left new_left : Option (List ℕ)) (fault : ObjFault) : Type 0 where
  pub before : List ℕ
  pub piece : List ℕ
  pub consumed : Consumed left new_left (before ++ piece)
  pub one_read : length piece ≤ READ_BYTES
  pub no_fault_before : HasNoFault scale before
  pub fault_after : HasFault scale (before ++ piece) fault ⊎ ReadToEnd left new_left

-- How far the source was read before a refusal: after a line with a fault nothing is read, a read fails only before
-- one, a text is read to the first byte too many before it is too long, and to its end before it is empty.
abbrev pub ReadsUpTo : ℕ → Option (List ℕ) → Option (List ℕ) → ObjFault → Type 0
ReadsUpTo scale left new_left (Line line why) = ReadsToFault scale left new_left (Line line why)
ReadsUpTo scale left new_left TooMany = ReadsToFault scale left new_left TooMany
ReadsUpTo scale left new_left TooLong = new_left ≡ option_map (drop (MAX_OBJ_BYTES + 1)) left
ReadsUpTo scale left new_left Empty = ReadToEnd left new_left
ReadsUpTo scale left new_left Read = ReadsNoFault scale left new_left
ReadsUpTo scale left new_left Memory = Unit {0}
