-- The script that a text spells, or the first fault of the text.
use Rattle.std.specs.Prelude.{ℕ, ◌+◌, ◌&&◌, ℤ, pos, negsuc, nat_le, Bool, if◌then◌else◌, List, [], ◌∷◌, ◌++◌}
use Rattle.std.specs.Prelude.{length, Option, None, Some, Result, Ok, Err, codes}
use Rattle.std.specs.Str.{is_utf8}
use Rattle.geom_core.specs.Limits.{is_side}
use Rattle.geom_core.specs.declared.screens.Size.{Size}
use Rattle.serde_json.specs.Data.{Data}
use Rattle.serde_json.specs.Find.{as_bool, get}
use Rattle.serde_json.specs.Read.{read as read_text}
use Rattle.view_camera.specs.CameraNumbers.{first_bad, view_of_numbers}
use Rattle.camera_script.specs.Members.{◌>>=◌, has_members, items_in, numbers_in}
use Rattle.camera_script.specs.declared.faults.ScriptFault.{ScriptFault}
use Rattle.camera_script.specs.declared.faults.ScriptFault.TheVariants.{Bad}
use Rattle.camera_script.specs.declared.faults.ScriptWhy.{ScriptWhy}
use Rattle.camera_script.specs.declared.faults.ScriptWhy.TheVariants.{Text, Shape, Size as BadSize, Count, Member}
use Rattle.camera_script.specs.declared.faults.ScriptWhy.TheVariants.{Camera, Prints}
use Rattle.camera_script.specs.declared.frames.FrameMembers.{FrameMembers}
use Rattle.camera_script.specs.declared.scripts.Script.{Script}
use Rattle.camera_script.specs.declared.scripts.Shot.{Shot}
use Rattle.camera_script.specs.declared.scripts.TheConstants.{MAX_PRINTS, MAX_SHOTS}

-- one side of a picture
abbrev pub side_from : ℤ → Option ℕ
side_from (pos n) = if is_side n then Some n else None
side_from (negsuc n) = None

-- a picture's size: its width and its height
abbrev pub size_from : List ℤ → Option Size
size_from (first ∷ second ∷ []) = do
  width ← side_from first
  height ← side_from second
  Some (record { width = width; height = height })
size_from _ = None

abbrev pub size_in : Data → Option Size
size_in value = numbers_in 2 value >>= size_from

-- a frame's members: exactly `camera`, fifteen whole numbers, `settle` and `print`, two truth values
unfoldable pub frame_in : Data → Option FrameMembers
frame_in value = if has_members 3 value then (do
  camera ← get (codes "camera") value
  numbers ← numbers_in 15 camera
  settles ← get (codes "settle") value
  settle ← as_bool settles
  prints ← get (codes "print") value
  print ← as_bool prints
  Some (record { numbers = numbers; settle = settle; print = print }))
    else None

-- the shot of a frame's members: its camera's numbers are in their ranges
abbrev pub shot_of_camera : FrameMembers → Option ℕ → Result Shot ScriptWhy
shot_of_camera frame None =
    Ok (record { camera = view_of_numbers frame.numbers; settle = frame.settle; print = frame.print })
shot_of_camera frame (Some field) = Err (Camera field)

abbrev pub shot_of_members : Option FrameMembers → Result Shot ScriptWhy
shot_of_members None = Err Member
shot_of_members (Some frame) = shot_of_camera frame (first_bad frame.numbers)

-- the shot of one frame
unfoldable pub shot_in : Data → Result Shot ScriptWhy
shot_in value = shot_of_members (frame_in value)

-- how many frames are printed, with this shot
abbrev pub prints_after : ℕ → Shot → ℕ
prints_after prints shot = if shot.print then prints + 1 else prints

-- a shot that is not printed after MAX_PRINTS printed frames
abbrev pub within_prints : ℕ → ℕ → Result Shot ScriptWhy → Result Shot ScriptFault
within_prints frame prints (Err why) = Err (Bad (Some frame) why)
within_prints frame prints (Ok shot) =
    if shot.print && nat_le MAX_PRINTS prints then Err (Bad (Some frame) Prints) else Ok shot

-- the shot of the frame with this number, after so many printed frames
unfoldable pub shot_at : ℕ → ℕ → Data → Result Shot ScriptFault
shot_at frame prints value = within_prints frame prints (shot_in value)

-- what comes after a shot; a fault is the last
abbrev pub after_shot : Result Shot ScriptFault → (Shot → Result (List Shot) ScriptFault) →
    Result (List Shot) ScriptFault
after_shot (Err fault) next = Err fault
after_shot (Ok shot) next = next shot

-- the shots of some frames after the shots so far; `frame` is the number of the first of them, `prints` counts
-- the frames that are printed before it
abbrev pub shots_from : List Shot → ℕ → ℕ → List Data → Result (List Shot) ScriptFault
shots_from so_far frame prints [] = Ok so_far
shots_from so_far frame prints (value ∷ rest) = after_shot (shot_at frame prints value)
    (λ shot. shots_from (so_far ++ shot ∷ []) (frame + 1) (prints_after prints shot) rest)

-- the value of `size` and the items of `frames`, if the value is an object with exactly these two members
unfoldable pub sections_in : Data → Option (Data × List Data)
sections_in value = if has_members 2 value then (do
  size ← get (codes "size") value
  frames ← get (codes "frames") value
  items ← items_in frames
  Some (size, items))
    else None

-- a number of shots
abbrev pub is_shot_count : ℕ → Bool
is_shot_count count = nat_le 1 count && nat_le count MAX_SHOTS

abbrev pub script_of_shots : Size → Result (List Shot) ScriptFault → Result Script ScriptFault
script_of_shots size (Err fault) = Err fault
script_of_shots size (Ok shots) = Ok (record { size = size; shots = shots })

abbrev pub script_of_size : Option Size → List Data → Result Script ScriptFault
script_of_size None frames = Err (Bad None BadSize)
script_of_size (Some size) frames =
    if is_shot_count (length frames) then script_of_shots size (shots_from [] 0 0 frames) else Err (Bad None Count)

abbrev pub script_of_sections : Option (Data × List Data) → Result Script ScriptFault
script_of_sections None = Err (Bad None Shape)
script_of_sections (Some found) = script_of_size (size_in found.0) found.1

-- the script of a JSON value
unfoldable pub script_in : Data → Result Script ScriptFault
script_in value = script_of_sections (sections_in value)

-- the JSON value of a text, if it has one
unfoldable pub value_of : List ℕ → Option Data
value_of text = if is_utf8 text then read_text text else None

abbrev pub script_of_value : Option Data → Result Script ScriptFault
script_of_value None = Err (Bad None Text)
script_of_value (Some value) = script_in value

-- the script of a text
unfoldable pub script_of : List ℕ → Result Script ScriptFault
script_of text = script_of_value (value_of text)
