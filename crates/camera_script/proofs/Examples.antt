-- Worked examples of the definition, computed by the checker.
use Rattle.std.proofs.Common.{◌≡◌, ℕ, ℤ, pos, List, [], ◌∷◌, true, false, None, Some, Ok, Err, codes, refl}
use Rattle.std.specs.Str.{chars, is_utf8}
use Rattle.serde_json.proofs.OnLiterals.{serde_json_on_literals}
use Rattle.serde_json.specs.Data.{Data, null, boolean, number, string, array, object, unsigned}
use Rattle.serde_json.specs.Data.{Items, no_items, item, no_members, member}
use Rattle.view_camera.specs.CameraNumbers.{first_bad, view_of_numbers}
use Rattle.camera_script.specs.Script.{frame_in, script_in, script_of, sections_in, shot_at, shot_in, shots_from}
use Rattle.camera_script.specs.Script.{size_in, value_of}
use Rattle.camera_script.specs.declared.faults.ScriptFault.TheVariants.{Bad}
use Rattle.camera_script.specs.declared.faults.ScriptWhy.TheVariants.{Text, Shape, Size as BadSize, Count}
use Rattle.camera_script.specs.declared.faults.ScriptWhy.TheVariants.{Member, Camera, Prints}

-- an array of whole numbers
abbrev items_of : List ℕ → Items
items_of [] = no_items
items_of (n ∷ ns) = item (number (unsigned n)) (items_of ns)

abbrev numbers : List ℕ → Data
numbers ns = array (items_of ns)

-- a size, and values that are none
size_4_2 : size_in (numbers (4 ∷ 2 ∷ [])) ≡ Some (record { width = 4; height = 2 })
size_4_2 = refl

size_of_three : size_in (numbers (4 ∷ 4 ∷ 4 ∷ [])) ≡ None
size_of_three = refl

size_past : size_in (numbers (513 ∷ 4 ∷ [])) ≡ None
size_past = refl

size_zero : size_in (numbers (4 ∷ 0 ∷ [])) ≡ None
size_zero = refl

size_of_text : size_in (array (item (string (codes "4")) (item (number (unsigned 4)) no_items))) ≡ None
size_of_text = refl

-- a camera's fifteen numbers, from the focal length and with the last entry given
abbrev camera : ℕ → ℕ → List ℕ
camera focal last = focal ∷ 16384 ∷ 16 ∷ 12 ∷ 4 ∷ 0 ∷ 16384 ∷ 0 ∷ 0 ∷ 0 ∷ 16384 ∷ 0 ∷ 0 ∷ 0 ∷ last ∷ []

-- a frame
abbrev frame : Data → Data → Data → Data
frame numbers print settle =
    object (member (codes "camera") numbers (member (codes "print") print (member (codes "settle") settle no_members)))

abbrev shown : Data
shown = frame (numbers (camera 16 16384)) (boolean true) (boolean false)

abbrev whole : List ℤ
whole =
    pos 16 ∷ pos 16384 ∷ pos 16 ∷ pos 12 ∷ pos 4 ∷ pos 0 ∷ pos 16384 ∷ pos 0 ∷ pos 0 ∷ pos 0 ∷ pos 16384 ∷ pos 0 ∷ pos 0
    ∷ pos 0 ∷ pos 16384 ∷ []

frame_shown : shot_in shown ≡ Ok (record { camera = view_of_numbers whole; settle = false; print = true })
unfolding shot_in frame_in first_bad
frame_shown = refl

-- settle that is 1, fourteen numbers, a member more
settle_one : shot_in (frame (numbers (camera 16 16384)) (boolean true) (number (unsigned 1))) ≡ Err Member
unfolding shot_in frame_in first_bad
settle_one = refl

fourteen : shot_in (frame (numbers (16 ∷ 16384 ∷ [])) (boolean true) (boolean true)) ≡ Err Member
unfolding shot_in frame_in first_bad
fourteen = refl

no_object : shot_in null ≡ Err Member
unfolding shot_in frame_in first_bad
no_object = refl

-- the first number out of its range: the focal length, or the last entry
focal_zero : shot_in (frame (numbers (camera 0 16384)) (boolean true) (boolean true)) ≡ Err (Camera 0)
unfolding shot_in frame_in first_bad
focal_zero = refl

last_past : shot_in (frame (numbers (camera 16 16385)) (boolean true) (boolean true)) ≡ Err (Camera 14)
unfolding shot_in frame_in first_bad
last_past = refl

-- the 64th and the 65th printed frame
print_64 : shot_at 80 63 shown ≡ Ok (record { camera = view_of_numbers whole; settle = false; print = true })
unfolding shot_at shot_in frame_in first_bad
print_64 = refl

print_65 : shot_at 80 64 shown ≡ Err (Bad (Some 80) Prints)
unfolding shot_at shot_in frame_in first_bad
print_65 = refl

-- the first faulty frame counts
second_faulty : shots_from [] 0 0 (shown ∷ null ∷ null ∷ []) ≡ Err (Bad (Some 1) Member)
unfolding shot_at shot_in frame_in first_bad
second_faulty = refl

-- whole texts
nothing : script_of [] ≡ Err (Bad None Text)
unfolding serde_json_on_literals script_of value_of script_in sections_in is_utf8 chars
nothing = refl

no_end : script_of (codes "[") ≡ Err (Bad None Text)
unfolding serde_json_on_literals script_of value_of script_in sections_in is_utf8 chars
no_end = refl

an_array : script_of (codes "[]") ≡ Err (Bad None Shape)
unfolding serde_json_on_literals script_of value_of script_in sections_in is_utf8 chars
an_array = refl

no_frames : script_of (codes "{\"size\":[4,4],\"frames\":[]}") ≡ Err (Bad None Count)
unfolding serde_json_on_literals script_of value_of script_in sections_in is_utf8 chars
no_frames = refl

size_first : script_of (codes "{\"size\":[0,4],\"frames\":[]}") ≡ Err (Bad None BadSize)
unfolding serde_json_on_literals script_of value_of script_in sections_in is_utf8 chars
size_first = refl

shape_first : script_of (codes "{\"size\":[0,4],\"frames\":{}}") ≡ Err (Bad None Shape)
unfolding serde_json_on_literals script_of value_of script_in sections_in is_utf8 chars
shape_first = refl
