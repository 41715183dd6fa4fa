-- The camera of a word, from the numbers between its commas.
use Rattle.std.specs.Prelude.{◌≡◌, ◌==◌, ℕ, ℤ, List, Option, Some, None, Result, Ok, Err, IfSome, is_none}
use Rattle.std.specs.Prelude.{if◌then◌else◌, refl}
use Rattle.std.specs.List.{slice_split}
use Rattle.std.specs.Str.{byte}
use Rattle.std.specs.Result.{result_ok}
use Rattle.std.proofs.Common.{ap}
use Rattle.geom_core.specs.Camera.{View}
use Rattle.view_camera.specs.declared.cameras.BadCamera.{BadCamera}
use Rattle.view_camera.specs.CameraNumbers.{first_bad, view_of_numbers}
use Rattle.geode_tool.specs.Words.{numbers_of, fifteen, camera}

abbrev numbers_in : List ℕ → Option (List ℤ)
numbers_in bs = fifteen (numbers_of (slice_split (λ b. b == byte ",") bs))

pub camera-none : (bs : List ℕ) → numbers_in bs ≡ None → None ≡ camera bs
unfolding camera
camera-none bs h = rw h refl

-- what the camera of numbers gives without its reason
ok_part : (bad : Option ℕ) (v : View) (r : Result View BadCamera) → (bad ≡ None → r ≡ Ok v) →
    IfSome bad (λ field. r ≡ Err (record { field = field })) → result_ok r ≡ (if is_none bad then Some v else None)
ok_part None v r good err = ap result_ok (good refl)
ok_part (Some field) v r good err = ap result_ok err

pub camera-some : (bs : List ℕ) (ns : List ℤ) (r : Result View BadCamera) → numbers_in bs ≡ Some ns →
    (first_bad ns ≡ None → r ≡ Ok (view_of_numbers ns)) →
    IfSome (first_bad ns) (λ field. r ≡ Err (record { field = field })) → result_ok r ≡ camera bs
unfolding camera
camera-some bs ns r h good err = rw h (ok_part (first_bad ns) (view_of_numbers ns) r good err)
