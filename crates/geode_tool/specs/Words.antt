-- The words of the commands: `draw` with a width, a height and a camera, `audit` and `build` alone, `verify` with a
-- file, and `make` with a size and a number.
use Rattle.std.specs.Prelude.{◌==◌, ◌&&◌, ◌^◌, ℕ, ℤ, pos, neg_ℤ, nat_lt, nat_le, Bool, false, List, [], ◌∷◌, length}
use Rattle.std.specs.Prelude.{drop, slice_index, Option, Some, None, option_map, option_and_then, is_none, bytes_eq}
use Rattle.std.specs.Prelude.{codes, if◌then◌else◌}
use Rattle.std.specs.List.{slice_split, list_all}
use Rattle.std.specs.Char.{is_ascii_digit}
use Rattle.std.specs.Str.{byte}
use Rattle.std.specs.Str.Parse.{digits_value}
use Rattle.geom_core.specs.Camera.{View}
use Rattle.geom_core.specs.Limits.{is_side}
use Rattle.geode_tool.specs.declared.commands.Command.{Command}
use Rattle.geode_tool.specs.declared.commands.Command.TheVariants.{Draw, Audit, Make, Build, Verify}
use Rattle.geode_tool.specs.declared.commands.BoxRequest.{BoxRequest}
use Rattle.geode_tool.specs.declared.commands.DrawRequest.{DrawRequest}
use Rattle.shape_gen.specs.declared.lattice.TheConstants.{MAX_BOX_SIZE}
use Rattle.view_camera.specs.CameraNumbers.{first_bad, view_of_numbers}

infixl 10 ◌>>=◌
abbrev pub ◌>>=◌ : {A B : Type 0} → Option A → (A → Option B) → Option B
o >>= f = option_and_then f o

-- 1 to `most` digits, leading zeros included
abbrev pub is_numeral : ℕ → List ℕ → Bool
is_numeral most bs = nat_lt 0 (length bs) && nat_le (length bs) most && list_all is_ascii_digit bs

-- the value of the digits
unfoldable pub whole_number : ℕ → List ℕ → Option ℕ
whole_number most bs = if is_numeral most bs then Some (digits_value 10 bs) else None

-- the value of digits with an optional `-` before them
unfoldable pub signed_number : ℕ → List ℕ → Option ℤ
signed_number most bs =
    if slice_index bs 0 == byte "-"
    then option_map (λ n. neg_ℤ (pos n)) (whole_number most (drop 1 bs))
    else option_map pos (whole_number most bs)

-- the number of columns or rows of a picture
unfoldable pub side : List ℕ → Option ℕ
side bs = do
  n ← whole_number 10 bs
  if is_side n then Some n else None

-- the number of each part between commas
abbrev pub numbers_of : List (List ℕ) → Option (List ℤ)
numbers_of [] = Some []
numbers_of (part ∷ parts) = do
  n ← signed_number 11 part
  ns ← numbers_of parts
  Some (n ∷ ns)

-- the numbers, if they are fifteen
abbrev pub fifteen : Option (List ℤ) → Option (List ℤ)
fifteen numbers = numbers >>= (λ ns. if length ns == 15 then Some ns else None)

-- the camera of fifteen numbers separated by commas, each in its range
unfoldable pub camera : List ℕ → Option View
camera bs = do
  ns ← fifteen (numbers_of (slice_split (λ b. b == byte ",") bs))
  if is_none (first_bad ns) then Some (view_of_numbers ns) else None

-- the arguments of `draw`, if the words are `draw` and three more
unfoldable pub draw_words : List (List ℕ) → Option DrawRequest
draw_words (name ∷ width ∷ height ∷ numbers ∷ []) =
    if bytes_eq name (codes "draw")
    then (do
      columns ← side width
      rows ← side height
      view ← camera numbers
      Some (record { size = record { width = columns; height = rows }; camera = view }))
    else None
draw_words _ = None

-- the words are `audit` alone
abbrev pub is_audit : List (List ℕ) → Bool
is_audit (name ∷ []) = bytes_eq name (codes "audit")
is_audit _ = false

-- the words are `build` alone
abbrev pub is_build : List (List ℕ) → Bool
is_build (name ∷ []) = bytes_eq name (codes "build")
is_build _ = false

-- the words are `verify` and one more, a file
abbrev pub is_verify : List (List ℕ) → Bool
is_verify (name ∷ file ∷ []) = bytes_eq name (codes "verify")
is_verify _ = false

-- a box can have this many cells along an edge
abbrev pub is_box_size : ℕ → Bool
is_box_size n = nat_le 1 n && nat_le n MAX_BOX_SIZE

-- the number of cells along an edge of a box
unfoldable pub box_size : List ℕ → Option ℕ
box_size bs = do
  n ← whole_number 10 bs
  if is_box_size n then Some n else None

-- the number of a box
unfoldable pub box_number : List ℕ → Option ℕ
box_number bs = do
  n ← whole_number 10 bs
  if nat_lt n (2 ^ 32) then Some n else None

-- the arguments of `make`, if the words are `make` and two more
unfoldable pub make_words : List (List ℕ) → Option BoxRequest
make_words (name ∷ size ∷ number ∷ []) =
    if bytes_eq name (codes "make")
    then (do
      cells ← box_size size
      n ← box_number number
      Some (record { size = cells; number = n }))
    else None
make_words _ = None

-- `make` if its arguments are there, else `draw` if its are
abbrev pub make_or_draw : Option BoxRequest → Option DrawRequest → Option Command
make_or_draw (Some request) drawn = Some (Make request)
make_or_draw None drawn = option_map Draw drawn

-- the command that the words ask for
unfoldable pub command_words : List (List ℕ) → Option Command
command_words words =
    if is_audit words then Some Audit
    else (if is_build words then Some Build
    else (if is_verify words then Some Verify
    else make_or_draw (make_words words) (draw_words words)))
