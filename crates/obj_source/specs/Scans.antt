-- A word read from the left: its digits, the digits behind its point, its exponent, and the number that they give.
use Rattle.std.specs.Prelude.{◌≡◌, Bool, ◌&&◌, nat_lt, nat_le, ℕ, ℤ, pos, ◌*◌, ◌-ℤ◌, List, [], ◌∷◌, length, take, drop}
use Rattle.std.specs.Prelude.{Option, Some, None, Result, Err, if◌then◌else◌}
use Rattle.std.specs.Char.{is_ascii_digit}
use Rattle.std.specs.List.{prefix_len}
use Rattle.std.specs.Str.Parse.{digits_value}
use Rattle.obj_source.specs.declared.numbers.NumberWhy.{NumberWhy}
use Rattle.obj_source.specs.declared.numbers.NumberWhy.TheVariants.{Bad}
use Rattle.obj_source.specs.Numerals.{is_digits, is_point, marks_exponent, exponent_of, significant, signed}
use Rattle.obj_source.specs.Numerals.{times_power, in_grid, coordinate_of}

-- of these digits so many are significant, and the first 18 of those write this value
abbrev pub AreCounted : ℕ → ℕ → List ℕ → Type 0
AreCounted value count digits =
    (value ≡ digits_value 10 (take 18 (significant digits))) × (count ≡ length (significant digits))

-- the digits with which the bytes begin, and what follows them
abbrev pub leading : List ℕ → List ℕ
leading bytes = take (prefix_len is_ascii_digit bytes) bytes

abbrev pub past : List ℕ → List ℕ
past bytes = drop (prefix_len is_ascii_digit bytes) bytes

-- the digits behind the point with which the bytes begin, and none without a point
abbrev pub digits_behind : List ℕ → List ℕ
digits_behind [] = []
digits_behind (b ∷ rest) = if is_point b then leading rest else []

-- what follows these
abbrev pub rest_behind : List ℕ → List ℕ
rest_behind [] = []
rest_behind (b ∷ rest) = if is_point b then past rest else b ∷ rest

-- the number that one to four digits write
unfoldable pub short_number : List ℕ → Option ℕ
short_number word =
    if is_digits word && nat_lt 0 (length word) && nat_le (length word) 4 then Some (digits_value 10 word) else None

-- the number behind the `e` with which the bytes begin, and 0 where there are none
abbrev pub exponent_behind : List ℕ → Option ℤ
exponent_behind [] = Some (pos 0)
exponent_behind (b ∷ rest) = if marks_exponent b then exponent_of rest else None

-- the coordinate of a number that digits and a power of ten give
abbrev pub coordinate_from : ℕ → Bool → ℕ → ℕ → ℤ → Result ℤ NumberWhy
coordinate_from scale is_negative digits behind exponent =
    in_grid (times_power (signed is_negative (digits * scale)) (exponent -ℤ pos behind))

-- the word gives no coordinate, whatever the scale
abbrev pub IsBad : List ℕ → Type 0
IsBad word = (scale : ℕ) → coordinate_of scale word ≡ Err Bad

-- the word gives the coordinates of this number
abbrev pub IsDecimal : List ℕ → Bool → ℕ → ℕ → ℤ → Type 0
IsDecimal word is_negative digits behind exponent =
    (scale : ℕ) → coordinate_of scale word ≡ coordinate_from scale is_negative digits behind exponent
