-- Numerals, and the coordinate that each gives: digits with at most one point, and a power of ten; times the
-- scale, rounded to the nearest whole number, halves up.
use Rattle.std.specs.Prelude.{Bool, false, ◌&&◌, ◌||◌, ◌==◌, nat_lt, nat_le, ℕ, suc, ℤ, pos, negsuc, neg_ℤ, ◌+◌, ◌-◌}
use Rattle.std.specs.Prelude.{◌*◌, ◌^◌, ◌+ℤ◌, ◌-ℤ◌, ◌*ℤ◌, List, [], ◌∷◌, ◌++◌, length, take, drop, Option, Some, None}
use Rattle.std.specs.Prelude.{option_map, Result, Ok, Err, if◌then◌else◌}
use Rattle.std.specs.Char.{is_ascii_digit}
use Rattle.std.specs.List.{list_all, list_any, before_first, after_first, prefix_len}
use Rattle.std.specs.Str.Parse.{digits_value}
use Rattle.geom_core.specs.Floor.{floor_div}
use Rattle.geom_core.specs.Limits.{is_grid_coordinate}
use Rattle.obj_source.specs.declared.numbers.NumberWhy.{NumberWhy}
use Rattle.obj_source.specs.declared.numbers.NumberWhy.TheVariants.{Bad, Range}

-- the parts of a numeral
pub record Numeral : Type 0 where
  pub is_negative : Bool
  -- the digits before the point, and those behind it
  pub whole : List ℕ
  pub fraction : List ℕ
  pub exponent : ℤ

abbrev pub is_digits : List ℕ → Bool
is_digits bytes = list_all is_ascii_digit bytes

abbrev pub is_minus : ℕ → Bool
is_minus b = b == 45

-- whether a minus stands first
abbrev pub has_minus : List ℕ → Bool
has_minus [] = false
has_minus (b ∷ rest) = is_minus b

-- the word without the `+` or `-` that may stand first
abbrev pub without_sign : List ℕ → List ℕ
without_sign [] = []
without_sign (b ∷ rest) = if b == 43 || is_minus b then rest else b ∷ rest

abbrev pub is_point : ℕ → Bool
is_point b = b == 46

-- `e` or `E`
abbrev pub marks_exponent : ℕ → Bool
marks_exponent b = b == 101 || b == 69

-- the number with a minus or without
abbrev pub signed : Bool → ℕ → ℤ
signed is_negative n = if is_negative then neg_ℤ (pos n) else pos n

-- the number that one to four digits write, behind a sign or not
unfoldable pub exponent_of : List ℕ → Option ℤ
exponent_of word =
    let digits = without_sign word in
    if is_digits digits && nat_lt 0 (length digits) && nat_le (length digits) 4
    then Some (signed (has_minus word) (digits_value 10 digits)) else None

-- the number behind the `e`, and 0 where there is none
abbrev pub exponent_in : List ℕ → Option ℤ
exponent_in rest =
    if list_any marks_exponent rest then exponent_of (after_first marks_exponent rest) else Some (pos 0)

-- The parts of a word that is a numeral: a sign or none, digits with at most one point before, among or
-- behind them, and an exponent or none.
unfoldable pub numeral_of : List ℕ → Option Numeral
numeral_of word =
    let rest = without_sign word in
    let mantissa = before_first marks_exponent rest in
    let whole = before_first is_point mantissa in
    let fraction = after_first is_point mantissa in
    if is_digits whole && is_digits fraction && nat_lt 0 (length whole + length fraction)
    then option_map (λ exponent. record {
      is_negative = has_minus word;
      whole = whole;
      fraction = fraction;
      exponent = exponent;
    })
    (exponent_in rest)
    else None

-- the digits from the first one on that isn't 0
abbrev pub significant : List ℕ → List ℕ
significant digits = drop (prefix_len (λ d. d == 48) digits) digits

-- a numeral with more than 18 significant digits before its point isn't read
abbrev pub is_short : Numeral → Bool
is_short n = nat_le (length (significant n.whole)) 18

-- the significant digits of the whole numeral; the first 18 of them count
abbrev pub digits_of : Numeral → List ℕ
digits_of n = significant (n.whole ++ n.fraction)

abbrev pub counted : Numeral → List ℕ
counted n = take 18 (digits_of n)

-- the power of ten that the last digit that counts stands for: of the digits behind the point those that don't
-- count are dropped
abbrev pub power_of : Numeral → ℤ
power_of n = n.exponent +ℤ pos (length (digits_of n) - length (counted n)) -ℤ pos (length n.fraction)

-- the whole number that is nearest to n / d, of two the greater
abbrev pub nearest : ℤ → ℕ → ℤ
nearest n d = floor_div (pos 2 *ℤ n +ℤ pos d) (pos (2 * d))

-- n times a power of ten, rounded
abbrev pub times_power : ℤ → ℤ → ℤ
times_power n (pos k) = n *ℤ pos (10 ^ k)
times_power n (negsuc k) = nearest n (10 ^ suc k)

-- the numeral's value times the scale, rounded
unfoldable pub scaled : ℕ → Numeral → ℤ
scaled scale n = times_power (signed n.is_negative (digits_value 10 (counted n) * scale)) (power_of n)

-- a coordinate is at most MAX_COORDINATE from 0
abbrev pub in_grid : ℤ → Result ℤ NumberWhy
in_grid n = if is_grid_coordinate n then Ok n else Err Range

abbrev pub coordinate_in : ℕ → Option Numeral → Result ℤ NumberWhy
coordinate_in scale None = Err Bad
coordinate_in scale (Some n) = if is_short n then in_grid (scaled scale n) else Err Bad

-- the coordinate that a word gives on a grid of `scale` steps to the unit
unfoldable pub coordinate_of : ℕ → List ℕ → Result ℤ NumberWhy
coordinate_of scale word = coordinate_in scale (numeral_of word)
