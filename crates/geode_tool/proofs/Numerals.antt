-- The value of digits, digit by digit.
use Rattle.std.specs.Prelude.{◌≡◌, ◌+◌, ◌-◌, ◌*◌, ◌<◌, ◌≤◌, ◌^◌, ℕ, List, length, take, Bool, true, false, ◌&&◌, nat_lt}
use Rattle.std.specs.Prelude.{nat_le, refl}
use Rattle.std.specs.Char.{digit_value, is_ascii_digit}
use Rattle.std.specs.List.{list_all}
use Rattle.std.specs.Str.Parse.{digits_value}
use Rattle.std.specs.Int.{IsInRange}
use Rattle.geode_tool.specs.Words.{is_numeral}
use Rattle.std.proofs.Common.{arith, rules, tests, get_or, lit≤}
use Rattle.std.proofs.lemmas.Bool.Decides.{nat_tests}
use Rattle.std.proofs.lemmas.Int.Digits.{digits_value_more}
use Rattle.std.proofs.lemmas.Str.Parse.{IsNumeralModel, numerals_by_value, digit_at, digits_value_short}
use Rattle.std.proofs.lemmas.Str.Parse.{digits_value-take-le}

model : IsNumeralModel (λ ds. list_all is_ascii_digit ds ≡ true) (digits_value 10)
model = numerals_by_value (λ ds. list_all is_ascii_digit ds ≡ true) (search rules)

-- a digit is a byte from `0` to `9`
pub digit_range : (ds : List ℕ) (i : ℕ) → list_all is_ascii_digit ds ≡ true → i < length ds →
    IsInRange 48 57 (get_or ds i 0)
digit_range ds i p h = digit_at ds i (model.to ds p) h

digit_value_is : (c : ℕ) → 48 ≤ c → c ≤ 57 → digit_value c ≡ c - 48
digit_value_is c p q = grind (arith, nat_tests)

-- one digit more
pub digits_value-step : (ds : List ℕ) (i n d : ℕ) → list_all is_ascii_digit ds ≡ true → i < length ds →
    n ≡ digits_value 10 (take i ds) → d ≡ get_or ds i 0 - 48 → n * 10 + d ≡ digits_value 10 (take (i + 1) ds)
digits_value-step ds i n d p h e f =
    let c = digit_range ds i p h in
    let v : digit_value (get_or ds i 0) ≡ get_or ds i 0 - 48 =
    digit_value_is (get_or ds i 0) (omega (arith, c)) (omega (arith, c)) in
    omega (arith, digits_value_more 10 ds i h)

-- the value of the first of at most 18 digits
pub digits_value-small : (ds : List ℕ) (i : ℕ) → list_all is_ascii_digit ds ≡ true → length ds ≤ 18 →
    digits_value 10 (take i ds) < 2 ^ 60
digits_value-small ds i p s =
    let whole : digits_value 10 ds < 10 ^ 18 = digits_value_short model ds 18 p s in
    omega (arith, digits_value-take-le 10 ds i (lit≤ tt))

parts_true : (a b : Bool) → (a && b) ≡ true → (a ≡ true) × (b ≡ true)
parts_true true b h = (refl, h)
parts_true false b h = absurd (cc)

-- a numeral of at most `most` digits is small
pub is_numeral-bound : (most : ℕ) (bs : List ℕ) → is_numeral most bs ≡ true → digits_value 10 bs < 10 ^ most
is_numeral-bound most bs h =
    let tested = parts_true (nat_lt 0 (length bs) && nat_le (length bs) most) (list_all is_ascii_digit bs) h in
    let lengths = parts_true (nat_lt 0 (length bs)) (nat_le (length bs) most) tested.0 in
    let short : nat_le (length bs) most ≡ true = lengths.1 in
    digits_value_short model bs most tested.1 (search (rules, tests))
