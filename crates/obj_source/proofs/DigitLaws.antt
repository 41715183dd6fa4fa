-- The number that digits write, digit by digit.
use Rattle.std.proofs.Common.{◌≡◌, ℕ, ◌+◌, ◌-◌, ◌*◌, ◌^◌, ◌<◌, ◌≤◌, true, List, length, take, get_or, ap, ◌∙◌, arith}
use Rattle.std.proofs.lemmas.Grind.{common_steps}
use Rattle.std.proofs.lemmas.Bool.Decides.{nat_tests}
use Rattle.std.proofs.lemmas.Int.Digits.{digits_value_more}
use Rattle.std.proofs.lemmas.List.Folds.{list_all_more}
use Rattle.std.specs.Char.{is_ascii_digit, digit_value}
use Rattle.std.specs.List.{list_all}
use Rattle.std.specs.Str.Parse.{digits_value}
use Rattle.obj_source.proofs.Powers.{power_small}

-- an ASCII digit stands for its place behind `0`
pub digit_is : (c : ℕ) → is_ascii_digit c ≡ true → (digit_value c ≡ c - 48) × (48 ≤ c) × (c - 48 < 10)
digit_is c e = grind (arith, common_steps, nat_tests)

-- one digit more
pub digits_step : (word : List ℕ) (i : ℕ) → i < length word → is_ascii_digit (get_or word i 0) ≡ true →
    digits_value 10 (take (i + 1) word) ≡ digits_value 10 (take i word) * 10 + (get_or word i 0 - 48)
digits_step word i here digit =
    digits_value_more 10 word i here ∙ ap (λ (d : ℕ). digits_value 10 (take i word) * 10 + d)
    (digit_is (get_or word i 0) digit).0

pub all_digits_step : (word : List ℕ) (i : ℕ) → i < length word → list_all is_ascii_digit (take i word) ≡ true →
    is_ascii_digit (get_or word i 0) ≡ true → list_all is_ascii_digit (take (i + 1) word) ≡ true
all_digits_step word i here so_far digit = rw (list_all_more is_ascii_digit word i 0 here, so_far) digit

-- the value has no more digits than the word
pub digits_below_step : (number digit i : ℕ) → number < 10 ^ i → digit < 10 → number * 10 + digit < 10 ^ (i + 1)
digits_below_step number digit i small below =
    let more : 10 ^ (i + 1) ≡ 10 ^ i * 10 = grind (arith, common_steps) in
    omega (arith, more)

pub digits_fit : (number digit i n most : ℕ) → number < 10 ^ i → digit < 10 → i < n → n ≤ most →
    number * 10 + digit < 10 ^ most
digits_fit number digit i n most small below here short =
    omega (arith, digits_below_step number digit i small below, power_small (i + 1) most (omega arith))
