-- The number behind the `e` of a numeral.
use Rattle.std.proofs.Common.{◌≡◌, ℕ, ◌<◌, ◌≤◌, Bool, true, false, cond, ◌&&◌, nat_lt, nat_le, eqb, List, length}
use Rattle.std.proofs.Common.{get_or, Some, None, refl, ap, ◌∙◌, arith}
use Rattle.std.proofs.lemmas.Grind.{common_steps}
use Rattle.std.proofs.lemmas.Bool.Decides.{nat_tests}
use Rattle.std.proofs.lemmas.List.Folds.{list_all_at}
use Rattle.std.specs.Char.{is_ascii_digit}
use Rattle.std.specs.List.{list_all}
use Rattle.std.specs.Option.{option_map}
use Rattle.std.specs.Str.Parse.{digits_value}
use Rattle.obj_source.specs.Numerals.{is_digits, has_minus, without_sign, signed, exponent_of}
use Rattle.obj_source.specs.Scans.{short_number}

-- which words are numbers
pub short_number_empty : (word : List ℕ) → length word ≡ 0 → None ≡ short_number word
unfolding short_number
short_number_empty word e = grind (arith, common_steps, nat_tests)

pub short_number_long : (word : List ℕ) → 4 < length word → None ≡ short_number word
unfolding short_number
short_number_long word long = grind (arith, common_steps, nat_tests)

pub short_number_other : (word : List ℕ) (i : ℕ) → i < length word → is_ascii_digit (get_or word i 0) ≡ false →
    None ≡ short_number word
unfolding short_number
short_number_other word i here other =
    let fails = list_all_at is_ascii_digit word i 0 here other in
    grind (arith, common_steps, nat_tests)

pub short_number_digits : (word : List ℕ) → 0 < length word → length word ≤ 4 → list_all is_ascii_digit word ≡ true →
    Some (digits_value 10 word) ≡ short_number word
unfolding short_number
short_number_digits word some short digits = grind (arith, common_steps, nat_tests)

pub empty_is : (n : ℕ) → true ≡ eqb n 0 → n ≡ 0
empty_is n e = grind (arith, common_steps, nat_tests)

pub not_empty : (n : ℕ) → false ≡ eqb n 0 → 0 < n
not_empty n e = grind (arith, common_steps, nat_tests)

-- the number, by its sign
cond_map : {A B : Type 0} (f : A → B) (x : A) (test : Bool) →
    cond test (Some (f x)) None ≡ option_map f (cond test (Some x) None)
cond_map f x true = refl
cond_map f x false = refl

pub exponent_of_is : (word : List ℕ) → exponent_of word ≡ option_map (signed (has_minus word))
    (short_number (without_sign word))
unfolding exponent_of short_number
exponent_of_is word =
    cond_map (signed (has_minus word)) (digits_value 10 (without_sign word))
    (is_digits (without_sign word) && nat_lt 0 (length (without_sign word)) && nat_le (length (without_sign word)) 4)

pub exponent_of_none : (word : List ℕ) → short_number (without_sign word) ≡ None → exponent_of word ≡ None
exponent_of_none word e = exponent_of_is word ∙ ap (option_map (signed (has_minus word))) e

pub exponent_of_some : (word : List ℕ) (n : ℕ) → short_number (without_sign word) ≡ Some n →
    exponent_of word ≡ Some (signed (has_minus word) n)
exponent_of_some word n e = exponent_of_is word ∙ ap (option_map (signed (has_minus word))) e
