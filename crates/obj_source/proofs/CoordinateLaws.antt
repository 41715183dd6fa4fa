-- The coordinate of a word, by its digits and its exponent.
use Rattle.std.proofs.Common.{◌≡◌, ℕ, ◌+◌, ◌-◌, ◌*◌, ◌<◌, ◌≤◌, nat_lt, min, List, ◌++◌, length, take, ℤ, pos, ◌+ℤ◌}
use Rattle.std.proofs.Common.{◌-ℤ◌, Option, Some, None, Err, inl, inr, refl, sym, ap, ◌∙◌, arith}
use Rattle.std.proofs.lemmas.Bool.{cases_Bool, lt-leb, le-leb, lt-ltb, le-ltb}
use Rattle.std.proofs.lemmas.Int.{ints}
use Rattle.std.proofs.lemmas.List.{length-take}
use Rattle.obj_source.specs.declared.numbers.NumberWhy.TheVariants.{Bad}
use Rattle.obj_source.specs.Numerals.{Numeral, has_minus, without_sign, significant, power_of, scaled, signed}
use Rattle.obj_source.specs.Numerals.{times_power, in_grid, coordinate_in, coordinate_of}
use Rattle.obj_source.specs.Scans.{AreCounted, leading, past, digits_behind, rest_behind, exponent_behind}
use Rattle.obj_source.specs.Scans.{coordinate_from, IsBad, IsDecimal}
use Rattle.obj_source.proofs.SignificantLaws.{length-significant}
use Rattle.obj_source.proofs.NumeralLaws.{numeral, numeral_or_none, numeral_of_is, no_exponent}

-- the digits of a word before its point, those behind it, and its exponent
abbrev pub whole_of : List ℕ → List ℕ
whole_of word = leading (without_sign word)

abbrev pub fraction_of : List ℕ → List ℕ
fraction_of word = digits_behind (past (without_sign word))

abbrev pub exponent_in_word : List ℕ → Option ℤ
exponent_in_word word = exponent_behind (rest_behind (past (without_sign word)))

coordinate_of_is : (scale : ℕ) (word : List ℕ) →
    coordinate_of scale word ≡ coordinate_in scale
    (numeral_or_none word (whole_of word) (fraction_of word) (exponent_in_word word))
unfolding coordinate_of
coordinate_of_is scale word = ap (coordinate_in scale) (numeral_of_is word)

-- ---- words that give no coordinate

long_is_bad : (scale : ℕ) (word whole fraction : List ℕ) (exponent : Option ℤ) → 18 < length (significant whole) →
    coordinate_in scale (numeral_or_none word whole fraction exponent) ≡ Err Bad
long_is_bad scale word whole fraction None long = ap (coordinate_in scale) (no_exponent word whole fraction)
long_is_bad scale word whole fraction (Some e) long =
    elim (cases_Bool (nat_lt 0 (length whole + length fraction))) [
      | inl h ↦ rw (h, lt-leb (length (significant whole)) 18 long) refl
      | inr h ↦ rw h refl
    ]

pub IsBad_long : (word : List ℕ) → 18 < length (significant (whole_of word)) → IsBad word
IsBad_long word long =
    λ scale. coordinate_of_is scale word ∙ long_is_bad scale word (whole_of word) (fraction_of word)
    (exponent_in_word word) long

pub IsBad_empty : (word : List ℕ) → length (whole_of word) ≡ 0 → length (fraction_of word) ≡ 0 → IsBad word
IsBad_empty word w f =
    λ scale. coordinate_of_is scale word ∙ rw
    (le-ltb 0 (length (whole_of word) + length (fraction_of word)) (omega arith)) refl

pub IsBad_exponent : (word : List ℕ) → exponent_in_word word ≡ None → IsBad word
IsBad_exponent word e =
    λ scale. coordinate_of_is scale word
    ∙ ap (λ (exponent : Option ℤ). coordinate_in scale
    (numeral_or_none word (whole_of word) (fraction_of word) exponent)) e
    ∙ ap (coordinate_in scale) (no_exponent word (whole_of word) (fraction_of word))

-- ---- words that give one

power_is : (e : ℤ) (count taken places : ℕ) → taken ≡ min 18 count → count - 18 ≤ places →
    e +ℤ pos (count - taken) -ℤ pos places ≡ e -ℤ pos (places - (count - 18))
power_is e count taken places t within = omega (arith, ints)

short_is : (scale : ℕ) (word whole fraction : List ℕ) (e : ℤ) (value count : ℕ) → length (significant whole) ≤ 18 →
    0 < length whole + length fraction → AreCounted value count (whole ++ fraction) →
    coordinate_in scale (numeral_or_none word whole fraction (Some e)) ≡ coordinate_from scale (has_minus word) value
    (length fraction - (count - 18)) e
unfolding scaled
short_is scale word whole fraction e value count short some counts =
    let n : Numeral = numeral word whole fraction e in
    let all : List ℕ = significant (whole ++ fraction) in
    let more : length all ≤ length (significant whole) + length fraction = length-significant whole fraction in
    let power : power_of n ≡ e -ℤ pos (length fraction - (count - 18)) =
    power_is e (length all) (length (take 18 all)) (length fraction) (length-take 18 all) (omega arith)
    ∙ ap (λ (k : ℕ). e -ℤ pos (length fraction - (k - 18))) (sym counts.1)
    in
    rw (lt-ltb 0 (length whole + length fraction) some, le-leb (length (significant whole)) 18 short) (
    ap (λ (v : ℕ). in_grid (times_power (signed (has_minus word) (v * scale)) (power_of n))) (sym counts.0)
    ∙ ap (λ (p : ℤ). in_grid (times_power (signed (has_minus word) (value * scale)) p)) power)

pub IsDecimal_short : (word : List ℕ) (e : ℤ) (value count : ℕ) → length (significant (whole_of word)) ≤ 18 →
    0 < length (whole_of word) + length (fraction_of word) → exponent_in_word word ≡ Some e →
    AreCounted value count (whole_of word ++ fraction_of word) →
    IsDecimal word (has_minus word) value (length (fraction_of word) - (count - 18)) e
IsDecimal_short word e value count short some exponent counts =
    λ scale. coordinate_of_is scale word
    ∙ ap (λ (o : Option ℤ). coordinate_in scale (numeral_or_none word (whole_of word) (fraction_of word) o)) exponent
    ∙ short_is scale word (whole_of word) (fraction_of word) e value count short some counts

-- the digits that don't count stand behind the point
pub dropped_within : (word : List ℕ) (value count : ℕ) → length (significant (whole_of word)) ≤ 18 →
    AreCounted value count (whole_of word ++ fraction_of word) → count - 18 ≤ length (fraction_of word)
dropped_within word value count short counts =
    omega (arith, length-significant (whole_of word) (fraction_of word), counts.1)
