-- The word's digits, those behind its point and its exponent are what the three calls read in turn.
use Rattle.std.proofs.Common.{◌≡◌, [], ◌++◌, ◌+◌, ◌<◌, min, length, Some, None, refl, sym, ◌∙◌, ◌≤ℤ◌, pos, negsuc, w32}
use Rattle.std.proofs.Common.{arith, rules}
use mir.Val.{SFits}
use Rattle.std.proofs.lemmas.Int.{ints, to_z-of_z}
use Rattle.std.proofs.lemmas.List.{take_rest}
use Rattle.std.proofs.lemmas.List.Folds.{length-prefix_len}
use Rattle.std.specs.Char.{is_ascii_digit}
use Rattle.obj_source.specs.Scans.{AreCounted}
use Rattle.obj_source.specs.Numerals.{without_sign}
use Rattle.obj_source.proofs.Powers.{power_small}
use Rattle.obj_source.proofs.CoordinateLaws.{whole_of, fraction_of, exponent_in_word, IsBad_long, IsBad_empty}
use Rattle.obj_source.proofs.CoordinateLaws.{IsBad_exponent, IsDecimal_short, dropped_within}
use Rattle.obj_source.proofs.decimals.decimal_of.Goals as goal
use Rattle.obj_source.proofs.decimals.decimal_of.Goals.{else-whole-eq0-via-then-whole-eq0+else-fraction-eq0}
use Rattle.obj_source.proofs.decimals.decimal_of.Goals.{else-whole-eq0-via-else-whole-eq0}

pub returns-then-whole-gt-MOST_DIGITS : goal.returns-then-whole-gt-MOST_DIGITS
returns-then-whole-gt-MOST_DIGITS c =
    let whole : AreCounted c.read_digits-whole.result.digits.value c.read_digits-whole.result.digits.significant
    (whole_of c.args.word.now) =
    rw (c.read_digits-whole.ensures.len, c.split_sign-is_negative.ensures.rest) at
    (c.read_digits-whole.ensures.counted [] (refl, refl))
    in
    IsBad_long c.args.word.now (omega (arith, whole.1))

pub returns-then-fraction-eq0 : goal.returns-then-fraction-eq0
returns-then-fraction-eq0 c =
    let word = c.args.word.now in
    let whole =
    length-prefix_len is_ascii_digit (without_sign word) ∙
    sym (rw c.split_sign-is_negative.ensures.rest at c.read_digits-whole.ensures.len) in
    let fraction =
    rw (take_rest, c.read_digits-whole.ensures.len, c.split_sign-is_negative.ensures.rest) at
    c.read_fraction.ensures.len in
    IsBad_empty word (omega (arith, whole)) (omega (arith, fraction))

pub returns-in_err-exponent : goal.returns-in_err-exponent
returns-in_err-exponent c =
    let word = c.args.word.now in
    let exponent : exponent_in_word word ≡ None =
    sym (rw (
      c.read_fraction.ensures.rest,
      take_rest,
      c.read_digits-whole.ensures.len,
      c.split_sign-is_negative.ensures.rest,
    ) at c.in_err-exponent.ensures.value)
    in
    rw c.from_residual.ensures (IsBad_exponent word exponent)

pub overflow_sub-result : goal.overflow_sub-result
overflow_sub-result c =
    let word = c.args.word.now in
    let whole : AreCounted c.read_digits-whole.result.digits.value c.read_digits-whole.result.digits.significant
    (whole_of word) =
    rw (c.read_digits-whole.ensures.len, c.split_sign-is_negative.ensures.rest) at
    (c.read_digits-whole.ensures.counted [] (refl, refl))
    in
    let all : AreCounted c.read_fraction.result.0.digits.value c.read_fraction.result.0.digits.significant
    (whole_of word ++ fraction_of word) =
    rw (take_rest, c.read_digits-whole.ensures.len, c.split_sign-is_negative.ensures.rest) at
    (c.read_fraction.ensures.counted (whole_of word) whole)
    in
    let fraction : c.read_fraction.result.0.len ≡ length (fraction_of word) =
    rw (take_rest, c.read_digits-whole.ensures.len, c.split_sign-is_negative.ensures.rest) at
    c.read_fraction.ensures.len
    in
    omega (arith, fraction, dropped_within word _ _ (omega (arith, whole.1)) all)

pub invariant_of-result : goal.invariant_of-result
invariant_of-result c =
    let digits = c.read_fraction.result.0.digits in
    let most = power_small (min digits.significant 18) 18 (omega arith) in
    let low : negsuc 9998 ≤ℤ c.in_ok-exponent.exponent = c.in_ok-exponent.ensures.small.0 in
    let high : c.in_ok-exponent.exponent ≤ℤ pos 9999 = c.in_ok-exponent.ensures.small.1 in
    record { few_digits = omega (arith, most); low = omega (arith, ints); high = omega (arith, ints) }

pub returns : goal.returns
returns c =
    let word = c.args.word.now in
    let whole : AreCounted c.read_digits-whole.result.digits.value c.read_digits-whole.result.digits.significant
    (whole_of word) =
    rw (c.read_digits-whole.ensures.len, c.split_sign-is_negative.ensures.rest) at
    (c.read_digits-whole.ensures.counted [] (refl, refl))
    in
    let all : AreCounted c.read_fraction.result.0.digits.value c.read_fraction.result.0.digits.significant
    (whole_of word ++ fraction_of word) =
    rw (take_rest, c.read_digits-whole.ensures.len, c.split_sign-is_negative.ensures.rest) at
    (c.read_fraction.ensures.counted (whole_of word) whole)
    in
    let fraction : c.read_fraction.result.0.len ≡ length (fraction_of word) =
    rw (take_rest, c.read_digits-whole.ensures.len, c.split_sign-is_negative.ensures.rest) at
    c.read_fraction.ensures.len
    in
    let some : 0 < length (whole_of word) + length (fraction_of word) =
    (let length_is = length-prefix_len is_ascii_digit (without_sign word) ∙
    sym (rw c.split_sign-is_negative.ensures.rest at c.read_digits-whole.ensures.len) in
    elim c.else-whole-eq0.branch [
      | else-whole-eq0-via-then-whole-eq0+else-fraction-eq0 w ↦ omega (arith, length_is, fraction)
      | else-whole-eq0-via-else-whole-eq0 w ↦ omega (arith, length_is, fraction)
    ])
    in
    let exponent : exponent_in_word word ≡ Some c.in_ok-exponent.exponent =
    sym (rw (
      c.read_fraction.ensures.rest,
      take_rest,
      c.read_digits-whole.ensures.len,
      c.split_sign-is_negative.ensures.rest,
    ) at c.in_ok-exponent.ensures.value)
    in
    let fits : SFits w32 c.in_ok-exponent.exponent = search rules in
    rw (
      to_z-of_z w32 c.in_ok-exponent.exponent fits,
      c.split_sign-is_negative.ensures.sign,
      c.saturating_sub-dropped.ensures,
      fraction,
    )
    (IsDecimal_short word c.in_ok-exponent.exponent _ _ (omega (arith, whole.1)) some exponent all)
