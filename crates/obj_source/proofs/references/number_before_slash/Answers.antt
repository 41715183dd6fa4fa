use Rattle.std.proofs.Common.{◌≡◌, true, length, take, get_or, sym, ap, ◌∙◌, not, below_more, refl, arith}
use Rattle.std.proofs.lemmas.Bool.Decides.{nat_tests}
use Rattle.std.proofs.lemmas.List.{take_all, length-take-le}
use Rattle.std.specs.Char.{is_ascii_digit}
use Rattle.std.specs.List.{before_first}
use Rattle.obj_source.specs.References.{is_slash}
use Rattle.obj_source.proofs.ReferenceLaws.{before_slash_at, no_number_other, no_number_long, number_of_digits}
use Rattle.obj_source.proofs.DigitLaws.{digit_is, digits_step, all_digits_step, digits_below_step, digits_fit}
use Rattle.obj_source.proofs.references.number_before_slash.Goals as goal

pub returns-then-byte-eq47 : goal.returns-then-byte-eq47
returns-then-byte-eq47 c =
    let bytes = c.args.bytes.now in
    let i = c.loop-len.len in
    let so_far = c.loop-len.invariant in
    let size : length (take i bytes) ≡ i = length-take-le i bytes (omega arith) in
    rw (c.then_some.ensures, before_slash_at bytes i (omega arith) so_far.each_digit (λ _. c.if-byte-eq47.true))
    (number_of_digits (take i bytes) c.loop-len.number _ so_far.all_digits (omega (arith, size)) so_far.value
    (rw size refl))

pub returns-then-not-is_ascii_digit : goal.returns-then-not-is_ascii_digit
returns-then-not-is_ascii_digit c =
    no_number_other c.args.bytes.now c.loop-len.len c.loop-len-test.true c.loop-len.invariant.each_digit
    c.if-byte-eq47.false (sym c.if-not-is_ascii_digit.ensures.value)

pub returns-then-len-eq-MOST_DIGITS : goal.returns-then-len-eq-MOST_DIGITS
returns-then-len-eq-MOST_DIGITS c =
    no_number_long c.args.bytes.now c.loop-len.len c.loop-len-test.true c.loop-len.invariant.each_digit
    c.if-byte-eq47.false c.if-len-eq-MOST_DIGITS.true

pub overflow_mul-number : goal.overflow_mul-number
overflow_mul-number c =
    let fits =
    digits_fit c.loop-len.number 0 c.loop-len.len 18 18 c.loop-len.invariant.small (omega arith) (omega arith)
    (omega arith) in
    omega arith

pub overflow_add-number : goal.overflow_add-number
overflow_add-number c =
    let digit = digit_is (get_or c.args.bytes.now c.loop-len.len 0) (sym c.if-not-is_ascii_digit.ensures.value) in
    let fits =
    digits_fit c.loop-len.number c.from.result c.loop-len.len 18 18 c.loop-len.invariant.small (omega arith)
    (omega arith) (omega arith) in
    omega arith

pub loop-len-preserved : goal.loop-len-preserved
loop-len-preserved c =
    let bytes = c.args.bytes.now in
    let i = c.loop-len.len in
    let so_far = c.loop-len.invariant in
    let is_digit : is_ascii_digit (get_or bytes i 0) ≡ true = sym c.if-not-is_ascii_digit.ensures.value in
    let digit = digit_is (get_or bytes i 0) is_digit in
    record {
      each_digit = below_more _ _ so_far.each_digit is_digit;
      all_digits = all_digits_step bytes i (omega arith) so_far.all_digits is_digit;
      value = omega (arith, digits_step bytes i (omega arith) is_digit);
      small = digits_below_step c.loop-len.number c.from.result i so_far.small (omega arith);
      short = omega arith;
    }

pub returns : goal.returns
returns c =
    let bytes = c.args.bytes.now in
    let i = c.loop-len.len in
    let so_far = c.loop-len.invariant in
    let all : take i bytes ≡ bytes = take_all i bytes (omega arith) in
    let whole : before_first is_slash bytes ≡ bytes =
    before_slash_at bytes i (omega arith) so_far.each_digit (λ h. absurd (omega arith)) ∙ all in
    rw (c.then_some-2.ensures, whole)
    (number_of_digits bytes c.loop-len.number _ (rw all at so_far.all_digits) (omega arith) (rw all at so_far.value)
    (ap not c.is_empty.ensures ∙ grind (arith, nat_tests)))
