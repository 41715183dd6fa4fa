use Rattle.std.proofs.Common.{◌≡◌, ◌∙◌, sym, ap, length, get_or, true, Some, arith}
use Rattle.std.proofs.Math.Nat.{pow-le-pow_right}
use Rattle.std.proofs.lemmas.List.{take_all}
use Rattle.std.specs.Char.{is_ascii_digit}
use Rattle.obj_source.proofs.DigitLaws.{digits_step, all_digits_step, digits_below_step, digits_fit, digit_is}
use Rattle.obj_source.proofs.ExponentLaws.{short_number_empty, short_number_long, short_number_other}
use Rattle.obj_source.proofs.ExponentLaws.{short_number_digits, empty_is, not_empty}
use Rattle.obj_source.proofs.decimals.number_of.Goals as goal
use Rattle.obj_source.proofs.decimals.number_of.Goals.{then-is_empty-via-then-is_empty}
use Rattle.obj_source.proofs.decimals.number_of.Goals.{then-is_empty-via-else-is_empty+then-word-gt-MOST_EXPONENT_DIGITS}

pub returns-then-is_empty-clause-number : goal.returns-then-is_empty-clause-number
returns-then-is_empty-clause-number c =
    elim c.then-is_empty.branch [
      | then-is_empty-via-then-is_empty w ↦ short_number_empty c.args.word.now
          (empty_is (length c.args.word.now) w.if-is_empty.ensures)
      | then-is_empty-via-else-is_empty+then-word-gt-MOST_EXPONENT_DIGITS w ↦
          short_number_long c.args.word.now (omega arith)
    ]

pub returns-then-not-is_ascii_digit-clause-number : goal.returns-then-not-is_ascii_digit-clause-number
returns-then-not-is_ascii_digit-clause-number c =
    short_number_other c.args.word.now c.loop-byte.byte-index (omega arith) (sym c.if-not-is_ascii_digit.ensures.value)

pub overflow_mul-number : goal.overflow_mul-number
overflow_mul-number c =
    let fits =
    digits_fit c.loop-byte.number 0 c.loop-byte.byte-index (length c.args.word.now) 9 c.loop-byte.invariant.2
    (omega arith) (omega arith) (omega arith) in
    omega arith

pub overflow_add-number : goal.overflow_add-number
overflow_add-number c =
    let digit =
    digit_is (get_or c.args.word.now c.loop-byte.byte-index 0) (sym c.if-not-is_ascii_digit.ensures.value) in
    let fits =
    digits_fit c.loop-byte.number c.from.result c.loop-byte.byte-index
    (length c.args.word.now) 9 c.loop-byte.invariant.2 (omega arith) (omega arith) (omega arith) in
    omega arith

pub loop-byte-preserved : goal.loop-byte-preserved
loop-byte-preserved c =
    let word = c.args.word.now in
    let i = c.loop-byte.byte-index in
    let is_digit : is_ascii_digit (get_or word i 0) ≡ true = sym c.if-not-is_ascii_digit.ensures.value in
    let digit = digit_is (get_or word i 0) is_digit in (
      all_digits_step word i (omega arith) c.loop-byte.invariant.0 is_digit,
      omega (arith, digits_step word i (omega arith) is_digit),
      digits_below_step c.loop-byte.number c.from.result i c.loop-byte.invariant.2 (omega arith),
    )

pub returns-clause-number : goal.returns-clause-number
returns-clause-number c =
    let whole = take_all c.loop-byte.byte-index c.args.word.now c.loop-byte-test.false in
    let digits = rw whole at c.loop-byte.invariant.0 in
    let value = rw whole at c.loop-byte.invariant.1 in
    ap Some value
    ∙ short_number_digits c.args.word.now (not_empty (length c.args.word.now) c.if-is_empty.ensures)
    (omega arith) digits

pub returns-clause-small : goal.returns-clause-small
returns-clause-small c =
    let most = pow-le-pow_right {n = 10} (omega arith) {i = c.loop-byte.byte-index} {j = 4} (omega arith) in
    omega arith
