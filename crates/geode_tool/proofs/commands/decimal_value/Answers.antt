use Rattle.std.proofs.Common.{arith, ◌+◌}
use Rattle.geode_tool.proofs.Numerals.{digit_range, digits_value-step, digits_value-small}
use Rattle.geode_tool.proofs.commands.decimal_value.Goals as goal

pub overflow_mul-number : goal.overflow_mul-number
overflow_mul-number c =
    omega (
      arith,
      digits_value-small c.args.digits.now c.loop-digit.digit-index c.requires.digits
          c.requires.length_limit,
    )

pub overflow_sub-digit : goal.overflow_sub-digit
overflow_sub-digit c =
    omega (arith, digit_range c.args.digits.now c.loop-digit.digit-index c.requires.digits c.loop-digit-test.true)

pub overflow_add-number : goal.overflow_add-number
overflow_add-number c =
    let step =
    digits_value-step c.args.digits.now c.loop-digit.digit-index c.loop-digit.number c.from.result c.requires.digits
    c.loop-digit-test.true c.loop-digit.invariant c.from.ensures in
    omega (
      arith,
      digits_value-small c.args.digits.now
          (c.loop-digit.digit-index + 1) c.requires.digits c.requires.length_limit,
    )

pub loop-digit-preserved : goal.loop-digit-preserved
loop-digit-preserved c =
    digits_value-step c.args.digits.now c.loop-digit.digit-index c.loop-digit.number c.from.result c.requires.digits
    c.loop-digit-test.true c.loop-digit.invariant c.from.ensures
