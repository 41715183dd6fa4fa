use Rattle.std.proofs.Common.{arith, rules, sym, ◌∙◌}
use Rattle.view_camera.proofs.CameraRanges.{first_outside-hit, first_outside-miss, first_outside-end}
use Rattle.view_camera.proofs.number_ranges.first_out_of_range.Goals as goal

pub returns-then-is_outside : goal.returns-then-is_outside
returns-then-is_outside c =
    sym (first_outside-hit c.args.ranges.now c.args.numbers.now c.loop-field.field c.is_outside.result
    c.told-ranges c.told-numbers c.loop-field-test.true (search rules) c.is_outside.ensures c.if-is_outside.true)
    ∙ c.loop-field.invariant

pub loop-field-preserved : goal.loop-field-preserved
loop-field-preserved c =
    sym (first_outside-miss c.args.ranges.now c.args.numbers.now c.loop-field.field c.is_outside.result
    c.told-ranges c.told-numbers c.loop-field-test.true (search rules) c.is_outside.ensures c.if-is_outside.false)
    ∙ c.loop-field.invariant

pub returns : goal.returns
returns c =
    sym (first_outside-end c.args.ranges.now c.args.numbers.now c.loop-field.field c.told-ranges (omega arith))
    ∙ c.loop-field.invariant
