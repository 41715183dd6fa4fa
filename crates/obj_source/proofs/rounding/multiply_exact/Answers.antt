use Rattle.std.proofs.Common.{◌≤◌, ◌^◌, ◌*◌, ap, sym, arith, ◌∙◌}
use Rattle.std.proofs.Math.Nat.{mul-le-mul}
use Rattle.obj_source.specs.Numerals.{in_grid}
use Rattle.obj_source.proofs.Powers.{power_small}
use Rattle.obj_source.proofs.RoundingLaws.{signed_mul}
use Rattle.obj_source.proofs.rounding.multiply_exact.Goals as goal

pub overflow_mul-size : goal.overflow_mul-size
overflow_mul-size c =
    let small : 10 ^ c.args.power ≤ 10 ^ 6 = power_small c.args.power 6 c.requires.power in
    let fewer : c.from.result ≤ 10 ^ 6 = rw (c.from.ensures, c.power_of_ten.ensures.power) small in
    let steps : c.args.steps ≤ 2 ^ 76 = omega arith in
    let both : c.args.steps * c.from.result ≤ 2 ^ 76 * 10 ^ 6 = mul-le-mul steps fewer in
    omega arith

pub returns : goal.returns
returns c =
    c.in_grid.ensures
    ∙ rw (c.from.ensures, c.power_of_ten.ensures.power)
    (ap in_grid (sym (signed_mul c.args.is_negative c.args.steps (10 ^ c.args.power))))
