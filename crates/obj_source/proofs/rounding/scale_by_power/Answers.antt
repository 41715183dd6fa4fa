use Rattle.std.proofs.Common.{sym, arith, refl}
use Rattle.std.proofs.lemmas.Int.{ints}
use Rattle.obj_source.proofs.RoundingLaws.{times_low_power, times_high_power}
use Rattle.obj_source.proofs.rounding.scale_by_power.Goals as goal

pub returns-then-power-gt-HIGHEST_POWER : goal.returns-then-power-gt-HIGHEST_POWER
returns-then-power-gt-HIGHEST_POWER c =
    sym (times_high_power c.args.is_negative c.args.steps c.args.power (omega (arith, ints)) c.requires.positive)

pub returns-then-power-lt-LOWEST_POWER : goal.returns-then-power-lt-LOWEST_POWER
returns-then-power-lt-LOWEST_POWER c =
    rw (times_low_power c.args.is_negative c.args.steps c.args.power (omega (arith, ints)) c.requires.step_limit) refl
