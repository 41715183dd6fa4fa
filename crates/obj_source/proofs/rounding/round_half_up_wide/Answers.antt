use Rattle.obj_source.proofs.Powers.{power_some}
use Rattle.obj_source.proofs.RoundingLaws.{nearest_signed}
use Rattle.obj_source.proofs.rounding.round_half_up_wide.Goals as goal

pub returns : goal.returns
returns c =
    rw (c.wide_power_of_ten-unit.ensures.power, c.from.ensures)
    (nearest_signed c.args.is_negative c.args.steps _ (power_some c.args.places))
