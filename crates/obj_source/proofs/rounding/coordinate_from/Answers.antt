use Rattle.std.proofs.Common.{ℤ, ◌*◌, sym, ap, ◌∙◌, arith}
use Rattle.std.proofs.lemmas.Int.{ints}
use Rattle.obj_source.specs.Numerals.{signed, times_power, in_grid}
use Rattle.obj_source.proofs.RoundingLaws.{coordinate_from_none, coordinate_from_far, scale_limit}
use Rattle.obj_source.proofs.rounding.coordinate_from.Goals as goal
use Rattle.obj_source.proofs.rounding.coordinate_from.Goals.{then-decimal-eq0-via-then-decimal-eq0}
use Rattle.obj_source.proofs.rounding.coordinate_from.Goals.{then-decimal-eq0-via-else-decimal-eq0+then-decimal-gt-MAX_DECIMAL_PLACES}

pub returns-then-decimal-eq0 : goal.returns-then-decimal-eq0
returns-then-decimal-eq0 c =
    let d = c.args.decimal in
    elim c.then-decimal-eq0.branch [
      | then-decimal-eq0-via-then-decimal-eq0 w ↦
          sym (coordinate_from_none c.args.scale d.is_negative d.digits d.behind d.exponent (omega arith))
      | then-decimal-eq0-via-else-decimal-eq0+then-decimal-gt-MAX_DECIMAL_PLACES w ↦
          sym (coordinate_from_far c.args.scale d.is_negative d.digits d.behind d.exponent (omega arith)
          (scale_limit c.args.scale c.requires.scale_range) (omega (arith, ints)) (omega arith))
    ]

pub returns : goal.returns
returns c =
    let d = c.args.decimal in
    c.scale_by_power.ensures
    ∙ rw (c.from.ensures, c.from-2.ensures) (
    ap (λ (p : ℤ). in_grid (times_power (signed d.is_negative (d.digits * c.args.scale)) p)) (omega (arith, ints)))
