-- The table holds the powers of ten, entry by entry.
use Rattle.std.proofs.Common.{◌≡◌, ℕ, ◌^◌, ◌<◌, true, eqb, get_or, refl, arith}
use Rattle.std.proofs.lemmas.Bool.{agree_below_at, eqb-true}
use Rattle.obj_source.specs.declared.rounding.TheConstants.{POWERS}
use Rattle.obj_source.proofs.Powers.{power_some, power_small}
use Rattle.obj_source.proofs.rounding.power_of_ten.Goals as goal

power : (k : ℕ) → k < 19 → get_or POWERS k 0 ≡ 10 ^ k
power k h =
    eqb-true _ _ (agree_below_at (λ (k : ℕ). eqb (get_or POWERS k 0) (10 ^ k)) (λ (k : ℕ). true) 19 k refl h)

pub returns : goal.returns
returns c = record {
  power = power c.args.exponent c.requires;
  positive = rw (power c.args.exponent c.requires) (power_some c.args.exponent);
  power_limit = rw (power c.args.exponent c.requires) (power_small c.args.exponent 18 (omega arith));
}
