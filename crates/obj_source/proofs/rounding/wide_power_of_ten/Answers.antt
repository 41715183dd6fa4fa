use Rattle.std.proofs.Common.{arith, ◌≤◌, ◌^◌}
use Rattle.obj_source.proofs.Powers.{power_some, power_small}
use Rattle.obj_source.proofs.rounding.wide_power_of_ten.Goals as goal

pub pow-requires : goal.pow-requires
pow-requires c = let h : 10 ^ c.args.exponent ≤ 10 ^ 23 = power_small c.args.exponent 23 (omega arith) in omega arith

pub returns : goal.returns
returns c = record {
  power = c.pow.ensures;
  positive = rw c.pow.ensures (power_some c.args.exponent);
  power_limit = rw c.pow.ensures (power_small c.args.exponent 23 (omega arith));
}
