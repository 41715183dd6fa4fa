-- The three table entries are the spread bits of seven bits each.
use Rattle.std.proofs.Common.{◌/◌, ◌%◌, arith}
use Rattle.partition.proofs.Spreading.{spread_bits_of_sevens, table_at, table-below}
use Rattle.partition.proofs.keys.spread.Goals as goal

pub overflow_mul-result : goal.overflow_mul-result
overflow_mul-result c = omega (arith, table-below (c.args.bits / 128 % 128) (omega arith))

pub overflow_add-result : goal.overflow_add-result
overflow_add-result c =
    omega (arith, table-below (c.args.bits % 128) (omega arith), table-below (c.args.bits / 128 % 128) (omega arith))

pub overflow_mul-result-2 : goal.overflow_mul-result-2
overflow_mul-result-2 c = omega (arith, table-below (c.args.bits / 128 / 128) (omega arith))

pub overflow_add-result-2 : goal.overflow_add-result-2
overflow_add-result-2 c =
    omega (
      arith,
      table-below (c.args.bits % 128) (omega arith),
      table-below (c.args.bits / 128 % 128) (omega arith),
      table-below (c.args.bits / 128 / 128) (omega arith),
    )

pub returns-clause-spread : goal.returns-clause-spread
returns-clause-spread c =
    omega (
      arith,
      spread_bits_of_sevens c.args.bits c.requires,
      table_at (c.args.bits % 128) (omega arith),
      table_at (c.args.bits / 128 % 128) (omega arith),
      table_at (c.args.bits / 128 / 128) (omega arith),
    )

pub returns-clause-spread_limit : goal.returns-clause-spread_limit
returns-clause-spread_limit c =
    omega (
      arith,
      table-below (c.args.bits % 128) (omega arith),
      table-below (c.args.bits / 128 % 128) (omega arith),
      table-below (c.args.bits / 128 / 128) (omega arith),
    )
