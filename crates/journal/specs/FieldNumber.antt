-- The number of a field that may be `-`.
use Rattle.std.specs.Prelude.{ℕ, Option, None, Some}
use Rattle.journal.specs.declared.numbers.Field.{Field}
use Rattle.journal.specs.declared.numbers.Field.TheVariants.{Number, Dash}

-- the number, none for `-`
abbrev pub number_in : Field → Option ℕ
number_in (Number number) = Some number
number_in Dash = None
