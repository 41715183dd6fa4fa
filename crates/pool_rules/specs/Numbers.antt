-- Whether an optional number is this number, and whether a number is one of a list.
use Rattle.std.specs.Prelude.{◌==◌, ℕ, List, Bool, nat_eq, Option, Some}
use Rattle.std.specs.List.{list_any}
use Rattle.std.specs.Option.{option_eq}

-- whether the option holds this number
abbrev pub holds : Option ℕ → ℕ → Bool
holds option number = option_eq nat_eq option (Some number)

-- whether the number is one of these
abbrev pub is_among : List ℕ → ℕ → Bool
is_among numbers number = list_any (λ n. n == number) numbers
