-- What a contract sees of the table of makers: a count of faults for each maker that took a page.
use Rattle.std.specs.Prelude.{ℕ, Bool, List, Option, is_some}
use Rattle.std.specs.BTreeMap.{is_at}
use Rattle.std.specs.Map.{lookup}
use Rattle.std.specs.Option.{unwrap_or}
use Rattle.std.specs.Ordering.{nat_cmp}

-- the maker's item, if it has one
abbrev pub fault_in : List (ℕ × ℕ) → ℕ → Option ℕ
fault_in items maker = lookup (is_at (nat_cmp maker)) items

-- whether the maker has an item
abbrev pub has_maker : List (ℕ × ℕ) → ℕ → Bool
has_maker items maker = is_some (fault_in items maker)

-- the maker's last count of faults; 0 if it has none
abbrev pub fault_of : List (ℕ × ℕ) → ℕ → ℕ
fault_of items maker = unwrap_or (fault_in items maker) 0
