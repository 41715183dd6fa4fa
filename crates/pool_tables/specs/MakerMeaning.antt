-- When the table of makers says what the journal says of their counts of faults.
use Rattle.std.specs.Prelude.{◌≡◌, ℕ, Bool, true, false, List, Option, None, Some, slice_index_or}
use Rattle.journal.specs.declared.entries.Entry.{Entry}
use Rattle.journal.specs.declared.entries.What.{What}
use Rattle.journal.specs.declared.entries.What.TheVariants.{Fail}
use Rattle.pool_rules.specs.Rules.{last_after}
use Rattle.pool_tables.specs.MakerItems.{fault_of, has_maker}

-- each maker's count is the one after its last Fail, and each maker that loads a page has an item
pub record AreMakers (journal : List Entry) (loading : List (Option ℕ)) (table : List (ℕ × ℕ)) : Type 0 where
  pub faults : (maker : ℕ) → fault_of table maker ≡ last_after maker journal
  pub loaders : (page maker : ℕ) → slice_index_or loading page None ≡ Some maker → has_maker table maker ≡ true

abbrev pub is_fail : What → Bool
is_fail (Fail page before after) = true
is_fail _ = false
