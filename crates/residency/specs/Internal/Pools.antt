-- What every pool keeps.
use Rattle.std.specs.Prelude.{◌+◌, ◌≤◌, ℕ, List, length}
use Rattle.journal.specs.declared.entries.Entry.{Entry}
use Rattle.journal.specs.declared.layouts.Layout.{Layout}
use Rattle.residency.specs.Internal.Tables.{AreLegalTables}
use Rattle.residency.specs.declared.tables.Tables.{Tables}

-- the tables are those of the journal, which is legal, and its vector has room for the spare entries
pub record IsPool (layout : Layout) (journal : List Entry) (capacity spare : ℕ) (tables : Tables) : Type 0 where
  pub past : AreLegalTables layout journal tables
  pub room : length journal + spare ≤ capacity
