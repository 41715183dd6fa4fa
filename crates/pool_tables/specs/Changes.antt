-- What changes of many pages at once leave of each record.
use Rattle.std.specs.Prelude.{◌≡◌, ◌==◌, ◌+◌, ◌-◌, ℕ, Bool, true, false, List, length, count_by}
use Rattle.pool_rules.specs.Numbers.{is_among}
use Rattle.pool_tables.specs.PageRecords.{PageRecords, record_at}
use Rattle.pool_tables.specs.declared.page_record.PageRecord.{PageRecord}

-- the record of a page that is used at this count of entries, or is not used
abbrev pub used_if : Bool → ℕ → PageRecord → PageRecord
used_if true count r = record r { last_used = count }
used_if false count r = r

-- these pages, and no others, were used at this count of entries
pub record AreUsed (count : ℕ) (pages : List ℕ) (old new : PageRecords) : Type 0 where
  pub roots : new.roots ≡ old.roots
  pub len : length new.records ≡ length old.records
  pub records : (page : ℕ) →
      record_at new.records page ≡ used_if (is_among pages page) count (record_at old.records page)

-- how often the number is in the list
abbrev pub times : List ℕ → ℕ → ℕ
times numbers number = count_by (λ n. n == number) numbers

-- each record is changed by how often its page is among these
pub record AreChanged (change : ℕ → PageRecord → PageRecord) (pages : List ℕ) (old new : PageRecords) : Type 0 where
  pub roots : new.roots ≡ old.roots
  pub len : length new.records ≡ length old.records
  pub records : (page : ℕ) → record_at new.records page ≡ change (times pages page) (record_at old.records page)

abbrev pub more_dependents : ℕ → PageRecord → PageRecord
more_dependents count r = record r { dependents = r.dependents + count }

abbrev pub fewer_dependents : ℕ → PageRecord → PageRecord
fewer_dependents count r = record r { dependents = r.dependents - count }

abbrev pub more_pins : ℕ → PageRecord → PageRecord
more_pins count r = record r { pins = r.pins + count }

abbrev pub fewer_pins : ℕ → PageRecord → PageRecord
fewer_pins count r = record r { pins = r.pins - count }

-- each page has one dependent more for each time that it is among these
abbrev pub HaveMoreDependents : List ℕ → PageRecords → PageRecords → Type 0
HaveMoreDependents uppers old new = AreChanged more_dependents uppers old new

abbrev pub HaveFewerDependents : List ℕ → PageRecords → PageRecords → Type 0
HaveFewerDependents uppers old new = AreChanged fewer_dependents uppers old new
