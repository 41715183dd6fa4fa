-- What a contract sees of the table of pages: a record by page.
use Rattle.std.specs.Prelude.{◌≡◌, ◌<◌, ◌⊎◌, ℕ, Bool, false, nat_lt, List, length, map, filter, None, is_some, ◌||◌}
use Rattle.std.specs.Prelude.{slice_index_or, slice_set}
use Rattle.std.specs.List.{range_with_len}
use Rattle.pool_tables.specs.declared.page_record.PageRecord.{PageRecord}

pub record PageRecords : Type 0 where
  -- the number of root pages
  pub roots : ℕ
  -- by page
  pub records : List PageRecord

-- the record of a page of which nothing happened
abbrev pub no_record : PageRecord
no_record = record {
  last_used = 0;
  installed_at = 0;
  load_ended_at = 0;
  pins = 0;
  dependents = 0;
  loader = None;
  resident = false;
}

-- the record of a page after no entry
abbrev pub opening_record : ℕ → ℕ → PageRecord
opening_record roots page = record no_record { resident = nat_lt page roots }

-- the records after no entry: the root pages are resident
abbrev pub opening_records : ℕ → ℕ → PageRecords
opening_records pages roots = record { roots = roots; records = map (opening_record roots) (range_with_len 0 pages) }

-- the page's record; `no_record` if there is no such page
abbrev pub record_at : List PageRecord → ℕ → PageRecord
record_at records page = slice_index_or records page no_record

-- whether the page is resident or being loaded
abbrev pub is_record_held : PageRecord → Bool
is_record_held r = r.resident || is_some r.loader

-- the table with another record of the page
abbrev pub with_record : PageRecords → ℕ → PageRecord → PageRecords
with_record table page r = record table { records = slice_set table.records page r }

-- the resident pages, ascending
abbrev pub residents : List PageRecord → List ℕ
residents records = filter (λ page. (record_at records page).resident) (range_with_len 0 (length records))

-- page p was last used before this count of entries, or with it and has a greater number than this page
abbrev pub IsUsedBefore : ℕ → ℕ → ℕ → ℕ → Type 0
IsUsedBefore count page p last_used = (last_used < count) ⊎ ((last_used ≡ count) × (page < p))
