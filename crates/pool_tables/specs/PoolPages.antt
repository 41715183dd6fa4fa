-- When the records of the pages agree with the state of the pool.
use Rattle.std.specs.Prelude.{◌≡◌, ◌==◌, ◌-◌, ◌&&◌, ◌||◌, ℕ, true, not, List, map, count_by, Option}
use Rattle.std.specs.List.{range_with_len}
use Rattle.std.specs.Option.{option_map}
use Rattle.journal.specs.declared.layouts.Layout.{Layout}
use Rattle.journal.specs.Layout.{is_upper}
use Rattle.pool_rules.specs.State.{State, is_resident, is_held}
use Rattle.pool_rules.specs.Victim.{is_pinned}
use Rattle.pool_tables.specs.Eviction.{is_in_snapshot}
use Rattle.pool_tables.specs.PageRecords.{PageRecords, record_at}
use Rattle.pool_tables.specs.declared.page_record.PageRecord.{PageRecord}

-- how many resident or loading pages that are no root pages depend on the page directly; on a page that is no
-- root page no root page depends
abbrev pub dependent_count : Layout → State → ℕ → ℕ
dependent_count layout s page =
    count_by (λ q. is_held s q && is_upper layout page q) (range_with_len layout.roots (layout.pages - layout.roots))

-- the number of the maker that is loading the page, if one is
abbrev pub loader_number : PageRecord → Option ℕ
loader_number r = option_map (λ maker. maker.0) r.loader

-- the records say what the state says of each page
pub record ArePagesOf (layout : Layout) (s : State) (table : PageRecords) : Type 0 where
  pub roots : table.roots ≡ layout.roots
  pub resident : map (λ (r : PageRecord). r.resident) table.records ≡ s.resident
  pub loading : map loader_number table.records ≡ s.loading
  pub last_used : map (λ (r : PageRecord). r.last_used) table.records ≡ s.last_used
  pub dependents : (page : ℕ) → (record_at table.records page).dependents ≡ dependent_count layout s page

-- the records and the last snapshot of a live frame tell which resident pages live frames pin
abbrev pub ArePinsOf : State → Option ℕ → List PageRecord → Type 0
ArePinsOf s snapshot records = (page : ℕ) → is_resident s page ≡ true →
    is_pinned s page
    ≡ (not ((record_at records page).pins == 0) || is_in_snapshot snapshot (record_at records page).installed_at)
