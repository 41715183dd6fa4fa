-- The order in which pages may come to be evicted: the least recently used first, of pages that one entry used
-- the greatest number first.
use Rattle.std.specs.Prelude.{◌≡◌, ◌&&◌, ℕ, not, nat_lt, List, [], ◌∷◌, length, count_by}
use Rattle.std.specs.List.{AllByRecursion}
use Rattle.pool_rules.specs.Numbers.{is_among}
use Rattle.pool_tables.specs.Eviction.{ComesBefore}
use Rattle.pool_tables.specs.ListedPages.{ListedPages}
use Rattle.pool_tables.specs.PageRecords.{record_at, is_record_held}
use Rattle.pool_tables.specs.declared.page_record.PageRecord.{PageRecord}

-- each page comes before all pages after it
abbrev pub AreInOrder : (ℕ → ℕ) → List ℕ → Type 0
AreInOrder last_used [] = Unit {0}
AreInOrder last_used (page ∷ pages) = AllByRecursion (ComesBefore last_used page) pages × AreInOrder last_used pages

-- when the page was last used, by the records
abbrev pub used_at : List PageRecord → ℕ → ℕ
used_at records page = (record_at records page).last_used

-- the list is of the resident pages that are no root pages, in the order of use
pub record IsUseOrder (roots : ℕ) (records : List PageRecord) (order : ListedPages) : Type 0 where
  pub capacity : order.capacity ≡ length records
  pub listed : (page : ℕ) → is_among order.pages page ≡ ((record_at records page).resident && not (nat_lt page roots))
  pub ordered : AreInOrder (used_at records) order.pages

-- the count is of the pages that are resident or being loaded
abbrev pub IsHeldCount : List PageRecord → ℕ → Type 0
IsHeldCount records held = held ≡ count_by is_record_held records
