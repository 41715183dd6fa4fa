-- What a layout says of the pages: which there are, and which depends on which.
use Rattle.std.specs.Prelude.{◌≡◌, ◌==◌, ◌+◌, ◌^◌, ◌<◌, ◌≤◌, ◌&&◌, ℕ, Bool, true, List, [], ◌∷◌, length, IsTrue, nat_lt}
use Rattle.std.specs.Prelude.{nat_le, slice_index_or}
use Rattle.std.specs.List.{list_all, list_any, range_with_len}
use Rattle.geom_core.specs.declared.limits.TheConstants.{MAX_PAGES}
use Rattle.journal.specs.declared.layouts.Layout.{Layout}

-- the numbers of all pages, ascending
abbrev pub page_numbers : Layout → List ℕ
page_numbers layout = range_with_len 0 layout.pages

-- the uppers of a page: the pages that it directly depends on
abbrev pub uppers_of : Layout → ℕ → List ℕ
uppers_of layout page = slice_index_or layout.uppers page []

-- whether `upper` is one of the page's uppers
abbrev pub is_upper : Layout → ℕ → ℕ → Bool
is_upper layout upper page = list_any (λ u. u == upper) (uppers_of layout page)

-- whether numbers ascend strictly, the first being at least `low`
abbrev pub ascends_from : ℕ → List ℕ → Bool
ascends_from low [] = true
ascends_from low (n ∷ numbers) = nat_le low n && ascends_from (n + 1) numbers

abbrev pub ascends : List ℕ → Bool
ascends numbers = ascends_from 0 numbers

-- whether each of the numbers is below the limit
abbrev pub all_below : ℕ → List ℕ → Bool
all_below limit numbers = list_all (λ n. nat_lt n limit) numbers

-- 1 to MAX_PAGES pages, 1 to `pages` root pages, and `roots` to MAX_PAGES slots
pub record CountsFit (layout : Layout) : Type 0 where
  pub some_root : 1 ≤ layout.roots
  pub roots_are_pages : layout.roots ≤ layout.pages
  pub page_limit : layout.pages ≤ MAX_PAGES
  pub roots_fit : layout.roots ≤ layout.slots
  pub slot_limit : layout.slots ≤ MAX_PAGES

-- the uppers of a page ascend, each below the page
abbrev pub UppersFit : ℕ → List ℕ → Type 0
UppersFit page uppers = IsTrue (ascends uppers) × IsTrue (all_below page uppers)

-- a layout within its bounds, with a list of uppers for each page
pub record InBounds (layout : Layout) : Type 0 where
  pub counts : CountsFit layout
  pub list_a_page : length layout.uppers ≡ layout.pages
  pub uppers : (page : ℕ) → page < length layout.uppers → UppersFit page (uppers_of layout page)
