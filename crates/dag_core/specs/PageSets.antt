-- Sets of pages, as lists of their numbers: which are closed, the least closed one, and what depends on what.
use Rattle.std.specs.Prelude.{Bool, false, not, ◌||◌, ◌==◌, ℕ, zero, suc, ◌<◌, List, map, filter, IsTrue}
use Rattle.std.specs.List.{list_any, range_with_len}
use Rattle.std.specs.List.Sorted.{IsStrictlyIncreasing}
use Rattle.geom_core.specs.declared.views.Lens.{Lens}
use Rattle.dag_core.specs.declared.heads.Heads.{Heads}
use Rattle.dag_core.specs.Coarse.{is_coarse_group}
use Rattle.dag_core.specs.Pages.{is_upper, uppers_of}

-- the list has this page
abbrev pub has_page : List ℕ → ℕ → Bool
has_page pages p = list_any (λ q. q == p) pages

-- each page of the one list is in the other
abbrev pub AreIn : List ℕ → List ℕ → Type 0
AreIn others pages = (p : ℕ) → IsTrue (has_page others p) → IsTrue (has_page pages p)

-- a set of pages is closed: it has the root pages and, with each page, the page's uppers
pub record IsClosed (heads : Heads) (pages : List ℕ) : Type 0 where
  pub roots : (p : ℕ) → p < heads.roots → IsTrue (has_page pages p)
  pub uppers : (p q : ℕ) → IsTrue (has_page pages p) → IsTrue (is_upper heads p q) → IsTrue (has_page pages q)

-- the least closed set that has the seeds, ascending: each closed set that has them has all of its pages
pub record IsLeastClosed (heads : Heads) (seeds pages : List ℕ) : Type 0 where
  pub closed : IsClosed heads pages
  pub seeded : AreIn seeds pages
  pub least : (others : List ℕ) → IsClosed heads others → AreIn seeds others → AreIn pages others
  pub ascending : IsStrictlyIncreasing pages

-- the pages of the coarse groups, in the groups' order; a page may be in the list several times
abbrev pub coarse_pages : Heads → Lens → List ℕ
coarse_pages heads lens = map (λ group. group.page) (filter (is_coarse_group lens) heads.groups)

-- the pages that a lens needs: the least closed set with the pages of all coarse groups
abbrev pub IsNeed : Heads → Lens → List ℕ → Type 0
IsNeed heads lens pages = IsLeastClosed heads (coarse_pages heads lens) pages

-- the needed pages that aren't resident, in the order of the needed ones
abbrev pub missing_of : List ℕ → List ℕ → List ℕ
missing_of need resident = filter (λ p. not (has_page resident p)) need

-- page q is an upper of p, or of an upper of p, and so on, by at most this many steps
abbrev pub is_above : ℕ → Heads → ℕ → ℕ → Bool
is_above zero heads p q = false
is_above (suc steps) heads p q = list_any (λ u. u == q || is_above steps heads u q) (uppers_of heads p)

-- the pages that a page depends on, directly or by others, ascending: those that it reaches by at most as many steps as
-- there
-- are pages
abbrev pub above_of : Heads → ℕ → List ℕ
above_of heads p = filter (is_above heads.pages heads p) (range_with_len 0 heads.pages)
