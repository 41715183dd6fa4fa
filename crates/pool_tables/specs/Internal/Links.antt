-- The links of a list of pages. They go in a circle through the pages and through `end`, a number that is no
-- page: the link after `end` is the first page, and the one before it the last.
--
--     end -> 4 -> 0 -> 7 -> end        next[end] = 4, next[4] = 0, next[0] = 7, next[7] = end
--     end <- 4 <- 0 <- 7 <- end        previous[4] = end, previous[0] = 4, ..
use Rattle.std.specs.Prelude.{◌≡◌, ◌≢◌, ◌==◌, ◌+◌, ◌<◌, ℕ, zero, suc, List, [], ◌∷◌, length, slice_index, if◌then◌else◌}
use Rattle.std.specs.List.{AllByRecursion}

-- the number is none of the list
abbrev pub Lacks : List ℕ → ℕ → Type 0
Lacks numbers number = AllByRecursion (λ n. n ≢ number) numbers

-- no number is twice in the list
abbrev pub AreApart : List ℕ → Type 0
AreApart [] = Unit {0}
AreApart (n ∷ numbers) = Lacks numbers n × AreApart numbers

-- by links to the next page: they go from `from` through the pages to `to`
abbrev pub Leads : List ℕ → ℕ → List ℕ → ℕ → Type 0
Leads next from [] to = slice_index next from ≡ to
Leads next from (page ∷ pages) to = (slice_index next from ≡ page) × Leads next page pages to

-- the links of both ways join the two
abbrev pub AreJoined : List ℕ → List ℕ → ℕ → ℕ → Type 0
AreJoined next previous from to = (slice_index next from ≡ to) × (slice_index previous to ≡ from)

-- the links of both ways go from `from` through the pages to `to`
abbrev pub AreLinked : List ℕ → List ℕ → ℕ → List ℕ → ℕ → Type 0
AreLinked next previous from [] to = AreJoined next previous from to
AreLinked next previous from (page ∷ pages) to =
    AreJoined next previous from page × AreLinked next previous page pages to

-- the pages that the links go through from `from` on until `end`, at most so many
abbrev pub pages_after : List ℕ → ℕ → ℕ → ℕ → List ℕ
pages_after next end zero from = []
pages_after next end (suc count) from =
    if slice_index next from == end then []
    else (slice_index next from ∷ pages_after next end count (slice_index next from))

-- a list of pages below `end`, none of them twice, that leads from `from` to `end`
pub record IsPath (next : List ℕ) (end from : ℕ) (pages : List ℕ) : Type 0 where
  pub links : length next ≡ end + 1
  pub start : from < length next
  pub leads : Leads next from pages end
  pub below : AllByRecursion (λ page. page < end) pages
  pub apart : AreApart pages

-- the whole list, in links of both ways
pub record IsRing (next previous : List ℕ) (end : ℕ) (pages : List ℕ) : Type 0 where
  pub next_len : length next ≡ end + 1
  pub previous_len : length previous ≡ end + 1
  pub linked : AreLinked next previous end pages end
  pub below : AllByRecursion (λ page. page < end) pages
  pub apart : AreApart pages
