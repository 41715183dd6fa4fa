-- What a contract sees of a list of pages in which no page is twice.
use Rattle.std.specs.Prelude.{◌==◌, ℕ, not, List, [], filter}

pub record ListedPages : Type 0 where
  -- the pages below this number may be in the list
  pub capacity : ℕ
  pub pages : List ℕ

abbrev pub no_pages : ℕ → ListedPages
no_pages capacity = record { capacity = capacity; pages = [] }

-- the pages but this one, in their order
abbrev pub without : ℕ → List ℕ → List ℕ
without page pages = filter (λ p. not (p == page)) pages
