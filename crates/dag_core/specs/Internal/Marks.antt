-- Marks on groups and pages, and the chains of clusters by the page of their maker.
use Rattle.std.specs.Prelude.{◌≡◌, Bool, true, false, ◌&&◌, ◌==◌, ℕ, zero, suc, List, length, map, filter, Option, Some}
use Rattle.std.specs.Prelude.{None, slice_index_or, if◌then◌else◌}
use Rattle.std.specs.List.{list_any, range_with_len}
use Rattle.std.specs.List.Sorted.{IsStrictlyIncreasing}
use Rattle.dag_core.specs.declared.heads.Heads.{Heads}
use Rattle.dag_core.specs.Members.{all_clusters, cluster_at, group_at}
use Rattle.dag_core.specs.Pages.{is_maker_on, is_upper, page_of_cluster}
use Rattle.dag_core.specs.PageSets.{AreIn, has_page}

-- the number is marked
abbrev pub is_marked : List Bool → ℕ → Bool
is_marked marks k = slice_index_or marks k false

-- the maker is a marked group
abbrev pub is_marked_maker : List Bool → Option ℕ → Bool
is_marked_maker marks None = false
is_marked_maker marks (Some maker) = is_marked marks maker

-- the marked numbers, ascending
abbrev pub marked_of : List Bool → List ℕ
marked_of marks = filter (is_marked marks) (range_with_len 0 (length marks))

-- a group of page p made a cluster on page q, which may be p
unfoldable pub is_made_onto : Heads → ℕ → ℕ → Bool
is_made_onto heads p q =
    list_any (λ c. is_maker_on heads p (cluster_at heads c).made && page_of_cluster heads c == q) (all_clusters heads)

-- the last of the first n clusters that a group of page p made
abbrev pub last_made : Heads → ℕ → ℕ → Option ℕ
last_made heads p zero = None
last_made heads p (suc n) = if is_maker_on heads p (cluster_at heads n).made then Some n else last_made heads p n

-- by page, the last cluster that a group of the page made
abbrev pub last_makes_of : Heads → List (Option ℕ)
last_makes_of heads = map (λ p. last_made heads p (length heads.clusters)) (range_with_len 0 heads.pages)

-- the page of a maker
abbrev pub maker_page : Heads → Option ℕ → Option ℕ
maker_page heads None = None
maker_page heads (Some maker) = Some (group_at heads maker).page

-- the entry of a page, if there is one
abbrev pub entry_of : List (Option ℕ) → Option ℕ → Option ℕ
entry_of entries None = None
entry_of entries (Some p) = slice_index_or entries p None

-- the cluster before c that was made from the page of c's maker, the last such one
abbrev pub made_before : Heads → ℕ → Option ℕ → Option ℕ
made_before heads c None = None
made_before heads c (Some maker) = last_made heads (group_at heads maker).page c

-- by cluster, the one before it in the chain
abbrev pub before_makes_of : Heads → List (Option ℕ)
before_makes_of heads = map (λ c. made_before heads c (cluster_at heads c).made) (all_clusters heads)

-- the pages have the marked ones and, with each page, its uppers; they are the least such set, ascending
pub record IsClosureOf (heads : Heads) (marks : List Bool) (pages : List ℕ) : Type 0 where
  pub marked : (p : ℕ) → is_marked marks p ≡ true → has_page pages p ≡ true
  pub uppers : (p q : ℕ) → has_page pages p ≡ true → is_upper heads p q ≡ true → has_page pages q ≡ true
  pub least : (others : List ℕ) → ((p : ℕ) → is_marked marks p ≡ true → has_page others p ≡ true) →
      ((p q : ℕ) → has_page others p ≡ true → is_upper heads p q ≡ true → has_page others q ≡ true) → AreIn pages others
  pub ascending : IsStrictlyIncreasing pages
