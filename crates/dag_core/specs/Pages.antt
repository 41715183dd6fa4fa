-- What is on a page, and on which other pages it depends.
use Rattle.std.specs.Prelude.{Bool, false, not, ◌&&◌, ◌==◌, ℕ, List, filter, sum_by, Option, Some, None}
use Rattle.std.specs.List.{range_with_len, list_any}
use Rattle.dag_core.specs.declared.heads.Heads.{Heads}
use Rattle.dag_core.specs.Members.{group_at, cluster_at, all_clusters, home}

-- the page that has a cluster's triangles: that of its home
abbrev pub page_of_cluster : Heads → ℕ → ℕ
page_of_cluster heads c = (group_at heads (home heads c)).page

-- the clusters on a page, ascending
abbrev pub clusters_on : Heads → ℕ → List ℕ
clusters_on heads p = filter (λ c. page_of_cluster heads c == p) (all_clusters heads)

-- the number of triangles on a page
unfoldable pub tris_on : Heads → ℕ → ℕ
tris_on heads p = sum_by (λ c. (cluster_at heads c).tris) (clusters_on heads p)

-- the page has a terminal group
unfoldable pub has_terminal_on : Heads → ℕ → Bool
has_terminal_on heads p = list_any (λ group. group.terminal && group.page == p) heads.groups

-- the maker is a group of this page
abbrev pub is_maker_on : Heads → ℕ → Option ℕ → Bool
is_maker_on heads p None = false
is_maker_on heads p (Some m) = (group_at heads m).page == p

-- page q is another page than p, and has a cluster that a group of p made: q is resident wherever p is
unfoldable pub is_upper : Heads → ℕ → ℕ → Bool
is_upper heads p q =
    not (q == p) && list_any (λ c. is_maker_on heads p (cluster_at heads c).made && page_of_cluster heads c == q)
    (all_clusters heads)

-- the uppers of a page, the pages that it depends on directly, ascending
abbrev pub uppers_of : Heads → ℕ → List ℕ
uppers_of heads p = filter (is_upper heads p) (range_with_len 0 heads.pages)
