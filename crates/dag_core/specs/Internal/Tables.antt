-- The tables that the rules are judged by: of clusters, of groups and of pages.
use Rattle.std.specs.Prelude.{Bool, not, ◌&&◌, ◌||◌, nat_le, nat_lt, ℕ, List, length, map}
use Rattle.std.specs.List.{list_any, range_with_len}
use Rattle.dag_core.specs.declared.heads.Heads.{Heads}
use Rattle.dag_core.specs.Members.{all_clusters, cluster_at, home}
use Rattle.dag_core.specs.Pages.{has_terminal_on, is_maker_on, page_of_cluster, tris_on}
use Rattle.geom_core.specs.declared.limits.TheConstants.{PAGE_TRIANGLES}
use Rattle.dag_core.specs.Ranges.{is_count_to}
use Rattle.dag_core.specs.Rules.{has_made}

-- the home of each cluster
abbrev pub homes_of : Heads → List ℕ
homes_of heads = map (home heads) (all_clusters heads)

-- by group, whether it made a cluster
abbrev pub makers_of : Heads → List Bool
makers_of heads = map (has_made heads) (range_with_len 0 (length heads.groups))

-- the number of triangles on each page
abbrev pub page_tris_of : Heads → List ℕ
page_tris_of heads = map (tris_on heads) (range_with_len 0 heads.pages)

-- by page, whether it has a terminal group
abbrev pub terminal_pages_of : Heads → List Bool
terminal_pages_of heads = map (has_terminal_on heads) (range_with_len 0 heads.pages)

-- a group of the page made a cluster on a page of a greater number
unfoldable pub has_later_upper : Heads → ℕ → Bool
has_later_upper heads p =
    list_any (λ c. is_maker_on heads p (cluster_at heads c).made && nat_lt p (page_of_cluster heads c))
    (all_clusters heads)

-- by page, whether it has an upper of a greater number
abbrev pub later_uppers_of : Heads → List Bool
later_uppers_of heads = map (has_later_upper heads) (range_with_len 0 heads.pages)

-- what rule 5 says of a page, by its number of triangles, and whether it has a terminal group and a later upper
unfoldable pub is_bad_page : ℕ → ℕ → ℕ → Bool → Bool → Bool
is_bad_page roots p tris has_terminal has_later_upper =
    not (is_count_to PAGE_TRIANGLES tris) || nat_le roots p && has_terminal || has_later_upper
