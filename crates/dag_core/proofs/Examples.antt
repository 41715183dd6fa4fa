-- Worked examples of the definitions, computed by the checker: the two squares, and the two squares with one change.
use Rattle.std.specs.Prelude.{◌≡◌, ℕ, true, false, None, Some, List, [], ◌∷◌, ◌++◌, map, filter, refl}
use Rattle.std.specs.List.{range_with_len}
use Rattle.geom_core.specs.declared.points.Pt.{Pt}
use Rattle.geom_core.specs.declared.triangles.Tagged.{Tagged}
use Rattle.geom_core.specs.Boxes.{is_under, holds_box}
use Rattle.geom_core.specs.Distance.{distance}
use Rattle.geom_core.specs.EdgeSum.{same_point, edges_of, edge_count, edge_sum}
use Rattle.geom_core.specs.TaggedLists.{tris_of}
use Rattle.dag_core.specs.declared.groups.Group.{Group}
use Rattle.dag_core.specs.declared.cluster_heads.ClusterHead.{ClusterHead}
use Rattle.dag_core.specs.declared.heads.Heads.{Heads}
use Rattle.dag_core.specs.declared.dags.Dag.{Dag}
use Rattle.dag_core.specs.Members.{members, home, made_by}
use Rattle.dag_core.specs.Pages.{clusters_on, tris_on, has_terminal_on, is_upper, uppers_of}
use Rattle.dag_core.specs.Ranges.{is_count_in_range, is_error, is_group_box, is_page, are_members, is_group_or_none}
use Rattle.dag_core.specs.Ranges.{is_cluster_size}
use Rattle.dag_core.specs.declared.counts.Counts.{Counts}
use Rattle.dag_core.specs.Rules.{members_before, breaks_members, breaks_maker, has_made, breaks_terminal, is_outgrown}
use Rattle.dag_core.specs.Rules.{breaks_bound, breaks_page, breaks}
use Rattle.dag_core.specs.Triangles.{leaves, source_of, HasTris}
use Rattle.dag_core.specs.TriangleRules.{have_same_sums, breaks_sums, breaks_source, is_near, is_near_source}
use Rattle.dag_core.specs.TriangleRules.{breaks_corners, dag_breaks}
use Rattle.dag_core.proofs.TwoSquares.{flat_point, sourced, corner_a, corner_b, corner_c, corner_d, middle, fine_square}
use Rattle.dag_core.proofs.TwoSquares.{coarse_square, whole, left, right, made_of_two, leaf_of_four}
use Rattle.dag_core.proofs.TwoSquares.{two_squares_clusters, two_squares_heads, two_squares}

abbrev heads_of : List Group → List ClusterHead → Heads
heads_of groups clusters = record { groups = groups; clusters = clusters; pages = 3; roots = 1; sources = 8 }

-- the places below a limit at which a rule is broken
abbrev broken_at : ℕ → ℕ → Heads → List ℕ
broken_at rule limit heads = filter (breaks rule heads) (range_with_len 0 limit)

-- the places below 6 at which rules 1 to 5 are broken, as lists: more than there are groups, clusters or pages
abbrev all_broken : Heads → List (List ℕ)
all_broken heads = map (λ rule. broken_at rule 6 heads) (range_with_len 1 5)

abbrev nowhere : List ℕ
nowhere = []

-- ---- members, homes, pages

pub members_of_each : map (members two_squares_heads) (range_with_len 0 3) ≡ (0 ∷ 1 ∷ []) ∷ (2 ∷ []) ∷ (3 ∷ []) ∷ []
members_of_each = refl

pub homes_of_each : map (home two_squares_heads) (range_with_len 0 4) ≡ 0 ∷ 0 ∷ 1 ∷ 2 ∷ []
unfolding home
homes_of_each = refl

pub made_by_each : map (made_by two_squares_heads) (range_with_len 0 3) ≡ [] ∷ (0 ∷ []) ∷ (1 ∷ []) ∷ []
made_by_each = refl

pub clusters_on_each : map (clusters_on two_squares_heads) (range_with_len 0 3) ≡ (0 ∷ 1 ∷ []) ∷ (2 ∷ []) ∷
    (3 ∷ []) ∷ []
unfolding home
clusters_on_each = refl

pub tris_on_each : map (tris_on two_squares_heads) (range_with_len 0 4) ≡ 4 ∷ 4 ∷ 4 ∷ 0 ∷ []
unfolding home tris_on
tris_on_each = refl

pub uppers_of_each : map (uppers_of two_squares_heads) (range_with_len 0 3) ≡ [] ∷ (0 ∷ []) ∷ (0 ∷ []) ∷ []
unfolding home is_upper
uppers_of_each = refl

-- ---- the two squares break no rule of the heads

pub two_squares_break_nothing : all_broken two_squares_heads ≡ nowhere ∷ nowhere ∷ nowhere ∷ nowhere ∷ nowhere ∷ []
unfolding home tris_on has_terminal_on is_upper members_before breaks_members breaks_maker has_made breaks_terminal
    is_outgrown breaks_bound breaks_page is_under holds_box
two_squares_break_nothing = refl

-- ---- one change each

-- the two squares with these groups
abbrev grouped : Group → Group → Group → Heads
grouped a b c = heads_of (a ∷ b ∷ c ∷ []) two_squares_clusters

-- the two squares with these makers of clusters 0 and 1
abbrev made_by_groups : ℕ → ℕ → Heads
made_by_groups a b =
    heads_of (whole ∷ left ∷ right ∷ []) (made_of_two a ∷ made_of_two b ∷ leaf_of_four ∷ leaf_of_four ∷ [])

-- rule 1: a group's members begin before those of the group before it end
pub first_too_early : broken_at 1 6 (grouped whole (record left { first = 1 }) right) ≡ 1 ∷ []
unfolding members_before breaks_members
first_too_early = refl

-- rule 1 at the number of groups: one member too many
pub one_member_too_many : broken_at 1 6 (grouped whole left (record right { count = 2 })) ≡ 3 ∷ []
unfolding members_before breaks_members
one_member_too_many = refl

-- rule 2: the home itself as the maker, and a group before it
pub made_by_its_home : broken_at 2 6 (made_by_groups 0 2) ≡ 0 ∷ []
unfolding home breaks_maker
made_by_its_home = refl

pub leaf_made_by_an_earlier_group : broken_at 2 6 (heads_of (whole ∷ left ∷ right ∷ [])
    (made_of_two 1 ∷ made_of_two 2 ∷ record { made = Some 0; tris = 4 } ∷ leaf_of_four ∷ [])) ≡ 2 ∷ []
unfolding home breaks_maker
leaf_made_by_an_earlier_group = refl

-- rule 3: a terminal group that made a cluster, and a group that isn't and made none
pub terminal_group_made_one : broken_at 3 6 (grouped whole (record left { terminal = true }) right) ≡ 1 ∷ []
unfolding has_made breaks_terminal
terminal_group_made_one = refl

pub group_made_none : broken_at 3 6 (made_by_groups 1 1) ≡ 2 ∷ []
unfolding has_made breaks_terminal
group_made_none = refl

-- rule 4: the maker's box reaches out of the home's
pub box_reaches_out : broken_at 4 6 (grouped whole
    (record left { cube = record { lo = corner_a 0; hi = flat_point 25 8 } }) right) ≡ 0 ∷ []
unfolding home is_outgrown breaks_bound is_under holds_box
box_reaches_out = refl

-- a chain of three groups of one cluster each, on pages 0, 1 and 2, with these errors
abbrev pub chain_of : ℕ → ℕ → ℕ → Heads
chain_of a b c =
    heads_of (record whole { error = a; count = 1 } ∷ record left { error = b; first = 1 } ∷ record left
    { error = c; page = 2; first = 2 } ∷ [])
    (made_of_two 1 ∷ made_of_two 2 ∷ leaf_of_four ∷ [])

-- rule 4: an error greater than the home's; an equal one is none, nor any error under a terminal home
pub error_grows_downwards : broken_at 4 6 (chain_of 0 4 5) ≡ 1 ∷ []
unfolding home is_outgrown breaks_bound is_under holds_box
error_grows_downwards = refl

pub equal_errors : broken_at 4 6 (chain_of 0 4 4) ≡ nowhere
unfolding home is_outgrown breaks_bound is_under holds_box
equal_errors = refl

pub terminal_home_of_less_error : all_broken (chain_of 5 7 7) ≡ nowhere ∷ nowhere ∷ nowhere ∷ nowhere ∷ nowhere ∷ []
unfolding home tris_on has_terminal_on is_upper members_before breaks_members breaks_maker has_made breaks_terminal
    is_outgrown breaks_bound breaks_page is_under holds_box
terminal_home_of_less_error = refl

-- rule 5: no triangle on page 1
pub page_without_triangles : broken_at 5 6 (grouped whole (record left { page = 0 }) right) ≡ 1 ∷ []
unfolding home tris_on has_terminal_on is_upper breaks_page
page_without_triangles = refl

-- rule 5: both sides of the most triangles
abbrev one_page : ℕ → Heads
one_page tris =
    record {
      groups = record whole { count = 1 } ∷ [];
      clusters = record { made = None; tris = tris } ∷ [];
      pages = 1;
      roots = 1;
      sources = 1;
    }

pub page_of_1638 : broken_at 5 3 (one_page 1638) ≡ nowhere
unfolding home tris_on has_terminal_on is_upper breaks_page
page_of_1638 = refl

pub page_of_1639 : broken_at 5 3 (one_page 1639) ≡ 0 ∷ []
unfolding home tris_on has_terminal_on is_upper breaks_page
page_of_1639 = refl

-- rule 5: a terminal group on page 1; where page 1 is a root page it may be there, as may a group that isn't terminal
pub terminal_group_on_page_1 : broken_at 5 6
    (record two_squares_heads { groups = record whole { page = 1 } ∷ record left { page = 0 } ∷ right ∷ [] }) ≡ 0 ∷ 1
    ∷ []
unfolding home tris_on has_terminal_on is_upper breaks_page
terminal_group_on_page_1 = refl

pub two_root_pages : broken_at 5 6 (record two_squares_heads { roots = 2 }) ≡ nowhere
unfolding home tris_on has_terminal_on is_upper breaks_page
two_root_pages = refl

-- rule 5: an upper above its page, one page up and two pages up
pub upper_one_page_up : broken_at 5 6 (record two_squares_heads
    { groups = record whole { page = 1 } ∷ record left { page = 0 } ∷ right ∷ []; roots = 2 }) ≡ 0 ∷ []
unfolding home tris_on has_terminal_on is_upper breaks_page
upper_one_page_up = refl

pub upper_two_pages_up : broken_at 5 6 (record two_squares_heads
    { groups = record whole { page = 2 } ∷ record left { page = 0 } ∷ record right { page = 1 } ∷ []; roots = 3 }) ≡ 0 ∷
    1 ∷ []
unfolding home tris_on has_terminal_on is_upper breaks_page
upper_two_pages_up = refl

-- ---- ranges, both sides of each bound

pub counts_of_groups : map (λ n. is_count_in_range
    (record { groups = n; clusters = 1; pages = 1; roots = 1; sources = 1 }) 0) (0 ∷ 1 ∷ 8388608 ∷ 8388609 ∷ []) ≡
    false ∷ true ∷ true ∷ false ∷ []
counts_of_groups = refl

pub counts_of_roots : map (λ n. is_count_in_range
    (record { groups = 1; clusters = 1; pages = 3; roots = n; sources = 1 }) 3) (0 ∷ 1 ∷ 3 ∷ 4 ∷ []) ≡
    false ∷ true ∷ true ∷ false ∷ []
counts_of_roots = refl

pub counts_of_sources : map (λ n. is_count_in_range
    (record { groups = 1; clusters = 1; pages = 1; roots = 1; sources = n }) 4) (0 ∷ 1 ∷ 1048576 ∷ 1048577 ∷ []) ≡
    false ∷ true ∷ true ∷ false ∷ []
counts_of_sources = refl

pub errors : map is_error (0 ∷ 2147483647 ∷ 2147483648 ∷ []) ≡ true ∷ true ∷ false ∷ []
errors = refl

abbrev three_pages : Counts
three_pages = record { groups = 3; clusters = 4; pages = 3; roots = 1; sources = 8 }

pub page_numbers : map (is_page three_pages) (0 ∷ 2 ∷ 3 ∷ []) ≡ true ∷ true ∷ false ∷ []
page_numbers = refl

pub member_counts : map (are_members three_pages 4) (0 ∷ 1 ∷ 8 ∷ 9 ∷ []) ≡ false ∷ true ∷ true ∷ false ∷ []
member_counts = refl

pub first_members : map (λ first. are_members three_pages first 1) (0 ∷ 4 ∷ 5 ∷ []) ≡ true ∷ true ∷ false ∷ []
first_members = refl

pub makers : map (is_group_or_none three_pages) (None ∷ Some 0 ∷ Some 2 ∷ Some 3 ∷ []) ≡ true ∷ true ∷ true ∷ false ∷ []
makers = refl

pub cluster_sizes : map is_cluster_size (0 ∷ 1 ∷ 128 ∷ 129 ∷ []) ≡ false ∷ true ∷ true ∷ false ∷ []
cluster_sizes = refl

-- a box of one point, one at the end of the range, one beyond it, one whose low corner is above its high one
pub boxes : map is_group_box (
    record { lo = corner_a 0; hi = corner_a 0 } ∷ record { lo = corner_a 0; hi = flat_point 1048576 0 }
    ∷ record { lo = corner_a 0; hi = flat_point 1048577 0 } ∷ record { lo = corner_b 0; hi = corner_a 0 } ∷ [])
    ≡ true ∷ true ∷ false ∷ false ∷ []
unfolding is_under
boxes = refl

-- ---- the rules of triangles

-- the places below 9 at which each rule of triangles is broken: more than there are groups, sources or clusters
abbrev dag_broken : Dag → List (List ℕ)
dag_broken dag = map (λ rule. filter (dag_breaks rule dag) (range_with_len 0 9)) (range_with_len 6 3)

abbrev dag_with : List (List Tagged) → Dag
dag_with tris = record { heads = two_squares_heads; tris = tris }

pub two_squares_are_sound : dag_broken two_squares ≡ nowhere ∷ nowhere ∷ nowhere ∷ []
unfolding have_same_sums breaks_sums breaks_source is_near is_near_source breaks_corners distance same_point edges_of
    edge_count edge_sum
two_squares_are_sound = refl

pub two_squares_leaves : leaves two_squares_heads ≡ 2 ∷ 3 ∷ []
two_squares_leaves = refl

pub two_squares_source : source_of two_squares ≡ tris_of (fine_square 0 0 ++ fine_square 16 4)
two_squares_source = refl

pub two_squares_have_tris : HasTris two_squares
two_squares_have_tris = refl

-- the last source 7 set to 6: source 6 twice, source 7 never; rule 7 comes before rule 8, which asks for one of each
abbrev seven_set_to_six : Dag
seven_set_to_six = dag_with (coarse_square 0 0 ∷ coarse_square 16 4 ∷ fine_square 0 0
    ∷ (sourced (corner_a 16) (corner_b 16) (middle 16) 4 ∷ sourced (corner_b 16) (corner_c 16) (middle 16) 5
    ∷ sourced (corner_c 16) (corner_d 16) (middle 16) 6 ∷ sourced (corner_d 16) (corner_a 16) (middle 16) 6 ∷ []) ∷ [])

pub source_7_set_to_6 : map (λ rule. filter (dag_breaks rule seven_set_to_six) (range_with_len 0 9)) (6 ∷ 7 ∷ [])
    ≡ nowhere ∷ (6 ∷ 7 ∷ []) ∷ []
unfolding have_same_sums breaks_sums breaks_source same_point edges_of edge_count edge_sum
source_7_set_to_6 = refl

-- corner B of cluster 0 moved by 5: the rim differs from the leaf's, and 5 is more than the maker's error 4
pub corner_moved_by_5 : dag_broken (dag_with (
    (sourced (flat_point 13 0) (corner_c 0) (corner_a 0) 1 ∷ sourced (corner_c 0) (corner_d 0) (corner_a 0) 2 ∷ [])
    ∷ coarse_square 16 4 ∷ fine_square 0 0 ∷ fine_square 16 4 ∷ []))
    ≡ (1 ∷ []) ∷ nowhere ∷ (0 ∷ []) ∷ []
unfolding have_same_sums breaks_sums breaks_source is_near is_near_source breaks_corners distance same_point edges_of
    edge_count edge_sum
corner_moved_by_5 = refl

-- the square whose low corner is the origin, round this point
abbrev fan_round : Pt → List Tagged
fan_round m = sourced (corner_a 0) (corner_b 0) m 0 ∷ sourced (corner_b 0) (corner_c 0) m 1
    ∷ sourced (corner_c 0) (corner_d 0) m 2 ∷ sourced (corner_d 0) (corner_a 0) m 3 ∷ []

-- the leaf's middle moved keeps all sums; moved by 1 it is at (5, 4), 5 from where the coarse cluster has A
pub middle_moved_by_1 : dag_broken (dag_with
    (coarse_square 0 0 ∷ coarse_square 16 4 ∷ fan_round (flat_point 5 4) ∷ fine_square 16 4 ∷ []))
    ≡ nowhere ∷ nowhere ∷ (0 ∷ []) ∷ []
unfolding have_same_sums breaks_sums breaks_source is_near is_near_source breaks_corners distance same_point edges_of
    edge_count edge_sum
middle_moved_by_1 = refl

-- at (3, 4) it is 4 from A, as the error allows
pub middle_moved_within : dag_broken (dag_with
    (coarse_square 0 0 ∷ coarse_square 16 4 ∷ fan_round (flat_point 3 4) ∷ fine_square 16 4 ∷ []))
    ≡ nowhere ∷ nowhere ∷ nowhere ∷ []
unfolding have_same_sums breaks_sums breaks_source is_near is_near_source breaks_corners distance same_point edges_of
    edge_count edge_sum
middle_moved_within = refl
