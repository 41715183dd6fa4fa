-- Worked examples of first breaks, computed by the checker: the two squares, and the two squares with changes.
use Rattle.std.proofs.Common.{◌≡◌, ℕ, List, [], ◌∷◌, map, Option, Some, None, refl}
use Rattle.geom_core.specs.declared.triangles.Tagged.{Tagged}
use Rattle.geom_core.specs.Distance.{distance}
use Rattle.geom_core.specs.EdgeSum.{edge_count, edge_sum, edges_of, same_point}
use Rattle.dag_core.specs.declared.groups.Group.{Group}
use Rattle.dag_core.specs.declared.dags.Dag.{Dag}
use Rattle.dag_core.specs.TriangleRules.{breaks_corners, breaks_source, breaks_sums, have_same_sums, is_near}
use Rattle.dag_core.specs.TriangleRules.{is_near_source}
use Rattle.dag_core.proofs.TwoSquares.{coarse_square, corner_a, corner_b, corner_c, corner_d, fine_square, flat_point}
use Rattle.dag_core.proofs.TwoSquares.{left, middle, right, sourced, two_squares, two_squares_clusters, whole}
use Rattle.dag_soundness.specs.declared.faults.RuleBreak.{RuleBreak}
use Rattle.dag_soundness.specs.FirstBreaks.{first_dag_break, first_rule_break}
use Rattle.dag_soundness.specs.Internal.MadeLinks.{next_made}

-- rule and index
abbrev broken : ℕ → ℕ → Option RuleBreak
broken rule index = Some (record { rule = rule; index = index })

-- group 1 or 2 with this error
abbrev with_error : ℕ → Group → Group
with_error error group = record {
  error = error;
  terminal = group.terminal;
  cube = group.cube;
  page = group.page;
  first = group.first;
  count = group.count;
}

-- the two squares with these errors of groups 1 and 2, and with these triangles
abbrev squares_with : ℕ → ℕ → List (List Tagged) → Dag
squares_with error other tris = record {
  heads = record {
    groups = whole ∷ with_error error left ∷ with_error other right ∷ [];
    clusters = two_squares_clusters;
    pages = 3;
    roots = 1;
    sources = 8;
  };
  tris = tris;
}

-- coarse square 1 where corner A of the first triangle, (B, C, A), is moved to x = 1
abbrev torn_square : List Tagged
torn_square =
    sourced (corner_b 0) (corner_c 0) (flat_point 1 0) 1 ∷ sourced (corner_c 0) (corner_d 0) (corner_a 0) 2 ∷ []

-- coarse square 1 turned over: the same edges, the other way
abbrev turned_square : List Tagged
turned_square =
    sourced (corner_c 0) (corner_b 0) (corner_a 0) 1 ∷ sourced (corner_d 0) (corner_c 0) (corner_a 0) 2 ∷ []

-- fine square 1 whose first triangle says that its source is 1: no leaf triangle has source 0, and two have 1
abbrev twice_sourced : List Tagged
twice_sourced = sourced (corner_a 0) (corner_b 0) (middle 0) 1
    ∷ sourced (corner_b 0) (corner_c 0) (middle 0) 1
    ∷ sourced (corner_c 0) (corner_d 0) (middle 0) 2
    ∷ sourced (corner_d 0) (corner_a 0) (middle 0) 3 ∷ []

-- fine square 2 whose last triangle, of source 7, says that its source is 6
abbrev last_source_lost : List Tagged
last_source_lost = sourced (corner_a 16) (corner_b 16) (middle 16) 4
    ∷ sourced (corner_b 16) (corner_c 16) (middle 16) 5
    ∷ sourced (corner_c 16) (corner_d 16) (middle 16) 6
    ∷ sourced (corner_d 16) (corner_a 16) (middle 16) 6 ∷ []

pub no_break : first_dag_break two_squares ≡ None
unfolding first_dag_break first_rule_break have_same_sums breaks_sums breaks_source is_near is_near_source
    breaks_corners distance same_point edges_of edge_count edge_sum
no_break = refl

-- rules 6, 7 and 8 are broken, each at some index: rule 6 is answered, at the group that made the torn square
pub rule_6_first : first_dag_break (squares_with 3 4 (torn_square ∷ coarse_square 16 4 ∷ twice_sourced
    ∷ fine_square 16 4 ∷ [])) ≡ broken 6 1
unfolding first_dag_break first_rule_break have_same_sums breaks_sums breaks_source is_near is_near_source
    breaks_corners distance same_point edges_of edge_count edge_sum
rule_6_first = refl

-- the edges are the same, and their sums aren't
pub turned_over : first_dag_break (squares_with 4 4 (turned_square ∷ coarse_square 16 4 ∷ fine_square 0 0
    ∷ fine_square 16 4 ∷ [])) ≡ broken 6 1
unfolding first_dag_break first_rule_break have_same_sums breaks_sums breaks_source is_near is_near_source
    breaks_corners distance same_point edges_of edge_count edge_sum
turned_over = refl

-- rules 7 and 8 are broken: rule 7 is answered, at the source that no leaf triangle has
pub rule_7_first : first_dag_break (squares_with 3 3 (coarse_square 0 0 ∷ coarse_square 16 4 ∷ twice_sourced
    ∷ last_source_lost ∷ [])) ≡ broken 7 0
unfolding first_dag_break first_rule_break have_same_sums breaks_sums breaks_source is_near is_near_source
    breaks_corners distance same_point edges_of edge_count edge_sum
rule_7_first = refl

-- source 6 is found twice, before source 7, which isn't found
pub found_twice : first_dag_break (squares_with 4 4 (coarse_square 0 0 ∷ coarse_square 16 4 ∷ fine_square 0 0
    ∷ last_source_lost ∷ [])) ≡ broken 7 6
unfolding first_dag_break first_rule_break have_same_sums breaks_sums breaks_source is_near is_near_source
    breaks_corners distance same_point edges_of edge_count edge_sum
found_twice = refl

-- A is 4 from the middle: error 3 of the maker is too little, by one corner of each triangle
pub rule_8_alone : map first_dag_break (squares_with 3 4 two_squares.tris ∷ squares_with 4 3 two_squares.tris
    ∷ squares_with 4 4 two_squares.tris ∷ []) ≡ broken 8 0 ∷ broken 8 1 ∷ None ∷ []
unfolding first_dag_break first_rule_break have_same_sums breaks_sums breaks_source is_near is_near_source
    breaks_corners distance same_point edges_of edge_count edge_sum
rule_8_alone = refl

-- the next cluster that group 1 made, from clusters 0 and 1 on, and that group 2 made
pub next_of_two_squares : next_made two_squares_clusters 1 0 ∷ next_made two_squares_clusters 1 1
    ∷ next_made two_squares_clusters 2 0 ∷ next_made two_squares_clusters 0 0 ∷ [] ≡ 0 ∷ 4 ∷ 1 ∷ 4 ∷ []
unfolding next_made
next_of_two_squares = refl
