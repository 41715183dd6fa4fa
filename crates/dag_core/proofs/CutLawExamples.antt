-- Where a premise of a law of cuts is missing, the law is false: an example of each, computed by the checker.
use Rattle.std.proofs.Common.{◌≡◌, ◌<◌, ◌+◌, ℕ, zero, suc, ℤ, pos, true, false, Some, List, [], ◌∷◌, map, get_or}
use Rattle.std.proofs.Common.{IsTrue, refl, arith}
use Rattle.std.specs.List.{range_with_len}
use Rattle.geom_core.specs.declared.boxes.Cube.{Cube}
use Rattle.geom_core.specs.declared.views.Lens.{Lens}
use Rattle.geom_core.specs.Boxes.{is_under, holds_box}
use Rattle.geom_core.specs.Distance.{box_distance, distance, outside}
use Rattle.geom_core.specs.EdgeSum.{edge_count, edge_sum, edges_of, same_point}
use Rattle.geom_core.specs.TaggedLists.{tris_of}
use Rattle.dag_core.specs.declared.heads.Heads.{Heads}
use Rattle.dag_core.specs.Coarse.{is_coarse}
use Rattle.dag_core.specs.Cuts.{IsPath, MeetsOnce, cut_of, cut_tris, is_open}
use Rattle.dag_core.specs.Members.{cluster_at, group_at, home}
use Rattle.dag_core.specs.Pages.{has_terminal_on, is_upper, tris_on}
use Rattle.dag_core.specs.Ranges.{IsInRange}
use Rattle.dag_core.specs.Rules.{Checked, breaks_bound, breaks_maker, breaks_members, breaks_page, breaks_terminal}
use Rattle.dag_core.specs.Rules.{has_made, is_outgrown, members_before}
use Rattle.dag_core.specs.TriangleRules.{is_near}
use Rattle.dag_core.specs.Triangles.{source_of, tris_at}
use Rattle.dag_core.specs.Internal.RangeTests.{are_counts_in_range, is_cluster_in_range, is_group_in_range}
use Rattle.dag_core.proofs.CutExamples.{lens_of}
use Rattle.dag_core.proofs.Examples.{chain_of}
use Rattle.dag_core.proofs.RangeTestLaws.{range_from}
use Rattle.dag_core.proofs.RuleLaws.{bound_beyond, maker_beyond, members_beyond, page_beyond, terminal_beyond}
use Rattle.dag_core.proofs.TwoSquares.{corner_a, corner_b, corner_c, flat_point, left, right, two_squares}
use Rattle.dag_core.proofs.TwoSquares.{two_squares_heads}
use Rattle.dag_core.proofs.TwoSquaresLaws.{checked_from, none_from_search}

-- ---- coarse

-- the same error in a box that isn't wider but further away; a lesser error in the same box
pub another_box : is_coarse 4 left.cube (lens_of 1 6) ≡ true
unfolding is_coarse box_distance outside
another_box = refl

pub another_box_is_fine : is_coarse 4 right.cube (lens_of 1 6) ≡ false
unfolding is_coarse box_distance outside
another_box_is_fine = refl

pub lesser_error_is_fine : is_coarse 0 left.cube (lens_of 1 6) ≡ false
unfolding is_coarse box_distance outside
lesser_error_is_fine = refl

-- a box whose low corner is above its high one is 1 from an eye from which a box that holds it is 9
abbrev turned : Cube
turned = record { lo = flat_point 10 0; hi = flat_point 0 0 }

abbrev point : Cube
point = record { lo = flat_point 0 0; hi = flat_point 0 0 }

abbrev from_9 : Lens
from_9 = record { eye = flat_point 9 0; focal = 1; tolerance = 16 }

pub point_holds_turned : holds_box point turned ≡ true
unfolding holds_box is_under
point_holds_turned = refl

pub turned_is_coarse : is_coarse 4 turned from_9 ≡ true
unfolding is_coarse box_distance outside
turned_is_coarse = refl

pub point_is_fine : is_coarse 4 point from_9 ≡ false
unfolding is_coarse box_distance outside
point_is_fine = refl

-- ---- open groups

-- over pages 0 and 2, which aren't closed, group 2 is open, and group 1, the home of what it made, isn't
pub open_over_pages_0_and_2 : map (is_open (chain_of 0 4 4) (lens_of 1 0) (0 ∷ 2 ∷ [])) (2 ∷ 1 ∷ []) ≡ true ∷ false ∷ []
unfolding is_coarse box_distance outside is_open
open_over_pages_0_and_2 = refl

-- where the maker's error is greater than the home's, rule 4 is broken
pub open_under_a_lesser_error : map (is_open (chain_of 0 3 4) (lens_of 1 50) (0 ∷ 1 ∷ 2 ∷ []))
    (2 ∷ 1 ∷ []) ≡ true ∷ false ∷ []
unfolding is_coarse box_distance outside is_open
open_under_a_lesser_error = refl

-- ---- paths: checked heads, a path, and a set of pages that isn't closed over which the path meets the cut twice

abbrev pub chain : Heads
chain = chain_of 0 4 4

abbrev pub chain_lens : Lens
chain_lens = lens_of 1 0

abbrev pub gap : List ℕ
gap = 0 ∷ 2 ∷ []

abbrev pub chain_path : List ℕ
chain_path = 2 ∷ 1 ∷ 0 ∷ []

pub chain_range : IsInRange chain
unfolding are_counts_in_range is_group_in_range is_cluster_in_range is_under
chain_range = range_from chain (record { counts = refl; groups = refl; clusters = refl })

pub chain_checked : Checked chain
unfolding home tris_on has_terminal_on is_upper members_before breaks_members breaks_maker has_made breaks_terminal
    is_outgrown breaks_bound breaks_page is_under holds_box
chain_checked =
    checked_from chain
    (none_from_search (breaks_members chain) 4 refl (λ place from. members_beyond chain place (omega arith)))
    (none_from_search (breaks_maker chain) 3 refl (λ place from. maker_beyond chain place from))
    (none_from_search (breaks_terminal chain) 3 refl (λ place from. terminal_beyond chain place from))
    (none_from_search (breaks_bound chain) 3 refl (λ place from. bound_beyond chain place from))
    (none_from_search (breaks_page chain) 3 refl (λ place from. page_beyond chain place from))

three_numbers : (P : ℕ → Type 0) → P 0 → P 1 → P 2 → (k : ℕ) → k < 3 → P k
three_numbers P at_0 at_1 at_2 zero below = at_0
three_numbers P at_0 at_1 at_2 (suc zero) below = at_1
three_numbers P at_0 at_1 at_2 (suc (suc zero)) below = at_2
three_numbers P at_0 at_1 at_2 (suc (suc (suc k))) below = absurd (omega arith)

next_made : (k : ℕ) → k + 1 < 3 → (cluster_at chain (get_or chain_path (k + 1) 0)).made ≡ Some (home chain
    (get_or chain_path k 0))
unfolding home
next_made zero below = refl
next_made (suc zero) below = refl
next_made (suc (suc k)) below = absurd (omega arith)

last_terminal : (k : ℕ) → k + 1 ≡ 3 → IsTrue (group_at chain (home chain (get_or chain_path k 0))).terminal
unfolding home
last_terminal zero last = absurd (omega arith)
last_terminal (suc zero) last = absurd (omega arith)
last_terminal (suc (suc zero)) last = refl
last_terminal (suc (suc (suc k))) last = absurd (omega arith)

pub chain_is_path : IsPath chain chain_path
chain_is_path = record {
  some = omega arith;
  clusters = λ k below. three_numbers (λ k. get_or chain_path k 0 < 3) (omega arith) (omega arith)
      (omega arith) k below;
  leaf = refl;
  made = next_made;
  end = last_terminal;
}

cut_over_gap : cut_of chain chain_lens gap ≡ 0 ∷ 2 ∷ []
unfolding is_coarse box_distance outside is_open home
cut_over_gap = refl

pub meets_twice : MeetsOnce (cut_of chain chain_lens gap) chain_path → ⊥
unfolding is_coarse box_distance outside is_open home
meets_twice once =
    let first : 0 ≡ once.place = once.only 0 (omega arith) refl in
    let last : 2 ≡ once.place = once.only 2 (omega arith) refl in
    omega arith

-- ---- edge sums of the two squares at the edge from A to B of square 1

abbrev cut_sum : List ℕ → ℤ
cut_sum resident = edge_sum (cut_tris (λ c. tris_of (tris_at two_squares c)) (cut_of two_squares_heads
    (lens_of 1 0) resident)) (corner_a 0) (corner_b 0)

-- over no page, which isn't closed, the cut is empty; over the root page it has the source's sum, and so isn't closed
-- where the source isn't
pub sum_over_no_page : cut_sum [] ≡ pos 0
unfolding is_coarse box_distance outside is_open home same_point edges_of edge_count edge_sum
sum_over_no_page = refl

pub sum_over_the_root_page : cut_sum (0 ∷ []) ≡ pos 1
unfolding is_coarse box_distance outside is_open home same_point edges_of edge_count edge_sum
sum_over_the_root_page = refl

pub sum_of_the_source : edge_sum (source_of two_squares) (corner_a 0) (corner_b 0) ≡ pos 1
unfolding same_point edges_of edge_count edge_sum
sum_of_the_source = refl

-- ---- corners

-- a coarse triangle whose first corner is moved by 5, where the maker's error is 4: rule 8 is broken
pub corner_too_far : is_near 4 (record { a = flat_point 13 0; b = corner_c 0; c = corner_a 0 })
    (record { a = corner_b 0; b = corner_c 0; c = flat_point 4 4 }) ≡ false
unfolding is_near distance
corner_too_far = refl

-- ---- need: over the root page alone the cut isn't the one over all pages

pub cut_over_less : cut_of two_squares_heads (lens_of 1 0) (0 ∷ []) ≡ 0 ∷ 1 ∷ []
unfolding is_coarse box_distance outside is_open home
cut_over_less = refl

pub cut_over_all : cut_of two_squares_heads (lens_of 1 0) (range_with_len 0 3) ≡ 2 ∷ 3 ∷ []
unfolding is_coarse box_distance outside is_open home
cut_over_all = refl
