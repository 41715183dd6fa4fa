-- The two squares are sound: all numbers keep their ranges, and no rule is broken at any index.
use Rattle.std.proofs.Common.{◌≡◌, ◌<◌, ◌≤◌, ℕ, Bool, true, false, ◌&&◌, cond, All, refl, sym, ◌∙◌, arith, nat_lt}
use Rattle.std.specs.List.{list_all, list_any, range_with_len}
use Rattle.std.proofs.lemmas.Bool.{and_parts, false≢true}
use Rattle.std.proofs.lemmas.Bool.Decides.{nat_tests}
use Rattle.geom_core.specs.declared.triangles.Tagged.{Tagged}
use Rattle.geom_core.specs.Boxes.{is_under, holds_box}
use Rattle.geom_core.specs.Distance.{distance}
use Rattle.geom_core.specs.EdgeSum.{same_point, edges_of, edge_count, edge_sum}
use Rattle.geom_core.specs.Limits.{has_distinct_corners, is_grid_triangle}
use Rattle.dag_core.specs.declared.heads.Heads.{Heads}
use Rattle.dag_core.specs.declared.dags.Dag.{Dag}
use Rattle.dag_core.specs.Members.{home}
use Rattle.dag_core.specs.Pages.{has_terminal_on, is_upper, tris_on}
use Rattle.dag_core.specs.Ranges.{IsInRange}
use Rattle.dag_core.specs.Rules.{Checked, breaks_bound, breaks_maker, breaks_members, breaks_page, breaks_terminal}
use Rattle.dag_core.specs.Rules.{has_made, is_outgrown, members_before}
use Rattle.dag_core.specs.TriangleRules.{IsLaidOut, IsSourcedTriangle, Sound, breaks_corners, breaks_source}
use Rattle.dag_core.specs.TriangleRules.{breaks_sums, dag_breaks, have_same_sums, is_near, is_near_source}
use Rattle.dag_core.specs.Internal.RangeTests.{are_counts_in_range, is_cluster_in_range, is_group_in_range}
use Rattle.dag_core.proofs.ListSteps.{range_any}
use Rattle.dag_core.proofs.PlaceLaws.{NoneBefore, none_at_all}
use Rattle.dag_core.proofs.RangeTestLaws.{all_from, range_from}
use Rattle.dag_core.proofs.RuleLaws.{bound_beyond, maker_beyond, members_beyond, page_beyond, terminal_beyond}
use Rattle.dag_core.proofs.TwoSquares.{two_squares, two_squares_heads, two_squares_tris}

-- ---- no break anywhere, from a search of the first places

none_before : (test : ℕ → Bool) (n : ℕ) → list_any test (range_with_len 0 n) ≡ false → NoneBefore test n
none_before test n none place below = at (test place) refl
  where
    at : (b : Bool) → test place ≡ b → test place ≡ false
    at true passes = absurd (false≢true (sym none ∙ range_any test n place below passes))
    at false fails = fails

pub none_from_search : (test : ℕ → Bool) (n : ℕ) → list_any test (range_with_len 0 n) ≡ false →
    ((place : ℕ) → n ≤ place → test place ≡ false) → (place : ℕ) → test place ≡ false
none_from_search test n none after = none_at_all test n (none_before test n none) after

pick : (b x y : Bool) → x ≡ false → y ≡ false → cond b x y ≡ false
pick true x y first second = first
pick false x y first second = second

-- heads that keep each of the five rules
pub checked_from : (heads : Heads) → ((g : ℕ) → breaks_members heads g ≡ false) →
    ((c : ℕ) → breaks_maker heads c ≡ false) →
    ((g : ℕ) → breaks_terminal heads g ≡ false) → ((c : ℕ) → breaks_bound heads c ≡ false) →
    ((p : ℕ) → breaks_page heads p ≡ false) → Checked heads
checked_from heads members makers terminals bounds pages = λ rule index.
    pick _ _ _ (members index) (pick _ _ _ (makers index)
    (pick _ _ _ (terminals index) (pick _ _ _ (bounds index) (pick _ _ _ (pages index) refl))))

-- a DAG that keeps each of the three rules of triangles
pub dag_rules_from : (dag : Dag) → ((g : ℕ) → breaks_sums dag g ≡ false) → ((k : ℕ) → breaks_source dag k ≡ false) →
    ((c : ℕ) → breaks_corners dag c ≡ false) → (rule index : ℕ) → dag_breaks rule dag index ≡ false
dag_rules_from dag sums sources corners = λ rule index.
    pick _ _ _ (sums index) (pick _ _ _ (sources index) (pick _ _ _ (corners index) refl))

beyond : (limit n : ℕ) (test : Bool) → limit ≤ n → (nat_lt n limit && test) ≡ false
beyond limit n test from = grind (arith, nat_tests)

-- ---- the two squares

pub two_squares_in_range : IsInRange two_squares_heads
unfolding are_counts_in_range is_group_in_range is_cluster_in_range is_under
two_squares_in_range = range_from two_squares_heads (record { counts = refl; groups = refl; clusters = refl })

pub two_squares_checked : Checked two_squares_heads
unfolding home tris_on has_terminal_on is_upper members_before breaks_members breaks_maker has_made breaks_terminal
    is_outgrown breaks_bound breaks_page is_under holds_box
two_squares_checked =
    checked_from two_squares_heads
    (none_from_search (breaks_members two_squares_heads) 4 refl
    (λ place from. members_beyond two_squares_heads place (omega arith)))
    (none_from_search (breaks_maker two_squares_heads) 4 refl (λ place from. maker_beyond two_squares_heads place from))
    (none_from_search (breaks_terminal two_squares_heads) 3 refl
    (λ place from. terminal_beyond two_squares_heads place from))
    (none_from_search (breaks_bound two_squares_heads) 4 refl (λ place from. bound_beyond two_squares_heads place from))
    (none_from_search (breaks_page two_squares_heads) 3 refl (λ place from. page_beyond two_squares_heads place from))

sourced_from : (t : Tagged) → (is_grid_triangle t.tri && nat_lt t.source 8) ≡ true → IsSourcedTriangle 8 t
sourced_from t is =
    let parts = and_parts (is_grid_triangle t.tri) (nat_lt t.source 8) is in
    record { triangle = parts.0; source = below t.source parts.1 }
  where
    below : (n : ℕ) → nat_lt n 8 ≡ true → n < 8
    below n less = grind (arith, nat_tests)

pub two_squares_laid_out : IsLaidOut two_squares
unfolding has_distinct_corners same_point
two_squares_laid_out = record {
  range = two_squares_in_range;
  rules = two_squares_checked;
  counts = refl;
  triangles =
      all_from (All (IsSourcedTriangle 8)) (list_all (λ (t : Tagged). is_grid_triangle t.tri && nat_lt t.source 8))
      two_squares_tris
      (λ tris all. all_from (IsSourcedTriangle 8)
      (λ (t : Tagged). is_grid_triangle t.tri && nat_lt t.source 8) tris sourced_from all) refl;
}

pub two_squares_sound : Sound two_squares
unfolding have_same_sums breaks_sums breaks_source is_near is_near_source breaks_corners distance same_point edges_of
    edge_count edge_sum
two_squares_sound = record {
  laid_out = two_squares_laid_out;
  rules = dag_rules_from two_squares
      (none_from_search (breaks_sums two_squares) 3 refl (λ place from. beyond 3 place _ from))
      (none_from_search (breaks_source two_squares) 8 refl (λ place from. beyond 8 place _ from))
      (none_from_search (breaks_corners two_squares) 4 refl (λ place from. beyond 4 place _ from));
}
