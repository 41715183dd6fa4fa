-- Worked examples of cuts and of sets of pages, computed by the checker: the two squares, a chain, and groups that
-- share
-- a page.
use Rattle.std.proofs.Common.{◌≡◌, ◌<◌, ◌+◌, ◌⊎◌, ℕ, zero, suc, true, false, Some, List, [], ◌∷◌, ◌++◌, map, get_or}
use Rattle.std.proofs.Common.{IsTrue, refl, arith, sym, subst, inl, inr}
use Rattle.std.specs.List.{range_with_len}
use Rattle.std.proofs.lemmas.Bool.{cases_lt}
use Rattle.std.proofs.lemmas.Bool.Decides.{nat_tests}
use Rattle.geom_core.specs.declared.views.Lens.{Lens}
use Rattle.geom_core.specs.Boxes.{is_under, holds_box}
use Rattle.geom_core.specs.Distance.{box_distance, outside}
use Rattle.geom_core.specs.Picture.{Item}
use Rattle.geom_core.specs.TaggedLists.{tris_of}
use Rattle.dag_core.specs.declared.groups.Group.{Group}
use Rattle.dag_core.specs.declared.heads.Heads.{Heads}
use Rattle.dag_core.specs.Coarse.{is_coarse, is_coarse_group}
use Rattle.dag_core.specs.Cuts.{IsPath, cut_items, cut_of, cut_tris, is_open}
use Rattle.dag_core.specs.Members.{cluster_at, group_at, home}
use Rattle.dag_core.specs.PageSets.{IsNeed, above_of, coarse_pages, has_page, missing_of}
use Rattle.dag_core.specs.Pages.{has_terminal_on, is_upper, tris_on}
use Rattle.dag_core.specs.Ranges.{IsInRange}
use Rattle.dag_core.specs.Rules.{Checked, breaks_bound, breaks_maker, breaks_members, breaks_page, breaks_terminal}
use Rattle.dag_core.specs.Rules.{has_made, is_outgrown, members_before}
use Rattle.dag_core.specs.Triangles.{tris_at}
use Rattle.dag_core.specs.Internal.RangeTests.{are_counts_in_range, is_cluster_in_range, is_group_in_range}
use Rattle.dag_core.proofs.Examples.{chain_of}
use Rattle.dag_core.proofs.HalvingLaws.{checked_in_turn}
use Rattle.dag_core.proofs.PageSetLaws.{all_pages_closed, below_all}
use Rattle.dag_core.proofs.RangeTestLaws.{range_from}
use Rattle.dag_core.proofs.RuleLaws.{bound_beyond, maker_beyond, members_beyond, page_beyond, terminal_beyond}
use Rattle.dag_core.proofs.TwoSquares.{coarse_square, fine_square, flat_point, leaf_of_four, left, made_of_two, right}
use Rattle.dag_core.proofs.TwoSquares.{two_squares, two_squares_heads, whole}
use Rattle.dag_core.proofs.TwoSquaresLaws.{checked_from, none_from_search}

-- a lens whose eye is the middle of square 1, with this focal length and tolerance
abbrev pub lens_of : ℕ → ℕ → Lens
lens_of focal tolerance = record { eye = flat_point 4 4; focal = focal; tolerance = tolerance }

-- ---- coarse groups

-- error 4 times focal 1 times 16 is 64, times 4,096 is 262,144; the eye is in the box, so tolerance times 1 is 65,535
pub group_1_at_focal_1 : is_coarse_group (lens_of 1 65535) left ≡ false
unfolding is_coarse box_distance outside
group_1_at_focal_1 = refl

pub group_1_at_focal_4096 : is_coarse_group (lens_of 4096 65535) left ≡ true
unfolding is_coarse box_distance outside
group_1_at_focal_4096 = refl

-- 64 is more than 63 and not more than 64
pub as_much_as_the_tolerance : map (λ tolerance. is_coarse_group (lens_of 1 tolerance) left)
    (63 ∷ 64 ∷ []) ≡ true ∷ false ∷ []
unfolding is_coarse box_distance outside
as_much_as_the_tolerance = refl

-- the box of group 2 is 12 from the eye: 64 is more than 5 times 12 and not more than 6 times 12
pub away_from_the_box : map (λ tolerance. is_coarse_group (lens_of 1 tolerance) right) (5 ∷ 6 ∷ []) ≡ true ∷ false ∷ []
unfolding is_coarse box_distance outside
away_from_the_box = refl

-- ---- cuts of the two squares

abbrev cuts_over : Heads → Lens → List (List ℕ) → List (List ℕ)
cuts_over heads lens sets = map (cut_of heads lens) sets

pub cuts_at_tolerance_0 : cuts_over two_squares_heads (lens_of 1 0) ((0 ∷ []) ∷ (0 ∷ 1 ∷ []) ∷ (0 ∷ 1 ∷ 2 ∷ []) ∷ [])
    ≡ (0 ∷ 1 ∷ []) ∷ (1 ∷ 2 ∷ []) ∷ (2 ∷ 3 ∷ []) ∷ []
unfolding is_coarse box_distance outside is_open home
cuts_at_tolerance_0 = refl

-- no page resident, and the root page left out: a cut over a set that isn't closed
pub cuts_without_the_root : cuts_over two_squares_heads (lens_of 1 0) ([] ∷ (1 ∷ []) ∷ []) ≡ [] ∷ (2 ∷ []) ∷ []
unfolding is_coarse box_distance outside is_open home
cuts_without_the_root = refl

-- with all pages resident, at tolerances of which one keeps both groups coarse, one group 1 alone, and one none
pub cuts_by_tolerance : map (λ tolerance. cut_of two_squares_heads (lens_of 1 tolerance) (0 ∷ 1 ∷ 2 ∷ []))
    (5 ∷ 6 ∷ 64 ∷ [])
    ≡ (2 ∷ 3 ∷ []) ∷ (1 ∷ 2 ∷ []) ∷ (0 ∷ 1 ∷ []) ∷ []
unfolding is_coarse box_distance outside is_open home
cuts_by_tolerance = refl

-- the triangles of a cut: those of cluster 1, then those of cluster 2, numbered in each
pub triangles_of_a_cut : cut_tris (λ c. tris_of (tris_at two_squares c))
    (cut_of two_squares_heads (lens_of 1 0) (0 ∷ 1 ∷ []))
    ≡ tris_of (coarse_square 16 4 ++ fine_square 0 0)
unfolding is_coarse box_distance outside is_open home
triangles_of_a_cut = refl

pub numbers_of_items : map {B = ℕ × ℕ} (λ (item : Item). (item.cluster, item.place))
    (cut_items (λ c. tris_of (tris_at two_squares c)) (1 ∷ 2 ∷ []))
    ≡ (1, 0) ∷ (1, 1) ∷ (2, 0) ∷ (2, 1) ∷ (2, 2) ∷ (2, 3) ∷ []
numbers_of_items = refl

-- ---- a chain of three groups, on pages 0, 1 and 2

-- over pages 0 and 2, which aren't closed, the cut has the first and the last cluster of the chain's one path
pub chain_over_pages_0_and_2 : cut_of (chain_of 0 4 4) (lens_of 1 0) (0 ∷ 2 ∷ []) ≡ 0 ∷ 2 ∷ []
unfolding is_coarse box_distance outside is_open home
chain_over_pages_0_and_2 = refl

pub pages_above_each : map (above_of (chain_of 0 4 4)) (range_with_len 0 3) ≡ [] ∷ (0 ∷ []) ∷ (0 ∷ 1 ∷ []) ∷ []
unfolding is_upper home
pages_above_each = refl

-- a group of error 0 that isn't terminal isn't coarse at tolerance 0: its member, the leaf, is in no cut
pub group_of_error_0 : cut_of (chain_of 0 4 0) (lens_of 4096 0) (0 ∷ 1 ∷ 2 ∷ []) ≡ 1 ∷ []
unfolding is_coarse box_distance outside is_open home
group_of_error_0 = refl

-- ---- paths

-- from the leaf of square 1 to the coarse cluster that its group made, whose home is terminal
pub path_of_square_1 : IsPath two_squares_heads (2 ∷ 0 ∷ [])
unfolding home
path_of_square_1 = record {
  some = omega arith;
  clusters = λ k below. two_numbers (λ k. get_or (2 ∷ 0 ∷ []) k 0 < 4) (omega arith) (omega arith) k below;
  leaf = refl;
  made = λ k next. elim (cases_lt k 1) [
    | inl less ↦ let e : k ≡ 0 =
        omega arith in subst (λ n. (cluster_at two_squares_heads (get_or (2 ∷ 0 ∷ []) (n + 1) 0)).made
        ≡ Some (home two_squares_heads (get_or (2 ∷ 0 ∷ []) n 0))) (sym e) refl
    | inr more ↦ absurd (omega (arith, next))
  ];
  end = λ k last. let e : k ≡ 1 = omega arith in
      subst (λ n. IsTrue (group_at two_squares_heads (home two_squares_heads (get_or (2 ∷ 0 ∷ []) n 0))).terminal)
      (sym e) refl;
}
  where
    two_numbers : (P : ℕ → Type 0) → P 0 → P 1 → (k : ℕ) → k < 2 → P k
    two_numbers P at_0 at_1 zero below = at_0
    two_numbers P at_0 at_1 (suc zero) below = at_1
    two_numbers P at_0 at_1 (suc (suc k)) below = absurd (omega arith)

-- ---- two groups that share page 2, one made into a cluster on page 0, the other into one on page 1

abbrev small : ℕ → ℕ → ℕ → Group
small error page first = record left { error = error; page = page; first = first; count = 1 }

abbrev shared_page : Heads
shared_page = record {
  groups = record whole { count = 2 } ∷ small 4 1 2 ∷ small 5 2 3 ∷ small 4 2 4 ∷ [];
  clusters = made_of_two 1 ∷ made_of_two 2 ∷ made_of_two 3 ∷ leaf_of_four ∷ leaf_of_four ∷ [];
  pages = 3;
  roots = 1;
  sources = 8;
}

-- 5 times 16 is more than the tolerance, 4 times 16 isn't
abbrev one_is_coarse : Lens
one_is_coarse = lens_of 1 64

pub coarse_alone : coarse_pages shared_page one_is_coarse ≡ 2 ∷ []
unfolding is_coarse box_distance outside
coarse_alone = refl

pub shared_page_range : IsInRange shared_page
unfolding are_counts_in_range is_group_in_range is_cluster_in_range is_under
shared_page_range = range_from shared_page (record { counts = refl; groups = refl; clusters = refl })

pub shared_page_checked : Checked shared_page
unfolding home tris_on has_terminal_on is_upper members_before breaks_members breaks_maker has_made breaks_terminal
    is_outgrown breaks_bound breaks_page is_under holds_box
shared_page_checked =
    checked_from shared_page
    (none_from_search (breaks_members shared_page) 5 refl
    (λ place from. members_beyond shared_page place (omega arith)))
    (none_from_search (breaks_maker shared_page) 5 refl (λ place from. maker_beyond shared_page place from))
    (none_from_search (breaks_terminal shared_page) 4 refl (λ place from. terminal_beyond shared_page place from))
    (none_from_search (breaks_bound shared_page) 5 refl (λ place from. bound_beyond shared_page place from))
    (none_from_search (breaks_page shared_page) 3 refl (λ place from. page_beyond shared_page place from))

-- both pages on which page 2 depends are needed, though the group that depends on page 1 isn't coarse
pub need_of_shared_page : IsNeed shared_page one_is_coarse (0 ∷ 1 ∷ 2 ∷ [])
unfolding is_coarse box_distance outside is_upper home
need_of_shared_page = record {
  closed = all_pages_closed shared_page shared_page_range (checked_in_turn shared_page shared_page_checked);
  seeded = λ p has. two_alone p has;
  least = λ others closed seeded p has. elim (three p has) [
    | inl zeroth ↦ subst (λ k. IsTrue (has_page others k)) (sym zeroth) (closed.roots 0 (omega arith))
    | inr later ↦ elim later [
      | inl first ↦ subst (λ k. IsTrue (has_page others k)) (sym first) (closed.uppers 2 1 (seeded 2 refl) refl)
      | inr second ↦ subst (λ k. IsTrue (has_page others k)) (sym second) (seeded 2 refl)
    ]
  ];
  ascending = λ k next. ascend k (omega arith);
}
  where
    three : (p : ℕ) → has_page (0 ∷ 1 ∷ 2 ∷ []) p ≡ true → (p ≡ 0) ⊎ ((p ≡ 1) ⊎ (p ≡ 2))
    three zero has = inl refl
    three (suc zero) has = inr (inl refl)
    three (suc (suc zero)) has = inr (inr refl)
    three (suc (suc (suc p))) has = let below = below_all 3 (suc (suc (suc p))) has in absurd (omega arith)

    two_alone : (p : ℕ) → has_page (2 ∷ []) p ≡ true → has_page (0 ∷ 1 ∷ 2 ∷ []) p ≡ true
    two_alone p has = grind (arith, nat_tests)

    ascend : (k : ℕ) → k < 2 → get_or (0 ∷ 1 ∷ 2 ∷ []) k 0 < get_or (0 ∷ 1 ∷ 2 ∷ []) (k + 1) 0
    ascend zero below = omega arith
    ascend (suc zero) below = omega arith
    ascend (suc (suc k)) below = absurd (omega arith)

pub missing_of_shared_page : map (missing_of (0 ∷ 1 ∷ 2 ∷ [])) ([] ∷ (0 ∷ []) ∷ (0 ∷ 2 ∷ []) ∷ (0 ∷ 1 ∷ 2 ∷ []) ∷ [])
    ≡ (0 ∷ 1 ∷ 2 ∷ []) ∷ (1 ∷ 2 ∷ []) ∷ (1 ∷ []) ∷ [] ∷ []
missing_of_shared_page = refl
