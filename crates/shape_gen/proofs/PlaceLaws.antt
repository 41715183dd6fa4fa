-- Places: their order, and the number of a place's vertex.
use Rattle.std.proofs.Common.{◌≡◌, ◌≢◌, ℕ, ◌+◌, ◌<◌, Bool, true, false, ◌&&◌, ◌==◌, List, length, get_or, All, Err, inl}
use Rattle.std.proofs.Common.{inr, refl, sym, ap, ◌∙◌, arith, rules}
use Rattle.std.proofs.lemmas.Bool.{cases_lt}
use Rattle.std.proofs.lemmas.Bool.Decides.{nat_tests}
use Rattle.std.proofs.lemmas.Cmp.{nat_cmp_total, then_total, on_total, tied_itself, tied_back, alike_right}
use Rattle.std.proofs.lemmas.List.Sorted.{searchable_from_sorted}
use Rattle.std.proofs.lemmas.List.Sums.{position_or_len_is}
use Rattle.std.specs.Cmp.{IsTotalOrder}
use Rattle.std.specs.List.{HoldsAt}
use Rattle.std.specs.List.Sorted.{IsBinarySearchResult, IsNonDecreasingBy, IsPartitionPoint}
use Rattle.std.specs.Ordering.{is_eq, is_lt, nat_cmp, ordering_then, ordering_reverse, ordering_index}
use Rattle.std.specs.declared.cmp.Ordering.{Ordering}
use Rattle.std.specs.declared.cmp.Ordering.TheVariants.{Less, Equal, Greater}
use Rattle.shape_gen.specs.declared.lattice.Place.{Place}
use Rattle.shape_gen.specs.BoxText.{same_place, vertex_number}
use Rattle.shape_gen.specs.Order.{place_cmp, IsAscending}

pub place_cmp-total : IsTotalOrder place_cmp
place_cmp-total =
    then_total (on_total (λ (p : Place). p.i) nat_cmp_total)
    (then_total (on_total (λ (p : Place). p.j) nat_cmp_total) (on_total (λ (p : Place). p.k) nat_cmp_total))

eq_by_cmp : (m n : ℕ) → (m == n) ≡ is_eq (nat_cmp m n)
eq_by_cmp m n = grind (arith, nat_tests)

-- two places are one where they compare as equal
pub same_place-is : (p q : Place) → same_place p q ≡ is_eq (place_cmp p q)
unfolding same_place
same_place-is p q =
    all_tie (p.i == q.i) (p.j == q.j) (p.k == q.k) (nat_cmp p.i q.i) (nat_cmp p.j q.j) (nat_cmp p.k q.k)
    (eq_by_cmp p.i q.i) (eq_by_cmp p.j q.j) (eq_by_cmp p.k q.k)
  where
    ties : (a b c : Ordering) → is_eq a && (is_eq b && is_eq c) ≡ is_eq (ordering_then a (ordering_then b c))
    ties Less b c = grind rules
    ties Equal Less c = grind rules
    ties Equal Equal c = refl
    ties Equal Greater c = grind rules
    ties Greater b c = grind rules

    all_tie : (a b c : Bool) (x y z : Ordering) → a ≡ is_eq x → b ≡ is_eq y → c ≡ is_eq z →
        a && (b && c) ≡ is_eq (ordering_then x (ordering_then y z))
    all_tie a b c x y z by_x by_y by_z = rw (by_x, by_y, by_z) (ties x y z)

pub same_place-itself : (p : Place) → same_place p p ≡ true
same_place-itself p = rw (same_place-is p p, tied_itself place_cmp-total p)

-- a place that comes before or after is another one
pub same_place-differs : (p q : Place) → place_cmp q p ≢ Equal → same_place p q ≡ false
same_place-differs p q differ = rw (same_place-is p q, place_cmp-total.antisymm p q) (apart (place_cmp q p) differ)
  where
    apart : (o : Ordering) → o ≢ Equal → is_eq (ordering_reverse o) ≡ false
    apart Less h = refl
    apart Equal h = absurd (h refl)
    apart Greater h = refl

-- the number of a vertex where the search for its place found it
pub vertex_number-found : (places : List Place) (p : Place) (i : ℕ) → IsAscending places → i < length places →
    HoldsAt (λ q. place_cmp q p ≡ Equal) places i → vertex_number places p ≡ i + 1
unfolding vertex_number
vertex_number-found places p i ascending in_bounds found =
    ap (λ n. n + 1)
    (position_or_len_is (same_place p) places i p (omega arith) before (λ h. here))
  where
    apart : ◌≡◌ {A = Ordering} Less Equal → ⊥
    apart h = cc

    before : (k : ℕ) → k < i → same_place p (get_or places k p) ≡ false
    before k below = same_place-differs p (get_or places k p) (λ tie. apart
        (sym (ascending k i p below in_bounds) ∙
        alike_right place_cmp-total (get_or places i p) p (get_or places k p) (found p) ∙ tie))

    here : same_place p (get_or places i p) ≡ true
    here = same_place-is p (get_or places i p) ∙ ap is_eq (tied_back place_cmp-total (get_or places i p) p (found p))

-- its number where the search found none
pub vertex_number-absent : (places : List Place) (p : Place) → All (λ q. place_cmp q p ≢ Equal) places →
    vertex_number places p ≡ length places + 1
unfolding vertex_number
vertex_number-absent places p absent =
    ap (λ n. n + 1)
    (position_or_len_is (same_place p) places (length places) p (omega arith)
    (λ k below. same_place-differs p (get_or places k p) (absent k p below)) (λ h. absurd (omega arith)))

-- a search in an ascending list that answers none finds none
pub absent_from_search : (places : List Place) (p : Place) (i : ℕ) → IsAscending places →
    IsBinarySearchResult (λ q. place_cmp q p) places (Err i) → All (λ q. place_cmp q p ≢ Equal) places
absent_from_search places p i ascending searched k d in_bounds =
    elim (cases_lt k i) [
      | inl front ↦ λ h. cc (parts.0 k d (omega arith) front, h)
      | inr back ↦ λ h. cc (parts.1 k d back in_bounds, h)
    ]
  where
    rising : IsNonDecreasingBy (λ q. ordering_index (place_cmp q p)) places
    rising = searchable_from_sorted place_cmp-total (λ (q : Place). q) places p
        (λ k d low high.
        ap is_lt (place_cmp-total.antisymm (get_or places (k + 1) d) (get_or places k d) ∙
        ap ordering_reverse (ascending k (k + 1) d (omega arith) high)))

    parts : IsPartitionPoint (λ q. place_cmp q p ≡ Less) (λ q. place_cmp q p ≡ Greater) places i
    parts = searched rising
