-- Looking up edges and points in a table.
use Rattle.std.proofs.Common.{◌≡◌, ◌≢◌, ℕ, zero, suc, ◌+◌, ◌-◌, ◌<◌, ◌≤◌, ◌^◌, Bool, true, false, ℤ, pos, ◌-ℤ◌, neg_ℤ}
use Rattle.std.proofs.Common.{List, [], ◌∷◌, length, take, drop, get_or, map, All, Contains, Option, Some, None, Result}
use Rattle.std.proofs.Common.{Ok, Err, cond, ◌↔◌, inl, inr, refl, sym, ap, ◌∙◌, subst, arith, w32, to_z, of_z}
use Rattle.std.proofs.Common.{unsigned_abs}
use Rattle.std.proofs.lemmas.Int.{ints}
use Rattle.std.proofs.lemmas.List.{take-map, drop-map}
use Rattle.std.proofs.lemmas.List.Elements.{All-head, All-tail}
use Rattle.std.proofs.lemmas.Bool.{cases_lt}
use Rattle.std.proofs.lemmas.Cmp.{then_total, on_total, tied_itself}
use Rattle.std.specs.Cmp.{IsTotalOrder}
use Rattle.std.specs.List.{AllPairs, HoldsAt}
use Rattle.std.specs.List.Sorted.{IsSorted, IsBinarySearchResult, IsNonDecreasingBy, IsPartitionPoint}
use Rattle.std.specs.Option.{IfSome, IfNone, is_some}
use Rattle.std.specs.Result.{result_ok}
use Rattle.std.specs.Ordering.{is_lt, is_eq, int_eq, ordering_then, ordering_reverse, ordering_index}
use Rattle.std.specs.declared.cmp.Ordering.{Ordering}
use Rattle.std.specs.declared.cmp.Ordering.TheVariants.{Less, Equal, Greater}
use Rattle.geom_core.specs.declared.limits.TheConstants.{MAX_SUMMED_TRIANGLES}
use Rattle.geom_core.specs.declared.points.Pt.{Pt}
use Rattle.geom_core.specs.declared.triangles.Tri.{Tri}
use Rattle.geom_core.specs.EdgeSum.{same_point, edge_count, edge_sum, is_rim_edge, OnRim}
use Rattle.geom_core.specs.Order.{is_before, point_cmp}
use Rattle.geom_core.proofs.EdgeSumLaws.{edge_sum-turned, edge_sum-same, is_rim_edge-turned}
use Rattle.half_mesh.specs.declared.edges.Edge.{Edge}
use Rattle.half_mesh.specs.declared.incidences.Incidence.{Incidence}
use Rattle.half_mesh.specs.Around.{triangles_around}
use Rattle.half_mesh.specs.Corners.{corners_of}
use Rattle.half_mesh.specs.Incidences.{at_point}
use Rattle.half_mesh.specs.Order.{edge_cmp}
use Rattle.half_mesh.specs.Rim.{IsRimEdge, IsAscending, IsRimOf, sum_on, ends_of}
use Rattle.half_mesh.specs.Terms.{edge_of}
use Rattle.half_mesh.proofs.CornerLaws.{triangles_around-is}
use Rattle.geom_core.proofs.PointLaws.{true≢false, point_cmp-total, same_point-is, same_point-from}
use Rattle.geom_core.proofs.PointLaws.{before-from_is_before, is_before-itself, same_point-before, same_point-after}
use Rattle.geom_core.proofs.PointLaws.{placed}
use Rattle.geom_core.proofs.PointLaws.Placed.{Before, Same, After}
use Rattle.half_mesh.proofs.EdgeLaws.{edge_cmp-total, edge_from_equal, point_from_equal, zero_unless, rim_edge-some}
use Rattle.half_mesh.proofs.EdgeLaws.{rim_edge-from, edge_count-bound}

pub sorted_points : (points : List Pt) → AllPairs (λ p q. point_cmp p q ≡ Less) points → IsSorted point_cmp points
sorted_points points ascending k d low high =
    ap is_lt (point_cmp-total.antisymm (get_or points (k + 1) d) (get_or points k d) ∙
    ap ordering_reverse (ascending k (k + 1) d (omega arith) high))

pub sorted_from_ascending : (edges : List Edge) → IsAscending edges → IsSorted edge_cmp edges
sorted_from_ascending edges ascending k d low high =
    ap is_lt (edge_cmp-total.antisymm (get_or edges (k + 1) d) (get_or edges k d) ∙
    ap ordering_reverse (ascending k (k + 1) d (omega arith) high))

-- a search that answers none finds none
pub searched_none : {X : Type 0} (ord : X → Ordering) (xs : List X) (r : Result ℕ ℕ) → IsBinarySearchResult ord xs r →
    IsNonDecreasingBy (λ x. ordering_index (ord x)) xs → IfNone (result_ok r) (All (λ x. ord x ≢ Equal) xs)
searched_none ord xs (Ok i) found rising = tt
searched_none {X} ord xs (Err i) found rising = none
  where
    parts : IsPartitionPoint (λ x. ord x ≡ Less) (λ x. ord x ≡ Greater) xs i
    parts = found rising

    none : All (λ x. ord x ≢ Equal) xs
    none k d in_bounds = elim (cases_lt k i) [
      | inl front ↦ λ h. cc (parts.0 k d (omega arith) front, h)
      | inr back ↦ λ h. cc (parts.1 k d back in_bounds, h)
    ]

-- a search for a point answers whether it is there
pub place_holds : (points : List Pt) (p : Pt) (o : Option ℕ) → IfSome o (λ i. i < length points) →
    IfSome o (HoldsAt (λ q. point_cmp q p ≡ Equal) points) → IfNone o (All (λ q. point_cmp q p ≢ Equal) points) →
    (is_some o ≡ true) ↔ Contains points p
place_holds points p (Some i) within found absent =
    (λ h. (i, within, point_from_equal (get_or points i p) p (found p)), λ h. refl)
place_holds points p None within found absent = (
  λ h. absurd (true≢false (sym h)),
  λ (k, in_bounds, here). absurd
      (absent k p in_bounds (ap (λ q. point_cmp q p) here ∙ tied_itself point_cmp-total p)),
)

-- ---- the sums

pub edge_sum-bound : (tris : List Tri) (u v : Pt) → same_point u v ≡ false → same_point v u ≡ false →
    length tris ≤ MAX_SUMMED_TRIANGLES → unsigned_abs (edge_sum tris u v) ≤ MAX_SUMMED_TRIANGLES
unfolding edge_sum
edge_sum-bound tris u v apart back few =
    let out = edge_count-bound tris u v apart in
    let into = edge_count-bound tris v u back in
    by (edge_count tris u v) (edge_count tris v u) (omega arith) (omega arith)
  where
    by : (m n : ℕ) → m ≤ MAX_SUMMED_TRIANGLES → n ≤ MAX_SUMMED_TRIANGLES →
        unsigned_abs (pos m -ℤ pos n) ≤ MAX_SUMMED_TRIANGLES
    by m n m_few n_few = omega (arith, ints)

sum_found : (tris : List Tri) (edges : List Edge) (sums : List ℤ) (u v : Pt) (place : ℕ) (z d : ℤ) →
    IsRimOf tris edges sums → length tris ≤ MAX_SUMMED_TRIANGLES → place < length edges →
    HoldsAt (λ e. edge_cmp e (edge_of u v) ≡ Equal) edges place → z ≡ get_or sums place d →
    (z ≡ edge_sum tris u v) × (is_before u v ≡ true) × (unsigned_abs z ≤ MAX_SUMMED_TRIANGLES)
sum_found tris edges sums u v place z d rim few in_bounds found read =
    let e : Edge = get_or edges place (edge_of u v) in
    let here : e ≡ edge_of u v = edge_from_equal e (edge_of u v) (found (edge_of u v)) in
    let wanted : IsRimEdge tris e = rim.sound place (edge_of u v) in_bounds in
    let less : point_cmp u v ≡ Less = ap (λ (f : Edge). point_cmp f.u f.v) (sym here) ∙ wanted.0 in
    let before : is_before u v ≡ true = ap is_lt less in
    let sum : z ≡ edge_sum tris u v =
    read ∙ ap (λ l. get_or l place d) rim.summed ∙ at edges place in_bounds ∙ ap (sum_on tris) here in (
      sum,
      before,
      subst (λ k. unsigned_abs k ≤ MAX_SUMMED_TRIANGLES) (sym sum)
          (edge_sum-bound tris u v (same_point-before u v before) (same_point-after v u before) few),
    )
  where
    at : (edges : List Edge) (place : ℕ) → place < length edges →
        get_or (map (sum_on tris) edges) place d ≡ sum_on tris (get_or edges place (edge_of u v))
    at [] place in_bounds = absurd (omega arith)
    at (f ∷ fs) zero in_bounds = refl
    at (f ∷ fs) (suc k) in_bounds = at fs k (omega arith)

-- the same as it is answered, in 32 bits
pub sum_there : (tris : List Tri) (edges : List Edge) (sums : List ℤ) (u v : Pt) (place : ℕ) (z d : ℤ) →
    IsRimOf tris edges sums → length tris ≤ MAX_SUMMED_TRIANGLES → place < length edges →
    HoldsAt (λ e. edge_cmp e (edge_of u v) ≡ Equal) edges place → z ≡ get_or sums place d →
    (to_z w32 (of_z w32 z) ≡ (cond (is_before u v) (edge_sum tris u v) (pos 0))) ×
    (unsigned_abs (to_z w32 (of_z w32 z)) ≤ MAX_SUMMED_TRIANGLES)
sum_there tris edges sums u v place z d rim few in_bounds found read =
    let there = sum_found tris edges sums u v place z d rim few in_bounds found read in
    let cast : to_z w32 (of_z w32 z) ≡ z = small z there.2 in
    (rw there.1 (cast ∙ there.0), subst (λ k. unsigned_abs k ≤ MAX_SUMMED_TRIANGLES) (sym cast) there.2)
  where
    small : (z : ℤ) → unsigned_abs z ≤ MAX_SUMMED_TRIANGLES → to_z w32 (of_z w32 z) ≡ z
    small z bound = omega (arith, ints)

pub sum_absent : (tris : List Tri) (edges : List Edge) (sums : List ℤ) (u v : Pt) → IsRimOf tris edges sums →
    All (λ e. edge_cmp e (edge_of u v) ≢ Equal) edges → pos 0 ≡ (cond (is_before u v) (edge_sum tris u v) (pos 0))
sum_absent tris edges sums u v rim absent = by (is_before u v) refl
  where
    none : is_before u v ≡ true → (b : Bool) → is_rim_edge tris u v ≡ b → pos 0 ≡ edge_sum tris u v
    none before true some =
        let at = rim.complete (edge_of u v) (before-from_is_before u v before, some) in
        absurd (absent at.0 (edge_of u v) at.1 (ap (λ e. edge_cmp e (edge_of u v)) at.2 ∙
        tied_itself edge_cmp-total (edge_of u v)))
    none before false cancels =
        sym (zero_unless (edge_sum tris u v) (λ some. true≢false (sym (rim_edge-from tris u v some) ∙ cancels)))

    by : (b : Bool) → is_before u v ≡ b → pos 0 ≡ (cond (is_before u v) (edge_sum tris u v) (pos 0))
    by true before = rw before (none before (is_rim_edge tris u v) refl)
    by false upto = rw upto refl

turned_cast : (s : ℤ) → unsigned_abs s ≤ MAX_SUMMED_TRIANGLES →
    to_z w32 (of_z w32 (pos 0 -ℤ to_z w32 (of_z w32 s))) ≡ neg_ℤ s
turned_cast s bound = omega (arith, ints)

-- the sum the other way round
pub sum_turned : (tris : List Tri) (u v : Pt) (s : ℤ) → is_before u v ≡ false →
    s ≡ (cond (is_before v u) (edge_sum tris v u) (pos 0)) → unsigned_abs s ≤ MAX_SUMMED_TRIANGLES →
    to_z w32 (of_z w32 (pos 0 -ℤ to_z w32 (of_z w32 s))) ≡ edge_sum tris u v
sum_turned tris u v s upto is bound = turned_cast s bound ∙ elim (placed u v) [
  | Before h ↦ absurd (true≢false (sym h ∙ upto))
  | Same h ↦
      ap neg_ℤ (is ∙ ap (λ w. cond (is_before w u) (edge_sum tris w u) (pos 0)) (sym h) ∙ none) ∙
      sym (ap (λ w. edge_sum tris u w) (sym h) ∙ edge_sum-same tris u)
  | After h ↦ ap neg_ℤ (is ∙ rw h refl) ∙ sym (edge_sum-turned tris v u)
]
  where
    none : (cond (is_before u u) (edge_sum tris u u) (pos 0)) ≡ pos 0
    none = rw (is_before-itself u) refl

-- ---- the triangles round a point

pub around_is : (tris : List Tri) (corners : List (Incidence ℕ)) (numbers : List ℕ) (p : Pt) (from to : ℕ) →
    numbers ≡ map (λ (corner : Incidence ℕ). corner.what) corners →
    take (to - from) (drop from corners) ≡ at_point p corners →
    at_point p corners ≡ at_point p (corners_of tris) →
    take (to - from) (drop from numbers) ≡ triangles_around tris p
around_is tris corners numbers p from to numbered group groups =
    ap (λ l. take (to - from) (drop from l)) numbered ∙
    ap (take (to - from)) (drop-map (λ (corner : Incidence ℕ). corner.what) from corners) ∙
    take-map (λ (corner : Incidence ℕ). corner.what) (to - from) (drop from corners) ∙
    ap (map (λ (corner : Incidence ℕ). corner.what)) (group ∙ groups) ∙
    triangles_around-is p tris
