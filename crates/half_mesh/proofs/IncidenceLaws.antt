-- Incidences by point: what a stable sort leaves of the incidences at a point, and where these stand in a sorted list.
use Rattle.std.proofs.Common.{◌≡◌, ℕ, suc, ◌+◌, ◌-◌, ◌<◌, ◌≤◌, Bool, true, false, not, ◌&&◌, List, [], ◌∷◌, ◌++◌}
use Rattle.std.proofs.Common.{length, take, drop, get_or, filter, All, Ordering, refl, sym, ap, ◌∙◌, inl, inr, arith}
use Rattle.std.proofs.lemmas.List.{get_or-drop, get_or-take, length-drop, length-take, take-append-drop, drop-drop}
use Rattle.std.proofs.lemmas.List.{append-nil}
use Rattle.std.proofs.lemmas.List.Elements.{filter-append, filter_agree, All-nil, All-tail, All-head}
use Rattle.std.proofs.lemmas.List.Sorted.{ranks_by, sorted_far}
use Rattle.std.proofs.lemmas.List.Sums.{prefix_len-drop_no, prefix_len-drop_yes}
use Rattle.std.proofs.lemmas.Bool.{cases_lt}
use Rattle.std.proofs.Math.Numerals.{one-add}
use Rattle.std.specs.Cmp.{IsStrictWeakOrder}
use Rattle.std.specs.List.{prefix_len}
use Rattle.std.specs.List.Sorted.{IsStableByKey, IsPartitionedBy, IsPartitionPoint, ties}
use Rattle.std.specs.Ordering.{is_lt, is_eq, is_le, ordering_reverse}
use Rattle.std.specs.declared.cmp.Ordering.TheVariants.{Less, Equal, Greater}
use Rattle.geom_core.specs.declared.points.Pt.{Pt}
use Rattle.geom_core.specs.EdgeSum.{same_point}
use Rattle.geom_core.specs.Order.{is_before, point_cmp}
use Rattle.half_mesh.specs.declared.incidences.Incidence.{Incidence}
use Rattle.half_mesh.specs.Incidences.{is_at, at_point, IsByPoint}
use Rattle.geom_core.proofs.PointLaws.{true≢false, not_both, before-from_is_before, is_before-trans, point_cmp-total}
use Rattle.geom_core.proofs.PointLaws.{same_point-is, same_point-before, same_point-after, same_point-refl}
use Rattle.geom_core.proofs.PointLaws.{is_before-itself, placed}
use Rattle.geom_core.proofs.PointLaws.Placed.{Before, Same, After}

pub filter-all : {X : Type 0} (p : X → Bool) (xs : List X) → All (λ x. p x ≡ true) xs → filter p xs ≡ xs
filter-all p [] all = refl
filter-all {X} p (x ∷ xs) all =
    rw (All-head (λ (x : X). p x ≡ true) x xs all)
    (ap (λ rest. x ∷ rest) (filter-all p xs (All-tail (λ (x : X). p x ≡ true) x xs all)))

pub filter-no : {X : Type 0} (p : X → Bool) (xs : List X) → All (λ x. p x ≡ false) xs → filter p xs ≡ []
filter-no p [] all = refl
filter-no {X} p (x ∷ xs) all =
    rw (All-head (λ (x : X). p x ≡ false) x xs all) (filter-no p xs (All-tail (λ (x : X). p x ≡ false) x xs all))

-- points that tie are one
not_apart : (p q : Pt) → not (is_before p q) && not (is_before q p) ≡ same_point q p
not_apart p q = rw (same_point-is q p, point_cmp-total.antisymm p q) (apart (point_cmp q p))
  where
    apart : (o : Ordering) → not (is_lt (ordering_reverse o)) && not (is_lt o) ≡ is_eq o
    apart Less = refl
    apart Equal = refl
    apart Greater = refl

-- a stable sort by point keeps the incidences at a point as they stand
pub at_point-stable : {T : Type 0} (xs ys : List (Incidence T)) → length ys ≡ length xs →
    IsStableByKey (λ (incidence : Incidence T). incidence.point) point_cmp xs ys → (p : Pt) →
    at_point p ys ≡ at_point p xs
at_point-stable [] [] same stable p = refl
at_point-stable [] (y ∷ ys) same stable p = absurd (omega arith)
at_point-stable {T} (x ∷ xs) ys same stable p =
    let here : Incidence T = record x { point = p } in
    let agree : (incidence : Incidence T) → is_at p incidence ≡ ties
    (λ (m n : Incidence T). is_lt (point_cmp m.point n.point)) here incidence =
    λ incidence. sym (not_apart p incidence.point) in
    filter_agree (is_at p) (ties (λ (m n : Incidence T). is_lt (point_cmp m.point n.point)) here) agree ys ∙
    stable here ∙
    sym (filter_agree (is_at p) (ties (λ (m n : Incidence T). is_lt (point_cmp m.point n.point)) here) agree (x ∷ xs))

by_point : {T : Type 0} → IsStrictWeakOrder (λ (m n : Incidence T). is_lt (point_cmp m.point n.point))
by_point {T} = ranks_by point_cmp-total (λ (incidence : Incidence T). incidence.point)

-- in sorted incidences none lies before an earlier one
pub sorted_later : {T : Type 0} (incidences : List (Incidence T)) → IsByPoint incidences → (i j : ℕ) (d : Incidence T) →
    i ≤ j →
    j < length incidences → is_before (get_or incidences j d).point (get_or incidences i d).point ≡ false
sorted_later {T} incidences sorted i j d upto in_bounds =
    sorted_far (λ (m n : Incidence T). is_lt (point_cmp m.point n.point)) by_point incidences sorted i j d upto
    in_bounds

pub IsByPoint-drop : {T : Type 0} (n : ℕ) (incidences : List (Incidence T)) → IsByPoint incidences →
    IsByPoint (drop n incidences)
IsByPoint-drop n incidences sorted k d low high =
    let short : k + 1 < length incidences - n = rw (length-drop n incidences) at high in
    let in_bounds : (n + k) + 1 < length incidences = omega arith in
    let next : n + (k + 1) ≡ (n + k) + 1 = omega arith in
    rw (get_or-drop n incidences (k + 1) d, get_or-drop n incidences k d, next)
    (sorted (n + k) d (omega arith) in_bounds)

-- the point isn't after p
abbrev pub is_upto : {T : Type 0} → Pt → Incidence T → Bool
is_upto p incidence = is_le (point_cmp incidence.point p)

upto_is : (p q : Pt) → is_le (point_cmp q p) ≡ not (is_before p q)
upto_is p q = rw (point_cmp-total.antisymm p q) (by (point_cmp q p))
  where
    by : (o : Ordering) → is_le o ≡ not (is_lt (ordering_reverse o))
    by Less = refl
    by Equal = refl
    by Greater = refl

-- what the two searches for p ask
pub partitioned_before : {T : Type 0} (p : Pt) (incidences : List (Incidence T)) → IsByPoint incidences →
    IsPartitionedBy (λ (incidence : Incidence T). is_before incidence.point p) incidences
partitioned_before {T} p incidences sorted i j d upto in_bounds before =
    earlier _ _ (sorted_later incidences sorted i j d upto in_bounds) before
  where
    earlier : (q r : Pt) → is_before r q ≡ false → is_before r p ≡ true → is_before q p ≡ true
    earlier q r later first = elim (placed q p) [
      | Before h ↦ h
      | Same h ↦ absurd (true≢false (sym first ∙ ap (λ v. is_before r v) (sym h) ∙ later))
      | After h ↦ absurd (true≢false (sym (is_before-trans r p q first h) ∙ later))
    ]

pub partitioned_upto : {T : Type 0} (p : Pt) (incidences : List (Incidence T)) → IsByPoint incidences →
    IsPartitionedBy (λ (incidence : Incidence T). is_upto p incidence) incidences
partitioned_upto {T} p incidences sorted i j d upto in_bounds before =
    upto_is p _ ∙ earlier _ _ (sorted_later incidences sorted i j d upto in_bounds) (sym (upto_is p _) ∙ before)
  where
    earlier : (q r : Pt) → is_before r q ≡ false → not (is_before p r) ≡ true → not (is_before p q) ≡ true
    earlier q r later first = elim (placed p q) [
      | Before h ↦ elim (placed r p) [
        | Before e ↦ absurd (true≢false (sym (is_before-trans r p q e h) ∙ later))
        | Same e ↦ absurd (true≢false (sym h ∙ ap (λ v. is_before v q) (sym e) ∙ later))
        | After e ↦ absurd (true≢false (sym first ∙ ap not e))
      ]
      | Same h ↦ ap not (ap (λ v. is_before p v) (sym h) ∙ is_before-itself p)
      | After h ↦ ap not (not_both q p h)
    ]

-- the incidences between the two places are those at p
pub range_is : {T : Type 0} (p : Pt) (incidences : List (Incidence T)) (from to : ℕ) →
    IsPartitionPoint (λ (incidence : Incidence T). is_before incidence.point p ≡ true)
    (λ incidence. is_before incidence.point p ≡ false) incidences from →
    IsPartitionPoint (λ (incidence : Incidence T). is_upto p incidence ≡ true)
    (λ incidence. is_upto p incidence ≡ false) incidences to →
    from ≤ length incidences → to ≤ length incidences →
    (from ≤ to) × (take (to - from) (drop from incidences) ≡ at_point p incidences)
range_is {T} p incidences from to low high from_in to_in = (ordered incidences low high from_in, group)
  where
    upto_before : (q : Pt) → is_before q p ≡ true → is_le (point_cmp q p) ≡ true
    upto_before q h = ap is_le (before-from_is_before q p h)

    ordered : (incidences : List (Incidence T)) →
        IsPartitionPoint (λ (incidence : Incidence T). is_before incidence.point p ≡ true)
        (λ incidence. is_before incidence.point p ≡ false) incidences from →
        IsPartitionPoint (λ (incidence : Incidence T). is_upto p incidence ≡ true)
        (λ incidence. is_upto p incidence ≡ false) incidences to →
        from ≤ length incidences → from ≤ to
    ordered [] low high from_in = omega arith
    ordered (m ∷ ms) low high from_in = elim (cases_lt to from) [
      | inl h ↦ absurd (true≢false (sym (upto_before _ (low.0 to m (omega arith) h)) ∙
          high.1 to m (omega arith) (omega arith)))
      | inr h ↦ h
    ]

    between : from ≤ to
    between = ordered incidences low high from_in

    front : All (λ (incidence : Incidence T). is_at p incidence ≡ false) (take from incidences)
    front k d in_front =
        let short : k < from = omega (arith, length-take from incidences) in
        rw (get_or-take from incidences k d short) (same_point-before _ p (low.0 k d (omega arith) short))

    middle : All (λ (incidence : Incidence T). is_at p incidence ≡ true) (take (to - from) (drop from incidences))
    middle k d in_middle =
        let short : k < to - from = omega (arith, length-take (to - from) (drop from incidences)) in
        rw (get_or-take (to - from) (drop from incidences) k d short, get_or-drop from incidences k d)
        (same_from _ (low.1 (from + k) d (omega arith) (omega arith)) (high.0 (from + k) d (omega arith) (omega arith)))
      where
        same_from : (q : Pt) → is_before q p ≡ false → is_le (point_cmp q p) ≡ true → same_point q p ≡ true
        same_from q h e = rw (same_point-is q p) (by (point_cmp q p) h e)
          where
            by : (o : Ordering) → is_lt o ≡ false → is_le o ≡ true → is_eq o ≡ true
            by Less h e = cc
            by Equal h e = refl
            by Greater h e = cc

    back : All (λ (incidence : Incidence T). is_at p incidence ≡ false) (drop to incidences)
    back k d in_back =
        let short : to + k < length incidences = omega (arith, length-drop to incidences) in
        rw (get_or-drop to incidences k d) (same_point-after _ p (after_from _ (high.1 (to + k) d (omega arith) short)))
      where
        after_from : (q : Pt) → is_le (point_cmp q p) ≡ false → is_before p q ≡ true
        after_from q h = rw (point_cmp-total.antisymm p q) (by (point_cmp q p) h)
          where
            by : (o : Ordering) → is_le o ≡ false → is_lt (ordering_reverse o) ≡ true
            by Less h = cc
            by Equal h = cc
            by Greater h = refl

    parts : incidences ≡ take from incidences ++ (take (to - from) (drop from incidences) ++ drop to incidences)
    parts =
        let sum : from + (to - from) ≡ to = omega (arith, between) in
        let rest : drop (to - from) (drop from incidences) ≡ drop to incidences =
        drop-drop (to - from) from incidences ∙ ap (λ n. drop n incidences) sum in
        sym (take-append-drop from incidences) ∙
        ap (λ l. take from incidences ++ l)
        (sym (take-append-drop (to - from) (drop from incidences)) ∙
        ap (λ l. take (to - from) (drop from incidences) ++ l) rest)

    group : take (to - from) (drop from incidences) ≡ at_point p incidences
    group = sym (
        ap (filter (is_at p)) parts ∙
        filter-append (is_at p) (take from incidences) (take (to - from) (drop from incidences) ++ drop to incidences) ∙
        rw (filter-no (is_at p) (take from incidences) front)
        (filter-append (is_at p) (take (to - from) (drop from incidences)) (drop to incidences) ∙
        rw (
          filter-all (is_at p) (take (to - from) (drop from incidences)) middle,
          filter-no (is_at p) (drop to incidences) back,
        )
        (append-nil (take (to - from) (drop from incidences)))))
