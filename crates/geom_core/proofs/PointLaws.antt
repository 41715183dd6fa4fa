-- Points: when two are one, and their order.
use Rattle.std.proofs.Common.{◌≡◌, Bool, true, false, not, ◌&&◌, ℤ, Ordering, refl, sym, ap, ◌∙◌, rules, arith}
use Rattle.std.proofs.lemmas.Int.{ints}
use Rattle.std.proofs.lemmas.Cmp.{int_cmp_total, on_total, then_total, tied_itself}
use Rattle.std.specs.Cmp.{IsTotalOrder}
use Rattle.std.specs.Ordering.{int_cmp, int_eq, ordering_then, is_eq, is_lt, ordering_reverse}
use Rattle.std.specs.declared.cmp.Ordering.TheVariants.{Less, Equal, Greater}
use Rattle.geom_core.specs.declared.points.Pt.{Pt}
use Rattle.geom_core.specs.EdgeSum.{same_point}
use Rattle.geom_core.specs.Order.{is_before, point_cmp}

pub point_cmp-total : IsTotalOrder point_cmp
point_cmp-total =
    then_total (on_total (λ (p : Pt). p.x) int_cmp_total)
    (then_total (on_total (λ (p : Pt). p.y) int_cmp_total) (on_total (λ (p : Pt). p.z) int_cmp_total))

-- two points are one where they compare as equal
pub same_point-is : (p q : Pt) → same_point p q ≡ is_eq (point_cmp p q)
unfolding same_point
same_point-is p q = all_tie (int_cmp p.x q.x) (int_cmp p.y q.y) (int_cmp p.z q.z)
  where
    all_tie : (a b c : Ordering) → is_eq a && is_eq b && is_eq c ≡ is_eq (ordering_then a (ordering_then b c))
    all_tie Less b c = grind rules
    all_tie Equal Less c = grind rules
    all_tie Equal Equal c = refl
    all_tie Equal Greater c = grind rules
    all_tie Greater b c = grind rules

pub int_eq-from : (m n : ℤ) → int_eq m n ≡ true → m ≡ n
int_eq-from m n same = grind (arith, ints)

abbrev point : ℤ → ℤ → ℤ → Pt
point x y z = record { x = x; y = y; z = z }

pub same_parts : (x y z i j k : ℤ) → x ≡ i → y ≡ j → z ≡ k → point x y z ≡ point i j k
same_parts x y z i j k by_x by_y by_z = cc

pub same_point-from : (p q : Pt) → same_point p q ≡ true → p ≡ q
unfolding same_point
same_point-from p q same =
    let by_x : p.x ≡ q.x = int_eq-from p.x q.x (grind rules) in
    let by_y : p.y ≡ q.y = int_eq-from p.y q.y (grind rules) in
    let by_z : p.z ≡ q.z = int_eq-from p.z q.z (grind rules) in
    same_parts p.x p.y p.z q.x q.y q.z by_x by_y by_z

pub same_point-itself : (p : Pt) → same_point p p ≡ true
same_point-itself p = rw (same_point-is p p, tied_itself point_cmp-total p)

pub same_point-refl : (p q : Pt) → p ≡ q → same_point p q ≡ true
same_point-refl p q same = rw same (same_point-itself q)

-- points that differ in order are two
pub same_point-before : (p q : Pt) → is_before p q ≡ true → same_point p q ≡ false
same_point-before p q before = rw (same_point-is p q) (apart (point_cmp p q) before)
  where
    apart : (o : Ordering) → is_lt o ≡ true → is_eq o ≡ false
    apart Less h = refl
    apart Equal h = cc
    apart Greater h = refl

pub same_point-after : (p q : Pt) → is_before q p ≡ true → same_point p q ≡ false
same_point-after p q after =
    rw (same_point-is p q, point_cmp-total.antisymm p q) (apart (point_cmp q p) after)
  where
    apart : (o : Ordering) → is_lt o ≡ true → is_eq (ordering_reverse o) ≡ false
    apart Less h = refl
    apart Equal h = cc
    apart Greater h = cc

pub before-from_is_before : (p q : Pt) → is_before p q ≡ true → point_cmp p q ≡ Less
before-from_is_before p q before = from (point_cmp p q) before
  where
    from : (o : Ordering) → is_lt o ≡ true → o ≡ Less
    from Less h = refl
    from Equal h = cc
    from Greater h = cc

pub is_before-trans : (p q r : Pt) → is_before p q ≡ true → is_before q r ≡ true → is_before p r ≡ true
is_before-trans p q r first then =
    ap is_lt (point_cmp-total.trans p q r (before-from_is_before p q first) (before-from_is_before q r then))

-- of two points, the first comes before the other, is it, or comes after it
pub data Placed (p q : Pt) : Type 0 where
  Before : is_before p q ≡ true → Placed p q
  Same : p ≡ q → Placed p q
  After : is_before q p ≡ true → Placed p q

pub placed : (p q : Pt) → Placed p q
placed p q = by (point_cmp p q) refl
  where
    by : (o : Ordering) → point_cmp p q ≡ o → Placed p q
    by Less is = Before (ap is_lt is)
    by Equal is = Same (same_point-from p q (same_point-is p q ∙ ap is_eq is))
    by Greater is = After (ap is_lt (point_cmp-total.antisymm q p ∙ ap ordering_reverse is))

pub is_before-itself : (p : Pt) → is_before p p ≡ false
is_before-itself p = ap is_lt (tied_itself point_cmp-total p)

pub true≢false : true ≡ false → ⊥
true≢false h = cc

pub not_both : (p q : Pt) → is_before p q ≡ true → is_before q p ≡ false
not_both p q before = ap is_lt (point_cmp-total.antisymm q p ∙ ap ordering_reverse (before-from_is_before p q before))

-- what `==` and `!=` answer at points
abbrev pub derived_eq : Pt → Pt → Bool
derived_eq p q = int_eq p.x q.x && (int_eq p.y q.y && int_eq p.z q.z)

pub derived_eq-is : (p q : Pt) → derived_eq p q ≡ same_point p q
unfolding same_point
derived_eq-is p q = regrouped (int_eq p.x q.x) (int_eq p.y q.y) (int_eq p.z q.z)
  where
    regrouped : (a b c : Bool) → a && (b && c) ≡ a && b && c
    regrouped true b c = refl
    regrouped false b c = refl

pub same_point-eq : (p q : Pt) (b : Bool) → b ≡ derived_eq p q → same_point p q ≡ b
same_point-eq p q b h = sym (derived_eq-is p q) ∙ sym h

pub same_point-ne : (p q : Pt) (b : Bool) → b ≡ not (derived_eq p q) → same_point p q ≡ not b
same_point-ne p q b h = sym (derived_eq-is p q) ∙ turned (derived_eq p q) b h
  where
    turned : (a b : Bool) → b ≡ not a → a ≡ not b
    turned true true h = cc
    turned true false h = refl
    turned false true h = refl
    turned false false h = cc
