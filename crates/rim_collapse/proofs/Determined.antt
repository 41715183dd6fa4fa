-- A list has at most one least legal collapse, and is simplified to at most one state.
use Rattle.std.proofs.Common.{◌≡◌, inl, inr, ℕ, false, List, [], ◌∷◌, length, Ordering, refl, sym, ap, ◌∙◌, subst}
use Rattle.std.proofs.Common.{arith}
use Rattle.std.proofs.lemmas.Cmp.{nat_cmp_total, on_total, then_total}
use Rattle.std.specs.Cmp.{IsTotalOrder}
use Rattle.std.specs.Ordering.{is_eq, is_lt, ordering_reverse, ordering_then}
use Rattle.std.specs.declared.cmp.Ordering.TheVariants.{Less, Equal, Greater}
use Rattle.geom_core.specs.declared.points.Pt.{Pt}
use Rattle.geom_core.specs.declared.triangles.Tri.{Tri}
use Rattle.geom_core.specs.declared.triangles.Tagged.{Tagged}
use Rattle.geom_core.specs.Order.{point_cmp}
use Rattle.geom_core.proofs.PointLaws.{point_cmp-total, same_point-from, same_point-is}
use Rattle.rim_collapse.specs.declared.keys.Key.{Key}
use Rattle.rim_collapse.specs.declared.states.Kept.{Kept}
use Rattle.rim_collapse.specs.Cost.{key_cmp, key_of}
use Rattle.rim_collapse.specs.Least.{IsLeast}
use Rattle.rim_collapse.specs.Simplified.{IsEnd, IsNext, IsSimplified, Lead}
use Rattle.rim_collapse.specs.States.{after, begun, present}

-- ---- keys

pub key_cmp-total : IsTotalOrder key_cmp
key_cmp-total =
    then_total (on_total (λ (k : Key). k.cost) nat_cmp_total)
    (then_total (on_total (λ (k : Key). k.distance) nat_cmp_total)
    (then_total (on_total (λ (k : Key). k.from) point_cmp-total) (on_total (λ (k : Key). k.to) point_cmp-total)))

neither : (o : Ordering) → is_lt o ≡ false → is_lt (ordering_reverse o) ≡ false → o ≡ Equal
neither Less h k = cc
neither Equal h k = refl
neither Greater h k = cc

all_equal : (o p q r : Ordering) → ordering_then o (ordering_then p (ordering_then q r)) ≡ Equal →
    (q ≡ Equal) × (r ≡ Equal)
all_equal Less p q r h = absurd (cc)
all_equal Greater p q r h = absurd (cc)
all_equal Equal Less q r h = absurd (cc)
all_equal Equal Greater q r h = absurd (cc)
all_equal Equal Equal Less r h = absurd (cc)
all_equal Equal Equal Greater r h = absurd (cc)
all_equal Equal Equal Equal r h = (refl, h)

point-from_equal : (p q : Pt) → point_cmp p q ≡ Equal → p ≡ q
point-from_equal p q h = same_point-from p q (same_point-is p q ∙ ap is_eq h)

same_ends : (k l : Key) → key_cmp k l ≡ Equal → (k.from ≡ l.from) × (k.to ≡ l.to)
same_ends k l h =
    let ends = all_equal _ _ (point_cmp k.from l.from) (point_cmp k.to l.to) h in
    (point-from_equal k.from l.from ends.0, point-from_equal k.to l.to ends.1)

-- neither of two least collapses goes before the other, so they are one
pub least_is_one : (tris : List Tri) (locked : List Pt) (a b c d : Pt) → IsLeast tris locked a b →
    IsLeast tris locked c d → (a ≡ c) × (b ≡ d)
unfolding key_of
least_is_one tris locked a b c d one other =
    let k = key_of tris a b in
    let l = key_of tris c d in
    same_ends k l (neither (key_cmp k l) (other.first a b one.legal)
    (rw (sym (key_cmp-total.antisymm l k)) (one.first c d other.legal)))

-- ---- states

-- no collapse follows an end
none_next : (locked : List Pt) (n : ℕ) (state : List Kept) (a b : Pt) → IsNext locked n state a b →
    IsEnd locked n state → ⊥
none_next locked n state a b next end =
    elim end [
      | inl few ↦ (let many = next.too_many in omega arith)
      | inr none ↦ none a b next.least.legal
    ]

one_end : (locked : List Pt) (n : ℕ) (cs ds : List (Pt × Pt)) (state end other : List Kept) →
    Lead locked n cs state end → Lead locked n ds state other → IsEnd locked n end → IsEnd locked n other →
    end ≡ other
unfolding Lead
one_end locked n [] [] state end other lead by_other is_end other_is = sym lead ∙ by_other
one_end locked n [] (d ∷ ds) state end other lead by_other is_end other_is =
    absurd (none_next locked n state d.0 d.1 by_other.0 (subst (IsEnd locked n) (sym lead) is_end))
one_end locked n (c ∷ cs) [] state end other lead by_other is_end other_is =
    absurd (none_next locked n state c.0 c.1 lead.0 (subst (IsEnd locked n) (sym by_other) other_is))
one_end locked n (c ∷ cs) (d ∷ ds) state end other lead by_other is_end other_is =
    let same : (c.0 ≡ d.0) × (c.1 ≡ d.1) =
    least_is_one (present state) locked c.0 c.1 d.0 d.1 lead.0.least by_other.0.least in
    let step : after d.0 d.1 state ≡ after c.0 c.1 state = cc in
    one_end locked n cs ds (after c.0 c.1 state) end other lead.1
    (subst (λ s. Lead locked n ds s other) step by_other.1) is_end other_is

pub one_simplification : (tris : List Tagged) (locked : List Pt) (kept others : List Kept) →
    IsSimplified tris locked kept → IsSimplified tris locked others → kept ≡ others
one_simplification tris locked kept others one other =
    one_end locked (length tris) one.collapses other.collapses
    (begun tris) kept others one.lead other.lead one.end other.end
