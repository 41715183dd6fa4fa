-- Edges: their order, when two are one, and edge sums.
use Rattle.std.proofs.Common.{◌≡◌, ◌≢◌, ℕ, ◌+◌, ◌≤◌, Bool, true, false, not, ◌&&◌, ℤ, pos, ◌-ℤ◌, List, [], ◌∷◌, length}
use Rattle.std.proofs.Common.{cond, Ordering, FitsSigned, w32, refl, sym, ap, ◌∙◌, rules, arith}
use Rattle.std.proofs.lemmas.Int.{ints}
use Rattle.std.proofs.lemmas.Cmp.{then_total, on_total, tied_itself}
use Rattle.std.specs.Cmp.{IsTotalOrder}
use Rattle.std.specs.Ordering.{int_eq, is_eq, is_lt, ordering_then, ordering_reverse}
use Rattle.std.specs.declared.cmp.Ordering.TheVariants.{Less, Equal, Greater}
use Rattle.geom_core.specs.declared.limits.TheConstants.{MAX_SUMMED_TRIANGLES}
use Rattle.geom_core.specs.declared.points.Pt.{Pt}
use Rattle.geom_core.specs.declared.triangles.Tri.{Tri}
use Rattle.geom_core.specs.EdgeSum.{same_point, edge_count, edge_sum, is_rim_edge}
use Rattle.geom_core.specs.Order.{is_before, point_cmp}
use Rattle.geom_core.proofs.EdgeSumLaws.{edge_count-one, edge_count-append, edge_count-none, edge_sum-same}
use Rattle.geom_core.proofs.PointLaws.{true≢false, point_cmp-total, same_point-is, same_point-from, same_point-refl}
use Rattle.geom_core.proofs.PointLaws.{same_point-before, same_point-after, before-from_is_before, derived_eq}
use Rattle.geom_core.proofs.PointLaws.{derived_eq-is}
use Rattle.half_mesh.specs.declared.edges.Edge.{Edge}
use Rattle.half_mesh.specs.Order.{edge_cmp}
use Rattle.half_mesh.specs.Rim.{same_edge}
use Rattle.half_mesh.specs.Terms.{edge_of}

pub edge_cmp-total : IsTotalOrder edge_cmp
edge_cmp-total =
    then_total (on_total (λ (e : Edge). e.u) point_cmp-total) (on_total (λ (e : Edge). e.v) point_cmp-total)

pub point_from_equal : (p q : Pt) → point_cmp p q ≡ Equal → p ≡ q
point_from_equal p q same = same_point-from p q (same_point-is p q ∙ ap is_eq same)

pub edge_from_equal : (e f : Edge) → edge_cmp e f ≡ Equal → e ≡ f
edge_from_equal e f same = by (point_cmp e.u f.u) (point_cmp e.v f.v) refl refl same
  where
    same_parts : (u v i j : Pt) → u ≡ i → v ≡ j → edge_of u v ≡ edge_of i j
    same_parts u v i j h k = cc

    by : (a b : Ordering) → point_cmp e.u f.u ≡ a → point_cmp e.v f.v ≡ b → ordering_then a b ≡ Equal → e ≡ f
    by Less b h k tie = absurd (cc tie)
    by Greater b h k tie = absurd (cc tie)
    by Equal b h k tie = same_parts e.u e.v f.u f.v (point_from_equal e.u f.u h) (point_from_equal e.v f.v (k ∙ tie))

-- two edges are one where they compare as equal
pub same_edge-is : (e f : Edge) → same_edge e f ≡ is_eq (edge_cmp e f)
same_edge-is e f =
    rw (same_point-is e.u f.u, same_point-is e.v f.v) (both (point_cmp e.u f.u) (point_cmp e.v f.v))
  where
    both : (a b : Ordering) → is_eq a && is_eq b ≡ is_eq (ordering_then a b)
    both Less b = refl
    both Equal b = refl
    both Greater b = refl

pub same_edge-from : (e f : Edge) → same_edge e f ≡ true → e ≡ f
same_edge-from e f same = edge_from_equal e f (from (edge_cmp e f) (sym (same_edge-is e f) ∙ same))
  where
    from : (o : Ordering) → is_eq o ≡ true → o ≡ Equal
    from Less h = cc
    from Equal h = refl
    from Greater h = cc

pub same_edge-itself : (e : Edge) → same_edge e e ≡ true
same_edge-itself e = rw (same_edge-is e e, tied_itself edge_cmp-total e) refl

pub same_edge-before : (e f : Edge) → edge_cmp e f ≡ Less → same_edge e f ≡ false
same_edge-before e f before = same_edge-is e f ∙ ap is_eq before

pub same_edge-after : (e f : Edge) → edge_cmp f e ≡ Less → same_edge e f ≡ false
same_edge-after e f after = same_edge-is e f ∙ ap is_eq (edge_cmp-total.antisymm e f ∙ ap ordering_reverse after)

-- what `==` answers at edges
abbrev pub derived_edge_eq : Edge → Edge → Bool
derived_edge_eq e f = derived_eq e.u f.u && derived_eq e.v f.v

pub derived_edge_eq-is : (e f : Edge) → derived_edge_eq e f ≡ same_edge e f
derived_edge_eq-is e f = rw (derived_eq-is e.u f.u, derived_eq-is e.v f.v) refl

-- ---- edge sums

not_eq-true : (k : ℤ) → k ≢ pos 0 → not (int_eq k (pos 0)) ≡ true
not_eq-true k some = by (int_eq k (pos 0)) refl
  where
    by : (b : Bool) → int_eq k (pos 0) ≡ b → not (int_eq k (pos 0)) ≡ true
    by false is = ap not is
    by true is = absurd (some (zero_from k is))
      where
        zero_from : (k : ℤ) → int_eq k (pos 0) ≡ true → k ≡ pos 0
        zero_from k h = grind (arith, ints)

pub zero_unless : (k : ℤ) → (k ≢ pos 0 → ⊥) → k ≡ pos 0
zero_unless k h = by (int_eq k (pos 0)) refl
  where
    by : (b : Bool) → int_eq k (pos 0) ≡ b → k ≡ pos 0
    by true is = zero_from k is
      where
        zero_from : (k : ℤ) → int_eq k (pos 0) ≡ true → k ≡ pos 0
        zero_from k h = grind (arith, ints)
    by false is = absurd (h (λ z. true≢false (sym (ap (λ m. int_eq m (pos 0)) z) ∙ is)))

pub rim_edge-from : (tris : List Tri) (u v : Pt) → edge_sum tris u v ≢ pos 0 → is_rim_edge tris u v ≡ true
unfolding is_rim_edge
rim_edge-from tris u v some = not_eq-true (edge_sum tris u v) some

pub rim_edge-some : (tris : List Tri) (u v : Pt) → is_rim_edge tris u v ≡ true → edge_sum tris u v ≢ pos 0
unfolding is_rim_edge
rim_edge-some tris u v rim none = true≢false (sym rim ∙ ap (λ k. not (int_eq k (pos 0))) none)

-- ---- an edge sum is at most the number of triangles

abbrev one_if : Bool → ℕ
one_if b = cond b 1 0

one_at_most : (t : Tri) (u v : Pt) → same_point u v ≡ false → edge_count (t ∷ []) u v ≤ 1
one_at_most t u v apart =
    rw (edge_count-one t u v)
    (by (same_point t.a u) (same_point t.b v) (same_point t.b u) (same_point t.c v) (same_point t.c u)
    (same_point t.a v)
    (differ t.a) (differ t.b) (differ t.c))
  where
    differ : (w : Pt) → same_point w u ≡ true → same_point w v ≡ false
    differ w here = ap (λ x. same_point x v) (same_point-from w u here) ∙ apart

    by : (au bv bu cv cu av : Bool) → (au ≡ true → av ≡ false) → (bu ≡ true → bv ≡ false) → (cu ≡ true → cv ≡ false) →
        one_if (au && bv) + one_if (bu && cv) + one_if (cu && av) ≤ 1
    by au bv bu cv cu av a b c = grind (arith, rules)

pub edge_count-bound : (tris : List Tri) (u v : Pt) → same_point u v ≡ false → edge_count tris u v ≤ length tris
edge_count-bound [] u v apart = omega (arith, edge_count-none u v)
edge_count-bound (t ∷ tris) u v apart =
    let split = edge_count-append (t ∷ []) tris u v in
    let one = one_at_most t u v apart in
    let rest = edge_count-bound tris u v apart in
    omega arith

-- the sum of few triangles fits an i32
pub edge_sum-fits : (tris : List Tri) (u v : Pt) → is_before u v ≡ true → length tris ≤ MAX_SUMMED_TRIANGLES →
    FitsSigned w32 (edge_sum tris u v)
unfolding edge_sum
edge_sum-fits tris u v before few =
    let out = edge_count-bound tris u v (same_point-before u v before) in
    let into = edge_count-bound tris v u (same_point-after v u before) in
    by (edge_count tris u v) (edge_count tris v u) (omega arith) (omega arith)
  where
    by : (m n : ℕ) → m ≤ MAX_SUMMED_TRIANGLES → n ≤ MAX_SUMMED_TRIANGLES → FitsSigned w32 (pos m -ℤ pos n)
    by m n m_few n_few = omega (arith, ints)
