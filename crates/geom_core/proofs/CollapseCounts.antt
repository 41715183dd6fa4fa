-- Collapses: how many triangles are left, and collapses of items that carry more than a triangle.
use Rattle.std.proofs.Common.{◌≡◌, ◌≢◌, ◌+◌, ◌≤◌, ◌<◌, Bool, true, false, not, ◌&&◌, List, [], ◌∷◌, map, filter}
use Rattle.std.proofs.Common.{cond, length, get_or, count_by, Any, IsTrue, inl, inr, refl, sym, ap, ◌∙◌, arith}
use Rattle.std.proofs.lemmas.Bool.{and_parts, cases_Bool}
use Rattle.std.proofs.lemmas.List.{get_or-map, length-map}
use Rattle.std.proofs.lemmas.List.Filters.{length-filter_both}
use Rattle.std.proofs.lemmas.List.Sums.{length-filter, get_or-le-sum_by}
use Rattle.geom_core.specs.declared.points.Pt.{Pt}
use Rattle.geom_core.specs.declared.triangles.Tri.{Tri}
use Rattle.geom_core.specs.EdgeSum.{same_point}
use Rattle.geom_core.specs.Limits.{has_distinct_corners}
use Rattle.geom_core.specs.Corners.{has_corner}
use Rattle.geom_core.specs.Collapses.{replaced_point, replaced, collapsed}
use Rattle.geom_core.proofs.PointLaws.{same_point-refl}
use Rattle.geom_core.proofs.CollapseLaws.{replaced_point-at, replaced_point-off}
use Rattle.geom_core.proofs.CollapseCorners.{at_corner}

-- ---- a triangle with both points

flat_ab : (t : Tri) → t.a ≡ t.b → has_distinct_corners t ≡ false
unfolding has_distinct_corners
flat_ab t same = rw (same_point-refl t.a t.b same)

flat_bc : (t : Tri) → t.b ≡ t.c → has_distinct_corners t ≡ false
unfolding has_distinct_corners
flat_bc t same = rw (same_point-refl t.b t.c same) (second (not (same_point t.a t.b)) (not (same_point t.c t.a)))
  where
    second : (x y : Bool) → x && false && y ≡ false
    second true y = refl
    second false y = refl

flat_ca : (t : Tri) → t.c ≡ t.a → has_distinct_corners t ≡ false
unfolding has_distinct_corners
flat_ca t same = rw (same_point-refl t.c t.a same) (third (not (same_point t.a t.b)) (not (same_point t.b t.c)))
  where
    third : (x y : Bool) → x && y && false ≡ false
    third true true = refl
    third true false = refl
    third false y = refl

-- it gets two equal corners
pub replaced-flat : (a b : Pt) (t : Tri) → a ≢ b → has_corner a t ≡ true → has_corner b t ≡ true →
    has_distinct_corners (replaced a b t) ≡ false
unfolding replaced
replaced-flat a b t apart has_a has_b =
    at_corner (λ p. p ≢ b → after p ≡ after b → has_distinct_corners (replaced a b t) ≡ false) a t
    (at_corner (λ q. t.a ≢ q → after t.a ≡ after q → has_distinct_corners (replaced a b t) ≡ false) b t
    (λ off same. absurd (off refl)) (λ off same. flat_ab moved same) (λ off same. flat_ca moved (sym same)) has_b)
    (at_corner (λ q. t.b ≢ q → after t.b ≡ after q → has_distinct_corners (replaced a b t) ≡ false) b t
    (λ off same. flat_ab moved (sym same)) (λ off same. absurd (off refl)) (λ off same. flat_bc moved same) has_b)
    (at_corner (λ q. t.c ≢ q → after t.c ≡ after q → has_distinct_corners (replaced a b t) ≡ false) b t
    (λ off same. flat_ca moved same) (λ off same. flat_bc moved (sym same)) (λ off same. absurd (off refl)) has_b)
    has_a apart (replaced_point-at a b a refl ∙ sym (replaced_point-off a b b (λ e. apart (sym e))))
  where
    after : Pt → Pt
    after p = replaced_point a b p

    moved : Tri
    moved = record { a = after t.a; b = after t.b; c = after t.c }

-- ---- how many are left

-- those that are left and those that are left out are all
length-collapsed : (a b : Pt) (tris : List Tri) →
    length (collapsed a b tris) + count_by (λ t. not (has_distinct_corners t)) (map (replaced a b) tris) ≡ length tris
unfolding collapsed
length-collapsed a b tris =
    ap (λ n. length (filter has_distinct_corners (map (replaced a b) tris)) + n)
    (sym (length-filter (λ t. not (has_distinct_corners t)) (map (replaced a b) tris))) ∙
    length-filter_both has_distinct_corners (λ t. not (has_distinct_corners t)) (λ t. refl) (map (replaced a b) tris) ∙
    length-map tris (replaced a b)

pub length-le-collapsed : (a b : Pt) (tris : List Tri) → length (collapsed a b tris) ≤ length tris
length-le-collapsed a b tris = omega (arith, length-collapsed a b tris)

pub length-lt-collapsed : (a b : Pt) (tris : List Tri) → a ≢ b →
    Any (λ t. IsTrue (has_corner a t && has_corner b t)) tris → length (collapsed a b tris) < length tris
length-lt-collapsed a b tris apart any =
    let both = and_parts (has_corner a any.1) (has_corner b any.1) any.4 in
    let flat = replaced-flat a b any.1 apart both.0 both.1 in
    let at : get_or (map (replaced a b) tris) any.0 any.1 ≡ replaced a b any.1 =
    get_or-map (replaced a b) tris any.0 any.1 any.1 any.2 ∙ ap (replaced a b) any.3 in
    let counted = rw (at, flat) at (get_or-le-sum_by (λ t. cond (not (has_distinct_corners t)) 1 0)
    (map (replaced a b) tris) any.0 any.1 (rw (length-map tris (replaced a b)) any.2)) in
    omega (arith, counted, length-collapsed a b tris)

-- ---- items that carry a triangle

-- where a step replaces the point in each item's triangle, the triangles of the items whose triangle then has
-- distinct corners are those of the collapse
pub map-collapsed : {X : Type 0} (tri_of : X → Tri) (step : X → X) (a b : Pt) →
    ((x : X) → tri_of (step x) ≡ replaced a b (tri_of x)) → (items : List X) →
    map tri_of (filter (λ x. has_distinct_corners (tri_of x)) (map step items)) ≡ collapsed a b (map tri_of items)
unfolding collapsed
map-collapsed tri_of step a b replaces [] = refl
map-collapsed tri_of step a b replaces (x ∷ items) =
    elim (cases_Bool (has_distinct_corners (replaced a b (tri_of x)))) [
      | inl distinct ↦
          rw (replaces x, distinct, replaces x, map-collapsed tri_of step a b replaces items)
      | inr flat ↦ rw (replaces x, flat) (map-collapsed tri_of step a b replaces items)
    ]
