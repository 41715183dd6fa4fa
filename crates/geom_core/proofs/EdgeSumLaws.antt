-- Edge sums: turned edges, joined lists, and the triangles that change nothing.
use Rattle.std.proofs.Common.{◌≡◌, ℕ, ◌+◌, Bool, true, false, not, ◌&&◌, ℤ, pos, ◌+ℤ◌, ◌-ℤ◌, neg_ℤ, List, [], ◌∷◌, ◌++◌}
use Rattle.std.proofs.Common.{sum_by, flat_map, IsPermutation, if◌then◌else◌, refl, sym, ap, ◌∙◌, arith}
use Rattle.std.proofs.lemmas.Int.{ints}
use Rattle.std.proofs.lemmas.Grind.{flat_map-append}
use Rattle.std.proofs.lemmas.List.Sums.{sum_by-append}
use Rattle.std.proofs.lemmas.List.Sorted.{sum_by-IsPermutation}
use Rattle.std.specs.Ordering.{int_eq}
use Rattle.geom_core.specs.declared.points.Pt.{Pt}
use Rattle.geom_core.specs.declared.triangles.Tri.{Tri}
use Rattle.geom_core.specs.EdgeSum.{same_point, edges_of, edge_count, edge_sum, is_rim_edge}

pub edge_count-none : (u v : Pt) → edge_count [] u v ≡ 0
unfolding edge_count
edge_count-none u v = refl

-- the edges of two lists are those of one and those of the other
pub edge_count-append : (some more : List Tri) (u v : Pt) → edge_count (some ++ more) u v ≡
    edge_count some u v + edge_count more u v
unfolding edge_count
edge_count-append some more u v = rw (flat_map-append edges_of some more)
    (sum_by-append _ (flat_map edges_of some) (flat_map edges_of more))

-- an edge the other way counts the other way
pub edge_sum-turned : (tris : List Tri) (u v : Pt) → edge_sum tris v u ≡ neg_ℤ (edge_sum tris u v)
unfolding edge_sum
edge_sum-turned tris u v = omega (arith, ints)

pub edge_sum-none : (u v : Pt) → edge_sum [] u v ≡ pos 0
unfolding edge_sum
edge_sum-none u v = rw (edge_count-none u v, edge_count-none v u)

-- a point has no edge sum to itself
pub edge_sum-same : (tris : List Tri) (u : Pt) → edge_sum tris u u ≡ pos 0
unfolding edge_sum
edge_sum-same tris u = omega (arith, ints)

pub edge_sum-append : (some more : List Tri) (u v : Pt) → edge_sum (some ++ more) u v ≡
    edge_sum some u v +ℤ edge_sum more u v
unfolding edge_sum
edge_sum-append some more u v = omega (arith, ints, edge_count-append some more u v, edge_count-append some more v u)

-- whether edges cancel doesn't depend on the way
pub is_rim_edge-turned : (tris : List Tri) (u v : Pt) → is_rim_edge tris v u ≡ is_rim_edge tris u v
unfolding is_rim_edge
is_rim_edge-turned tris u v = rw (edge_sum-turned tris u v) (turned (edge_sum tris u v))
  where
    turned : (k : ℤ) → not (int_eq (neg_ℤ k) (pos 0)) ≡ not (int_eq k (pos 0))
    turned k = grind (arith, ints)

-- ---- one triangle

pub edge_count-one : (t : Tri) (u v : Pt) → edge_count (t ∷ []) u v ≡
    (if same_point t.a u && same_point t.b v then 1 else 0) +
    (if same_point t.b u && same_point t.c v then 1 else 0) +
    (if same_point t.c u && same_point t.a v then 1 else 0)
unfolding edge_count edges_of
edge_count-one t u v = omega arith

-- the first triangle and the rest
pub edge_sum-first : (t : Tri) (tris : List Tri) (u v : Pt) → edge_sum (t ∷ tris) u v ≡
    edge_sum (t ∷ []) u v +ℤ edge_sum tris u v
edge_sum-first t tris u v = edge_sum-append (t ∷ []) tris u v

-- the corners in turn
pub edge_sum-rotated : (a b c u v : Pt) → edge_sum (record { a = b; b = c; c = a } ∷ []) u v ≡
    edge_sum (record { a = a; b = b; c = c } ∷ []) u v
unfolding edge_sum
edge_sum-rotated a b c u v =
    rw (
      edge_count-one (record { a = b; b = c; c = a }) u v,
      edge_count-one (record { a = b; b = c; c = a }) v u,
      edge_count-one (record { a = a; b = b; c = c }) u v,
      edge_count-one (record { a = a; b = b; c = c }) v u,
    ) (omega (arith, ints))

and_turned : (p q : Bool) → p && q ≡ q && p
and_turned true true = refl
and_turned true false = refl
and_turned false true = refl
and_turned false false = refl

-- a triangle with two corners in one place has edges that cancel
pub edge_sum-degenerate : (a c u v : Pt) → edge_sum (record { a = a; b = a; c = c } ∷ []) u v ≡ pos 0
unfolding edge_sum
edge_sum-degenerate a c u v =
    rw (edge_count-one (record { a = a; b = a; c = c }) u v, edge_count-one (record { a = a; b = a; c = c }) v u)
    (cancels (same_point a u) (same_point a v) (same_point c u) (same_point c v))
  where
    cancels : (au av cu cv : Bool) →
        pos ((if au && av then 1 else 0) + (if au && cv then 1 else 0) + (if cu && av then 1 else 0)) -ℤ
        pos ((if av && au then 1 else 0) + (if av && cu then 1 else 0) + (if cv && au then 1 else 0)) ≡ pos 0
    cancels au av cu cv = rw (and_turned av au, and_turned av cu, and_turned cv au) (omega (arith, ints))

-- the same, whichever two corners they are
pub edge_sum-equal_ab : (t : Tri) (u v : Pt) → t.a ≡ t.b → edge_sum (t ∷ []) u v ≡ pos 0
edge_sum-equal_ab t u v same =
    ap (λ p. edge_sum (record t { b = p } ∷ []) u v) (sym same) ∙ edge_sum-degenerate t.a t.c u v

pub edge_sum-equal_bc : (t : Tri) (u v : Pt) → t.b ≡ t.c → edge_sum (t ∷ []) u v ≡ pos 0
edge_sum-equal_bc t u v same =
    sym (edge_sum-rotated t.a t.b t.c u v) ∙ edge_sum-equal_ab (record { a = t.b; b = t.c; c = t.a }) u v same

pub edge_sum-equal_ca : (t : Tri) (u v : Pt) → t.c ≡ t.a → edge_sum (t ∷ []) u v ≡ pos 0
edge_sum-equal_ca t u v same =
    sym (edge_sum-rotated t.a t.b t.c u v) ∙ edge_sum-equal_bc (record { a = t.b; b = t.c; c = t.a }) u v same

-- the order of the triangles doesn't matter
sum_by-first : (f : Tri → ℕ) (t : Tri) (tris : List Tri) → sum_by f (t ∷ tris) ≡ f t + sum_by f tris
sum_by-first f t tris = let split = sum_by-append f (t ∷ []) tris in omega arith

edge_count-sum : (tris : List Tri) (u v : Pt) → edge_count tris u v ≡ sum_by (λ t. edge_count (t ∷ []) u v) tris
edge_count-sum [] u v = edge_count-none u v
edge_count-sum (t ∷ tris) u v =
    edge_count-append (t ∷ []) tris u v ∙ ap (λ n. edge_count (t ∷ []) u v + n) (edge_count-sum tris u v) ∙
    sym (sum_by-first (λ t. edge_count (t ∷ []) u v) t tris)

edge_count-IsPermutation : (tris others : List Tri) (u v : Pt) → IsPermutation tris others →
    edge_count others u v ≡ edge_count tris u v
edge_count-IsPermutation tris others u v moved =
    edge_count-sum others u v ∙ sum_by-IsPermutation (λ t. edge_count (t ∷ []) u v) tris others moved ∙
    sym (edge_count-sum tris u v)

pub edge_sum-IsPermutation : (tris others : List Tri) (u v : Pt) → IsPermutation tris others →
    edge_sum others u v ≡ edge_sum tris u v
unfolding edge_sum
edge_sum-IsPermutation tris others u v moved =
    rw (edge_count-IsPermutation tris others u v moved, edge_count-IsPermutation tris others v u moved)
