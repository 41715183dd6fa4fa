-- Two corners exchanged: the triangle covers the same pixels with the same words, and its divisor changes its sign.
use Rattle.std.proofs.Common.{◌≡◌, ◌≢◌, ℕ, Bool, true, false, not, List, [], ◌∷◌, map, filter, min, max, ℤ, pos, ◌+ℤ◌}
use Rattle.std.proofs.Common.{◌*ℤ◌, neg_ℤ, refl, sym, ap, ◌∙◌, arith}
use Rattle.std.proofs.lemmas.Int.{ints}
use Rattle.std.specs.List.{range_with_len}
use Rattle.std.specs.Ordering.{int_eq}
use Rattle.geom_core.specs.declared.screens.Spot.{Spot}
use Rattle.geom_core.specs.Winding.{edge_function, winding}
use Rattle.geom_core.specs.Depth.{divisor, weighted, depth}
use Rattle.geom_core.specs.Coverage.{covers, word_at, word_of}
use Rattle.geom_core.proofs.Differences.{as_dif, difs, dif-same}
use Rattle.geom_core.proofs.DivisorLaws.{divisor-is, edge_function-turned}
use Rattle.geom_core.proofs.FloorLaws.{floor_div-turned}
use Rattle.geom_core.proofs.WindingLaws.{winding-turned}
use Rattle.raster64.specs.declared.raster.ScreenTriangle.{ScreenTriangle}
use Rattle.raster64.specs.Internal.Raster.{is_covered, draw_at, exchanged, words_in}

shares_turned : (p q r u v w : ℤ) → neg_ℤ p *ℤ u +ℤ neg_ℤ r *ℤ w +ℤ neg_ℤ q *ℤ v ≡ neg_ℤ (p *ℤ u +ℤ q *ℤ v +ℤ r *ℤ w)
shares_turned p q r u v w =
    rw (as_dif p, as_dif q, as_dif r, as_dif u, as_dif v, as_dif w) (simp difs (omega (arith, dif-same)))

sum_turned : (p q r : ℤ) → neg_ℤ p +ℤ neg_ℤ r +ℤ neg_ℤ q ≡ neg_ℤ (p +ℤ q +ℤ r)
sum_turned p q r = omega (arith, ints)

weighted-exchanged : (a b c : Spot) (x y : ℤ) → weighted a c b x y ≡ neg_ℤ (weighted a b c x y)
unfolding weighted
weighted-exchanged a b c x y =
    rw (edge_function-turned c b x y, edge_function-turned b a x y, edge_function-turned a c x y)
    (shares_turned (edge_function b c x y) (edge_function c a x y) (edge_function a b x y) (pos a.z) (pos b.z)
    (pos c.z))

divisor-exchanged : (a b c : Spot) (x y : ℤ) → divisor a c b x y ≡ neg_ℤ (divisor a b c x y)
unfolding divisor
divisor-exchanged a b c x y =
    rw (edge_function-turned c b x y, edge_function-turned b a x y, edge_function-turned a c x y)
    (sum_turned (edge_function b c x y) (edge_function c a x y) (edge_function a b x y))

-- twice the area, with a sign
pub area-exchanged : (a b c : Spot) → edge_function a c b.x b.y ≡ neg_ℤ (edge_function a b c.x c.y)
area-exchanged a b c =
    sym (divisor-is a c b (pos 0) (pos 0)) ∙ divisor-exchanged a b c (pos 0) (pos 0) ∙
    ap neg_ℤ (divisor-is a b c (pos 0) (pos 0))

depth-exchanged : (a b c : Spot) (x y : ℤ) → divisor a b c x y ≢ pos 0 → depth a c b x y ≡ depth a b c x y
unfolding depth
depth-exchanged a b c x y nonzero =
    let least : min a.z (min c.z b.z) ≡ min a.z (min b.z c.z) = omega arith in
    let greatest : max a.z (max c.z b.z) ≡ max a.z (max b.z c.z) = omega arith in
    rw (
      weighted-exchanged a b c x y,
      divisor-exchanged a b c x y,
      floor_div-turned (weighted a b c x y) (divisor a b c x y) nonzero,
      least,
      greatest,
    ) refl

same_round : (w : ℤ) → not (int_eq (neg_ℤ w) (pos 0)) ≡ not (int_eq w (pos 0))
same_round w = grind (arith, ints)

-- ---- the words of a stretch

map-filter_same : (f g : ℕ → ℕ × ℕ) (p q : ℕ → Bool) → ((k : ℕ) → f k ≡ g k) → ((k : ℕ) → p k ≡ q k) → (xs : List ℕ) →
    map f (filter p xs) ≡ map g (filter q xs)
map-filter_same f g p q same_f same_p [] = refl
map-filter_same f g p q same_f same_p (x ∷ xs) = step (q x) (map-filter_same f g p q same_f same_p xs) (same_p x) refl
  where
    step : (b : Bool) → map f (filter p xs) ≡ map g (filter q xs) → p x ≡ b → q x ≡ b →
        map f (filter p (x ∷ xs)) ≡ map g (filter q (x ∷ xs))
    step true more e i = rw (e, i, same_f x, more) refl
    step false more e i = rw (e, i) more

pub words_in-exchanged : (d : ScreenTriangle) (first count : ℕ) → edge_function d.a d.b d.c.x d.c.y ≢ pos 0 →
    words_in (exchanged d) first count ≡ words_in d first count
unfolding words_in covers word_at
words_in-exchanged d first count nonzero =
    map-filter_same (draw_at (exchanged d)) (draw_at d) (is_covered (exchanged d)) (is_covered d)
    (λ k. ap (λ z. (k, word_of z d.cluster d.tri))
    (depth-exchanged d.a d.b d.c _ _ (λ e. nonzero (sym (divisor-is d.a d.b d.c _ _) ∙ e))))
    (λ k. ap (λ w. not (int_eq w (pos 0))) (winding-turned d.a d.b d.c _ _) ∙ same_round (winding d.a d.b d.c _ _))
    (range_with_len first count)
