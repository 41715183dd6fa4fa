-- Two triangles on the two sides of a shared edge share no point, and a triangle's points lie within its box.
use Rattle.std.proofs.Common.{◌≡◌, ◌≢◌, ⊎_elim, Bool, true, false, ℤ, pos, ◌+ℤ◌, ◌-ℤ◌, ◌*ℤ◌, neg_ℤ, ◌<ℤ◌, ◌≤ℤ◌, int_le}
use Rattle.std.proofs.Common.{int_lt, refl, sym, ap, ◌∙◌, arith}
use Rattle.std.proofs.lemmas.Int.{ints, clamps, by_lt_z}
use Rattle.std.specs.Int.{int_min, int_max}
use Rattle.geom_core.specs.declared.screens.Spot.{Spot}
use Rattle.geom_core.specs.Winding.{edge_function, winding}
use Rattle.geom_core.specs.Depth.{divisor}
use Rattle.geom_core.proofs.Differences.{as_dif, difs, dif-same}
use Rattle.geom_core.proofs.Signs.{product_not_positive, product_positive}
use Rattle.geom_core.proofs.Crossings.{step, reaches, beside, winding-steps}
use Rattle.geom_core.proofs.DivisorLaws.{divisor-is, edge_function-turned}
use Rattle.geom_core.proofs.InterpolationLaws.{TurnsForth, winding-turns, edges_balance}
use Rattle.geom_core.proofs.WindingLaws.{winding-rotated, winding-turned, winding-left, winding-right, winding-above}
use Rattle.geom_core.proofs.WindingLaws.{winding-below}
use Rattle.raster64.specs.Sides.{AreOpposite, IsInBox}
use Rattle.raster64.proofs.SpanLaws.{less_false}

-- ---- the direction in which a triangle winds

not_both : (p q r e : ℤ) → p +ℤ q +ℤ r ≡ e → pos 0 <ℤ e → pos 0 ≤ℤ neg_ℤ p → pos 0 ≤ℤ neg_ℤ q → pos 0 ≤ℤ neg_ℤ r → ⊥
not_both p q r e sum positive h i j = omega (arith, ints)

-- a triangle of positive area winds forth
forth : (a b c : Spot) (x y : ℤ) → winding a b c x y ≢ pos 0 → pos 0 <ℤ edge_function a b c.x c.y → TurnsForth a b c x y
unfolding divisor
forth a b c x y round positive =
    ⊎_elim (λ h. h)
    (λ h. absurd (not_both (edge_function b c x y) (edge_function c a x y) (edge_function a b x y)
    (edge_function a b c.x c.y)
    (divisor-is a b c x y) positive (rw edge_function-turned at h.first) (rw edge_function-turned at h.third)
    (rw edge_function-turned at h.second)))
    (winding-turns a b c x y round)

-- an edge function that isn't positive, seen the other way
behind : (s t : Spot) (x y : ℤ) → pos 0 ≤ℤ edge_function t s x y → beside s t x y ≡ false
behind s t x y h = less_false (pos 0) (edge_function s t x y) (rw (edge_function-turned s t x y) (omega (arith, ints)))

-- ---- where the height has reached the first corner and not the second, and the point is on the edge between them

steps_first : (at_c ab ba bc cb ca ac : Bool) → ab ≡ false → ac ≡ false → cb ≡ false →
    step true false ab ba +ℤ step false at_c bc cb +ℤ step at_c true ca ac ≡ pos 0
steps_first true ab ba bc cb ca ac e f h = rw (e, h) refl
steps_first false ab ba bc cb ca ac e f h = rw (e, f) refl

on_first : (a b c : Spot) (x y : ℤ) → TurnsForth a b c x y → edge_function a b x y ≤ℤ pos 0 →
    reaches y a ≡ true → reaches y b ≡ false → winding a b c x y ≡ pos 0
on_first a b c x y turns none of_a of_b =
    winding-steps a b c x y ∙
    rw (of_a, of_b)
    (steps_first (reaches y c) (beside a b x y) (beside b a x y) (beside b c x y) (beside c b x y) (beside c a x y)
    (beside a c x y)
    (less_false (pos 0) (edge_function a b x y) none) (behind a c x y turns.second) (behind c b x y turns.first))

-- ---- where the height has reached both corners, or neither

steps_both : (at_c ab ba bc cb ca ac : Bool) → ac ≡ false →
    step true true ab ba +ℤ step true at_c bc cb +ℤ step at_c true ca ac ≢ pos 0 → (at_c ≡ false) × (bc ≡ true)
steps_both true ab ba bc cb ca ac e round = absurd (round refl)
steps_both false ab ba true cb ca ac e round = (refl, refl)
steps_both false ab ba false cb ca ac e round = absurd (round (rw e refl))

steps_neither : (at_c ab ba bc cb ca ac : Bool) → cb ≡ false →
    step false false ab ba +ℤ step false at_c bc cb +ℤ step at_c false ca ac ≢ pos 0 → (at_c ≡ true) × (ca ≡ true)
steps_neither false ab ba bc cb ca ac e round = absurd (round refl)
steps_neither true ab ba bc cb true ac e round = (refl, refl)
steps_neither true ab ba bc cb false ac e round = absurd (round (rw e refl))

-- what a third corner owes to the height being at or below both ends of the edge
record Above (a b c : Spot) (x y : ℤ) : Type 0 where
  at_c : y <ℤ c.y
  across : pos 0 <ℤ edge_function b c x y

both_reached : (a b c : Spot) (x y : ℤ) → TurnsForth a b c x y → winding a b c x y ≢ pos 0 →
    reaches y a ≡ true → reaches y b ≡ true → Above a b c x y
both_reached a b c x y turns round of_a of_b =
    let s : (reaches y c ≡ false) × (beside b c x y ≡ true) =
    steps_both (reaches y c) (beside a b x y) (beside b a x y) (beside b c x y) (beside c b x y) (beside c a x y)
    (beside a c x y)
    (behind a c x y turns.second)
    (λ e. round (winding-steps a b c x y ∙ rw (of_a, of_b) e)) in
    record { at_c = later c.y y s.0; across = positive (edge_function b c x y) s.1 }
  where
    later : (h y : ℤ) → int_le h y ≡ false → y <ℤ h
    later h y e = omega (arith, ints)

    positive : (k : ℤ) → int_lt (pos 0) k ≡ true → pos 0 <ℤ k
    positive k e = omega (arith, ints)

none_left : (k m : ℤ) → k +ℤ pos 0 *ℤ m ≡ k
none_left k m = rw (as_dif k, as_dif m) (simp difs (omega (arith, dif-same)))

-- the point is on the line, so the first corner is level with it
level : (a b c : Spot) (x y : ℤ) → TurnsForth a b c x y → edge_function a b x y ≡ pos 0 → a.y ≤ℤ y → b.y ≤ℤ y →
    pos 0 <ℤ edge_function b c x y → a.y ≡ y
level a b c x y turns flat at_a at_b across =
    let e : edge_function b c x y *ℤ neg_ℤ (a.y -ℤ y) ≡ edge_function c a x y *ℤ (b.y -ℤ y) =
    edges_balance a b c x y ∙ rw flat (none_left (edge_function c a x y *ℤ (b.y -ℤ y)) (c.y -ℤ y)) in
    by_lt_z a.y y
    (λ below. absurd (clash (edge_function b c x y *ℤ neg_ℤ (a.y -ℤ y)) (edge_function c a x y *ℤ (b.y -ℤ y)) e
    (product_positive (edge_function b c x y) (neg_ℤ (a.y -ℤ y)) across (omega (arith, ints)))
    (rw product_turned (product_not_positive (b.y -ℤ y) (edge_function c a x y) (omega (arith, ints)) turns.second))))
    (λ above. omega (arith, ints))
  where
    clash : (k m : ℤ) → k ≡ m → pos 0 <ℤ k → m ≤ℤ pos 0 → ⊥
    clash k m e h i = omega (arith, ints)

    product_turned : (p q : ℤ) → p *ℤ q ≡ q *ℤ p
    product_turned p q = rw (as_dif p, as_dif q) (simp difs (omega (arith, dif-same)))

level_product : (a b c : Spot) (y : ℤ) → a.y ≡ y → b.y ≡ y → edge_function a b c.x c.y ≡ (b.x -ℤ a.x) *ℤ (c.y -ℤ y)
unfolding edge_function
level_product a b c y at_a at_b = rw (at_a, at_b) (same_height (b.x -ℤ a.x) (c.y -ℤ y) y (c.x -ℤ a.x))
  where
    same_height : (u v y w : ℤ) → u *ℤ v -ℤ (y -ℤ y) *ℤ w ≡ u *ℤ v
    same_height u v y w = rw (as_dif u, as_dif v, as_dif y, as_dif w) (simp difs (omega (arith, dif-same)))

-- a level edge can't have both corners above it on opposite sides
one_side : (u p q : ℤ) → pos 0 <ℤ p → pos 0 <ℤ q → pos 0 <ℤ (u *ℤ p) → (u *ℤ q) <ℤ pos 0 → ⊥
one_side u p q at_p at_q h i =
    by_lt_z (pos 0) u
    (λ right. clash (u *ℤ q) (product_positive u q right at_q) i)
    (λ left. clash_low (u *ℤ p) (product_not_positive u p left (omega (arith, ints))) h)
  where
    clash : (k : ℤ) → pos 0 <ℤ k → k <ℤ pos 0 → ⊥
    clash k j l = omega (arith, ints)

    clash_low : (k : ℤ) → k ≤ℤ pos 0 → pos 0 <ℤ k → ⊥
    clash_low k j l = omega (arith, ints)

neither_reached : (a b c : Spot) (x y : ℤ) → TurnsForth a b c x y → winding a b c x y ≢ pos 0 →
    edge_function a b x y ≡ pos 0 →
    reaches y a ≡ false → reaches y b ≡ false → ⊥
neither_reached a b c x y turns round flat of_a of_b =
    let s : (reaches y c ≡ true) × (beside c a x y ≡ true) =
    steps_neither (reaches y c) (beside a b x y) (beside b a x y) (beside b c x y) (beside c b x y) (beside c a x y)
    (beside a c x y)
    (behind c b x y turns.first)
    (λ e. round (winding-steps a b c x y ∙ rw (of_a, of_b) e)) in
    let e : edge_function b c x y *ℤ neg_ℤ (a.y -ℤ y) ≡ edge_function c a x y *ℤ (b.y -ℤ y) =
    edges_balance a b c x y ∙ rw flat (none_left (edge_function c a x y *ℤ (b.y -ℤ y)) (c.y -ℤ y)) in
    clash (edge_function b c x y *ℤ neg_ℤ (a.y -ℤ y)) (edge_function c a x y *ℤ (b.y -ℤ y)) e
    (rw product_turned (product_not_positive (neg_ℤ (a.y -ℤ y)) (edge_function b c x y)
    (omega (arith, ints)) turns.first))
    (product_positive (edge_function c a x y) (b.y -ℤ y) (positive (edge_function c a x y) s.1) (omega (arith, ints)))
  where
    clash : (k m : ℤ) → k ≡ m → k ≤ℤ pos 0 → pos 0 <ℤ m → ⊥
    clash k m e h i = omega (arith, ints)

    positive : (k : ℤ) → int_lt (pos 0) k ≡ true → pos 0 <ℤ k
    positive k e = omega (arith, ints)

    product_turned : (p q : ℤ) → p *ℤ q ≡ q *ℤ p
    product_turned p q = rw (as_dif p, as_dif q) (simp difs (omega (arith, dif-same)))

-- ---- the law

reached : (h y : ℤ) → int_le h y ≡ true → h ≤ℤ y
reached h y e = omega (arith, ints)

-- c on the positive side, d on the other
apart : (a b c d : Spot) (x y : ℤ) → pos 0 <ℤ edge_function a b c.x c.y → edge_function a b d.x d.y <ℤ pos 0 →
    winding a b c x y ≢ pos 0 → winding b a d x y ≢ pos 0 → ⊥
apart a b c d x y at_c at_d round other =
    let turns = forth a b c x y round at_c in
    let turned_d : pos 0 <ℤ edge_function b a d.x d.y = rw (edge_function-turned b a d.x d.y) (omega (arith, ints)) in
    let back = forth b a d x y other turned_d in
    let reversed = edge_function-turned b a x y in
    let flat : edge_function a b x y ≡ pos 0 = omega (arith, ints, turns.third, rw reversed at back.third) in
    let flat_back : edge_function b a x y ≡ pos 0 = reversed ∙ ap neg_ℤ flat in
    by_heights (reaches y a) (reaches y b) refl refl turns back flat flat_back
  where
    by_heights : (at_a at_b : Bool) → reaches y a ≡ at_a → reaches y b ≡ at_b → TurnsForth a b c x y →
        TurnsForth b a d x y →
        edge_function a b x y ≡ pos 0 → edge_function b a x y ≡ pos 0 → ⊥
    by_heights true false e f turns back flat flat_back =
        round (on_first a b c x y turns (rw flat (omega (arith, ints))) e f)
    by_heights false true e f turns back flat flat_back =
        other (on_first b a d x y back (rw flat_back (omega (arith, ints))) f e)
    by_heights false false e f turns back flat flat_back = neither_reached a b c x y turns round flat e f
    by_heights true true e f turns back flat flat_back =
        let above = both_reached a b c x y turns round e f in
        let above_d = both_reached b a d x y back other f e in
        let first = level a b c x y turns flat (reached a.y y e) (reached b.y y f) above.across in
        let second = level b a d x y back flat_back (reached b.y y f) (reached a.y y e) above_d.across in
        one_side (b.x -ℤ a.x) (c.y -ℤ y) (d.y -ℤ y) (ahead y c.y above.at_c) (ahead y d.y above_d.at_c)
        (rw (level_product a b c y first second) at at_c) (rw (level_product a b d y first second) at at_d)
      where
        ahead : (k m : ℤ) → k <ℤ m → pos 0 <ℤ (m -ℤ k)
        ahead k m h = omega (arith, ints)

-- the triangle with its first two corners exchanged winds round the same points
exchanged_round : (a b c : Spot) (x y : ℤ) → winding a b c x y ≢ pos 0 → winding b a c x y ≢ pos 0
exchanged_round a b c x y round e =
    let f : winding a c b x y ≡ winding b a c x y = winding-rotated b a c x y in
    round (from_turned (winding a b c x y) (sym (winding-turned a b c x y) ∙ f ∙ e))
  where
    from_turned : (w : ℤ) → neg_ℤ w ≡ pos 0 → w ≡ pos 0
    from_turned w h = omega (arith, ints)

pub shared_edge : (a b c d : Spot) (x y : ℤ) → AreOpposite a b c d → winding a b c x y ≢ pos 0 →
    winding b a d x y ≢ pos 0 → ⊥
shared_edge a b c d x y sides round other =
    ⊎_elim
    (λ h. apart a b c d x y h.0 h.1 round other)
    (λ h. apart a b d c x y h.1 h.0 (exchanged_round b a d x y other) (exchanged_round a b c x y round))
    sides

-- ---- the box

pub covered_in_box : (a b c : Spot) (x y : ℤ) → winding a b c x y ≢ pos 0 → IsInBox a b c x y
covered_in_box a b c x y round = record {
  left = by_lt_z x (int_min a.x (int_min b.x c.x))
      (λ h. absurd (round (winding-left a b c x y (omega (arith, ints, clamps)) (omega (arith, ints, clamps))
      (omega (arith, ints, clamps))))) (λ h. h);
  right = by_lt_z x (int_max a.x (int_max b.x c.x)) (λ h. h)
      (λ h. absurd (round (winding-right a b c x y (omega (arith, ints, clamps)) (omega (arith, ints, clamps))
      (omega (arith, ints, clamps)))));
  top = by_lt_z y (int_min a.y (int_min b.y c.y))
      (λ h. absurd (round (winding-above a b c x y (omega (arith, ints, clamps)) (omega (arith, ints, clamps))
      (omega (arith, ints, clamps))))) (λ h. h);
  bottom = by_lt_z y (int_max a.y (int_max b.y c.y)) (λ h. h)
      (λ h. absurd (round (winding-below a b c x y (omega (arith, ints, clamps)) (omega (arith, ints, clamps))
      (omega (arith, ints, clamps)))));
}
