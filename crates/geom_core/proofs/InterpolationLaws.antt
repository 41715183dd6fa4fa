-- Where the triangle winds round the point, the three edge functions have one sign: the point is in the triangle,
-- and the interpolated depth lies between its corners' depths by itself.
use Rattle.std.proofs.Common.{◌≡◌, ◌≢◌, ◌⊎◌, inl, inr, ℕ, ◌*◌, ◌≤◌, min, max, Bool, true, false, ℤ, pos, ◌+ℤ◌, ◌-ℤ◌}
use Rattle.std.proofs.Common.{◌*ℤ◌, neg_ℤ, ◌<ℤ◌, ◌≤ℤ◌, unsigned_abs, refl, sym, subst, ◌∙◌, arith}
use Rattle.std.proofs.lemmas.Int.{ints, by_lt_z}
use Rattle.geom_core.specs.declared.screens.Spot.{Spot}
use Rattle.geom_core.specs.Floor.{floor_div}
use Rattle.geom_core.specs.Winding.{edge_function, winding}
use Rattle.geom_core.specs.Depth.{divisor, weighted, depth}
use Rattle.geom_core.proofs.Differences.{as_dif, difs, dif-same}
use Rattle.geom_core.proofs.Signs.{product_not_negative, product_not_positive, product_positive}
use Rattle.geom_core.proofs.Crossings.{step, reaches, beside, steps_cancel, winding-steps}
use Rattle.std.proofs.lemmas.Int.{unsigned_abs-mul}
use Rattle.geom_core.proofs.DivisorLaws.{divisor_nonzero, edge_function-turned}
use Rattle.geom_core.proofs.FloorLaws.{floor_div-turned, floor_div-at_least, floor_div-at_most}
use Rattle.geom_core.proofs.DepthLaws.{held-inside}

-- ---- the sign of a factor

factor_positive : (p u : ℤ) → pos 0 ≤ℤ u → pos 0 <ℤ (p *ℤ u) → pos 0 <ℤ p
factor_positive p u h k = by_lt_z (pos 0) p (λ yes. yes)
    (λ no. absurd (clash (p *ℤ u) k (product_not_positive p u no h)))
  where
    clash : (z : ℤ) → pos 0 <ℤ z → z ≤ℤ pos 0 → ⊥
    clash z i j = omega (arith, ints)

turned_factor : (p u : ℤ) → neg_ℤ p *ℤ u ≡ neg_ℤ (p *ℤ u)
turned_factor p u = rw (as_dif p, as_dif u) (simp difs (omega (arith, dif-same)))

factor_not_negative : (p u : ℤ) → pos 0 <ℤ u → pos 0 ≤ℤ (p *ℤ u) → pos 0 ≤ℤ p
factor_not_negative p u h k =
    by_lt_z p (pos 0)
    (λ below. let m = product_positive (neg_ℤ p) u (omega (arith, ints)) h in
    absurd (clash (p *ℤ u) k (rw turned_factor at m)))
    (λ yes. yes)
  where
    clash : (z : ℤ) → pos 0 ≤ℤ z → pos 0 <ℤ neg_ℤ z → ⊥
    clash z i j = omega (arith, ints)

-- ---- edge functions seen from the point

crossed : (x₁ y₁ x₂ y₂ x y : ℤ) → (x₂ -ℤ x₁) *ℤ (y -ℤ y₁) -ℤ (y₂ -ℤ y₁) *ℤ (x -ℤ x₁) ≡
    (x₁ -ℤ x) *ℤ (y₂ -ℤ y) -ℤ (x₂ -ℤ x) *ℤ (y₁ -ℤ y)
crossed x₁ y₁ x₂ y₂ x y =
    rw (as_dif x₁, as_dif y₁, as_dif x₂, as_dif y₂, as_dif x, as_dif y) (simp difs (omega (arith, dif-same)))

-- the edge function is the cross product of the ends as seen from the point
pub edge_function-crossed : (s t : Spot) (x y : ℤ) → edge_function s t x y ≡
    (s.x -ℤ x) *ℤ (t.y -ℤ y) -ℤ (t.x -ℤ x) *ℤ (s.y -ℤ y)
unfolding edge_function
edge_function-crossed s t x y = crossed s.x s.y t.x t.y x y

balance : (a₁ a₂ b₁ b₂ c₁ c₂ : ℤ) → (b₁ *ℤ c₂ -ℤ c₁ *ℤ b₂) *ℤ neg_ℤ a₂ ≡
    (c₁ *ℤ a₂ -ℤ a₁ *ℤ c₂) *ℤ b₂ +ℤ (a₁ *ℤ b₂ -ℤ b₁ *ℤ a₂) *ℤ c₂
balance a₁ a₂ b₁ b₂ c₁ c₂ =
    rw (as_dif a₁, as_dif a₂, as_dif b₁, as_dif b₂, as_dif c₁, as_dif c₂) (simp difs (omega (arith, dif-same)))

-- the heights of the corners, weighted by the edge functions, balance about the point
pub edges_balance : (a b c : Spot) (x y : ℤ) →
    edge_function b c x y *ℤ neg_ℤ (a.y -ℤ y) ≡
    edge_function c a x y *ℤ (b.y -ℤ y) +ℤ edge_function a b x y *ℤ (c.y -ℤ y)
edges_balance a b c x y =
    rw (edge_function-crossed b c x y, edge_function-crossed c a x y, edge_function-crossed a b x y)
    (balance (a.x -ℤ x) (a.y -ℤ y) (b.x -ℤ x) (b.y -ℤ y) (c.x -ℤ x) (c.y -ℤ y))

-- ---- one sign

-- none of the three is negative
pub record NoneNegative (p q r : ℤ) : Type 0 where
  pub first : pos 0 ≤ℤ p
  pub second : pos 0 ≤ℤ q
  pub third : pos 0 ≤ℤ r

-- the edge functions of the three edges, each across from a corner in turn
abbrev pub TurnsForth : Spot → Spot → Spot → ℤ → ℤ → Type 0
TurnsForth a b c x y = NoneNegative (edge_function b c x y) (edge_function c a x y) (edge_function a b x y)

turns_rotated : (a b c : Spot) (x y : ℤ) → TurnsForth b c a x y → TurnsForth a b c x y
turns_rotated a b c x y h = record { first = h.third; second = h.first; third = h.second }

-- the height has reached one corner alone, and the point lies between the two edges there
from_one : (a b c : Spot) (x y : ℤ) → a.y ≤ℤ y → y <ℤ b.y → y <ℤ c.y →
    pos 0 <ℤ edge_function a b x y → edge_function a c x y ≤ℤ pos 0 → TurnsForth a b c x y
from_one a b c x y at_a at_b at_c beside_b beside_c =
    let across_b : pos 0 ≤ℤ edge_function c a x y = rw (edge_function-turned c a x y) (omega (arith, ints)) in
    let part_b = product_not_negative (edge_function c a x y) (b.y -ℤ y) across_b (omega (arith, ints)) in
    let part_c = product_positive (edge_function a b x y) (c.y -ℤ y) beside_b (omega (arith, ints)) in
    let sum = sum_positive (edge_function c a x y *ℤ (b.y -ℤ y)) (edge_function a b x y *ℤ (c.y -ℤ y)) part_b
    part_c in
    let product : pos 0 <ℤ (edge_function b c x y *ℤ neg_ℤ (a.y -ℤ y)) = rw edges_balance sum in
    let across_a = factor_positive (edge_function b c x y) (neg_ℤ (a.y -ℤ y)) (omega (arith, ints)) product in
    record { first = omega (arith, ints); second = across_b; third = omega (arith, ints) }
  where
    sum_positive : (k m : ℤ) → pos 0 ≤ℤ k → pos 0 <ℤ m → pos 0 <ℤ (k +ℤ m)
    sum_positive k m i j = omega (arith, ints)

-- the height has reached all corners but one
to_one : (a b c : Spot) (x y : ℤ) → y <ℤ a.y → b.y ≤ℤ y → c.y ≤ℤ y →
    edge_function b a x y ≤ℤ pos 0 → pos 0 <ℤ edge_function c a x y → TurnsForth a b c x y
to_one a b c x y at_a at_b at_c beside_b beside_c =
    let across_b : pos 0 ≤ℤ edge_function c a x y = omega (arith, ints) in
    let across_c : pos 0 ≤ℤ edge_function a b x y = rw (edge_function-turned a b x y) (omega (arith, ints)) in
    let part_b = product_not_positive_right (edge_function c a x y) (b.y -ℤ y) across_b (omega (arith, ints)) in
    let part_c = product_not_positive_right (edge_function a b x y) (c.y -ℤ y) across_c (omega (arith, ints)) in
    let across_a = factor_not_negative (edge_function b c x y) (a.y -ℤ y) (omega (arith, ints))
    (turned_sum (edge_function b c x y) (a.y -ℤ y) (edge_function c a x y *ℤ (b.y -ℤ y))
    (edge_function a b x y *ℤ (c.y -ℤ y)) (edges_balance a b c x y) part_b part_c) in
    record { first = across_a; second = across_b; third = across_c }
  where
    product_not_positive_right : (p q : ℤ) → pos 0 ≤ℤ p → q ≤ℤ pos 0 → (p *ℤ q) ≤ℤ pos 0
    product_not_positive_right p q h k = let m = product_not_positive q p k h in rw (turned p q) m
      where
        turned : (p q : ℤ) → p *ℤ q ≡ q *ℤ p
        turned p q = rw (as_dif p, as_dif q) (simp difs (omega (arith, dif-same)))

    factor_turned : (p u : ℤ) → p *ℤ neg_ℤ u ≡ neg_ℤ (p *ℤ u)
    factor_turned p u = rw (as_dif p, as_dif u) (simp difs (omega (arith, dif-same)))

    turned_sum : (p u k m : ℤ) → p *ℤ neg_ℤ u ≡ k +ℤ m → k ≤ℤ pos 0 → m ≤ℤ pos 0 → pos 0 ≤ℤ (p *ℤ u)
    turned_sum p u k m e i j = let f : neg_ℤ (p *ℤ u) ≡ k +ℤ m = sym (factor_turned p u) ∙ e in
        settle (p *ℤ u) k m f i j
      where
        settle : (z k m : ℤ) → neg_ℤ z ≡ k +ℤ m → k ≤ℤ pos 0 → m ≤ℤ pos 0 → pos 0 ≤ℤ z
        settle z k m f i j = omega (arith, ints)

-- what follows at a corner whose height is the only one reached, or the only one not reached, where the point
-- lies on different sides of the two edges there
abbrev AtCorner : Type 0 → Bool → Bool → Bool → Bool → Bool → Bool → Bool → Type 0
AtCorner P a b c ab ba ca ac =
    (a ≡ true → b ≡ false → c ≡ false → ab ≢ ac → P) × (a ≡ false → b ≡ true → c ≡ true → ba ≢ ca → P)

by_corners : (P : Type 0) (a b c ab ba bc cb ca ac : Bool) →
    step a b ab ba +ℤ step b c bc cb +ℤ step c a ca ac ≢ pos 0 →
    AtCorner P a b c ab ba ca ac → AtCorner P b c a bc cb ab ba → AtCorner P c a b ca ac bc cb → P
by_corners P true true true ab ba bc cb ca ac round at_a at_b at_c = absurd (round refl)
by_corners P false false false ab ba bc cb ca ac round at_a at_b at_c = absurd (round refl)
by_corners P true false false ab ba bc cb ca ac round at_a at_b at_c = at_a.0 refl refl refl (λ e. round (steps_cancel
    true false false ab ba bc cb ca ac (λ i j k. e) (λ i j k. cc) (λ i j k. cc) (λ i j k. cc) (λ i j k. cc)
    (λ i j k. cc)))
by_corners P false true true ab ba bc cb ca ac round at_a at_b at_c = at_a.1 refl refl refl (λ e. round (steps_cancel
    false true true ab ba bc cb ca ac (λ i j k. cc) (λ i j k. e) (λ i j k. cc) (λ i j k. cc) (λ i j k. cc)
    (λ i j k. cc)))
by_corners P false true false ab ba bc cb ca ac round at_a at_b at_c = at_b.0 refl refl refl (λ e. round (steps_cancel
    false true false ab ba bc cb ca ac (λ i j k. cc) (λ i j k. cc) (λ i j k. e) (λ i j k. cc) (λ i j k. cc)
    (λ i j k. cc)))
by_corners P true false true ab ba bc cb ca ac round at_a at_b at_c = at_b.1 refl refl refl (λ e. round (steps_cancel
    true false true ab ba bc cb ca ac (λ i j k. cc) (λ i j k. cc) (λ i j k. cc) (λ i j k. e) (λ i j k. cc)
    (λ i j k. cc)))
by_corners P false false true ab ba bc cb ca ac round at_a at_b at_c = at_c.0 refl refl refl (λ e. round (steps_cancel
    false false true ab ba bc cb ca ac (λ i j k. cc) (λ i j k. cc) (λ i j k. cc) (λ i j k. cc) (λ i j k. e)
    (λ i j k. cc)))
by_corners P true true false ab ba bc cb ca ac round at_a at_b at_c = at_c.1 refl refl refl (λ e. round (steps_cancel
    true true false ab ba bc cb ca ac (λ i j k. cc) (λ i j k. cc) (λ i j k. cc) (λ i j k. cc) (λ i j k. cc)
    (λ i j k. e)))

apart : (p q : Bool) → p ≢ q → ((p ≡ true) × (q ≡ false)) ⊎ ((p ≡ false) × (q ≡ true))
apart true true h = absurd (h refl)
apart true false h = inl (refl, refl)
apart false true h = inr (refl, refl)
apart false false h = absurd (h refl)

turns_at_one : (a b c : Spot) (x y : ℤ) → reaches y a ≡ true → reaches y b ≡ false → reaches y c ≡ false →
    ((beside a b x y ≡ true) × (beside a c x y ≡ false)) ⊎ ((beside a b x y ≡ false) × (beside a c x y ≡ true)) →
    TurnsForth a b c x y ⊎ TurnsForth a c b x y
turns_at_one a b c x y of_a of_b of_c (inl sides) =
    inl (from_one a b c x y (omega (arith, ints)) (omega (arith, ints)) (omega (arith, ints))
    (omega (arith, ints)) (omega (arith, ints)))
turns_at_one a b c x y of_a of_b of_c (inr sides) =
    inr (from_one a c b x y (omega (arith, ints)) (omega (arith, ints)) (omega (arith, ints))
    (omega (arith, ints)) (omega (arith, ints)))

turns_at_other : (a b c : Spot) (x y : ℤ) → reaches y a ≡ false → reaches y b ≡ true → reaches y c ≡ true →
    ((beside b a x y ≡ true) × (beside c a x y ≡ false)) ⊎ ((beside b a x y ≡ false) × (beside c a x y ≡ true)) →
    TurnsForth a b c x y ⊎ TurnsForth a c b x y
turns_at_other a b c x y of_a of_b of_c (inl sides) =
    inr (to_one a c b x y (omega (arith, ints)) (omega (arith, ints)) (omega (arith, ints))
    (omega (arith, ints)) (omega (arith, ints)))
turns_at_other a b c x y of_a of_b of_c (inr sides) =
    inl (to_one a b c x y (omega (arith, ints)) (omega (arith, ints)) (omega (arith, ints))
    (omega (arith, ints)) (omega (arith, ints)))

turns_at : (a b c : Spot) (x y : ℤ) → AtCorner (TurnsForth a b c x y ⊎ TurnsForth a c b x y)
    (reaches y a) (reaches y b) (reaches y c) (beside a b x y) (beside b a x y) (beside c a x y) (beside a c x y)
turns_at a b c x y = (
  (λ of_a of_b of_c differ. turns_at_one a b c x y of_a of_b of_c (apart (beside a b x y) (beside a c x y) differ)),
  (λ of_a of_b of_c differ. turns_at_other a b c x y of_a of_b of_c (apart (beside b a x y) (beside c a x y) differ)),
)

either_rotated : (a b c : Spot) (x y : ℤ) → TurnsForth b c a x y ⊎ TurnsForth b a c x y →
    TurnsForth a b c x y ⊎ TurnsForth a c b x y
either_rotated a b c x y (inl h) = inl (turns_rotated a b c x y h)
either_rotated a b c x y (inr h) = inr (turns_rotated a c b x y (turns_rotated c b a x y h))

-- where the triangle winds round the point, the edge functions are all of one sign or 0
pub winding-turns : (a b c : Spot) (x y : ℤ) → winding a b c x y ≢ pos 0 → TurnsForth a b c x y ⊎ TurnsForth a c b x y
winding-turns a b c x y round =
    by_corners (TurnsForth a b c x y ⊎ TurnsForth a c b x y) (reaches y a) (reaches y b) (reaches y c)
    (beside a b x y) (beside b a x y) (beside b c x y) (beside c b x y) (beside c a x y) (beside a c x y)
    (λ e. round (winding-steps a b c x y ∙ e))
    (turns_at a b c x y) (
      (λ i j k l. either_rotated a b c x y ((turns_at b c a x y).0 i j k l)),
      (λ i j k l. either_rotated a b c x y ((turns_at b c a x y).1 i j k l)),
    ) (
      (λ i j k l. either_rotated a b c x y (either_rotated b c a x y ((turns_at c a b x y).0 i j k l))),
      (λ i j k l. either_rotated a b c x y (either_rotated b c a x y ((turns_at c a b x y).1 i j k l))),
    )

-- ---- the mean of three depths

least_part : (p q r l k m n : ℤ) → p *ℤ k +ℤ q *ℤ m +ℤ r *ℤ n ≡
    l *ℤ (p +ℤ q +ℤ r) +ℤ (p *ℤ (k -ℤ l) +ℤ q *ℤ (m -ℤ l) +ℤ r *ℤ (n -ℤ l))
least_part p q r l k m n =
    rw (as_dif p, as_dif q, as_dif r, as_dif l, as_dif k, as_dif m, as_dif n) (simp difs (omega (arith, dif-same)))

most_part : (p q r l k m n : ℤ) → (l +ℤ pos 1) *ℤ (p +ℤ q +ℤ r) ≡
    (p *ℤ k +ℤ q *ℤ m +ℤ r *ℤ n) +ℤ (p *ℤ (l -ℤ k) +ℤ q *ℤ (l -ℤ m) +ℤ r *ℤ (l -ℤ n)) +ℤ (p +ℤ q +ℤ r)
most_part p q r l k m n =
    rw (as_dif p, as_dif q, as_dif r, as_dif l, as_dif k, as_dif m, as_dif n) (simp difs (omega (arith, dif-same)))

-- a mean of numbers at least l is at least l, and of numbers at most l at most l
mean_from : (p q r l k m n : ℤ) → NoneNegative p q r → pos 0 <ℤ (p +ℤ q +ℤ r) → l ≤ℤ k → l ≤ℤ m → l ≤ℤ n →
    l ≤ℤ floor_div (p *ℤ k +ℤ q *ℤ m +ℤ r *ℤ n) (p +ℤ q +ℤ r)
mean_from p q r l k m n weights total h i j =
    floor_div-at_least (p *ℤ k +ℤ q *ℤ m +ℤ r *ℤ n) (p +ℤ q +ℤ r) l total
    (rw (least_part p q r l k m n)
    (more (l *ℤ (p +ℤ q +ℤ r)) (p *ℤ (k -ℤ l)) (q *ℤ (m -ℤ l)) (r *ℤ (n -ℤ l))
    (product_not_negative p (k -ℤ l) weights.first (omega (arith, ints)))
    (product_not_negative q (m -ℤ l) weights.second (omega (arith, ints)))
    (product_not_negative r (n -ℤ l) weights.third (omega (arith, ints)))))
  where
    more : (s t u v : ℤ) → pos 0 ≤ℤ t → pos 0 ≤ℤ u → pos 0 ≤ℤ v → s ≤ℤ (s +ℤ (t +ℤ u +ℤ v))
    more s t u v h i j = omega (arith, ints)

mean_to : (p q r l k m n : ℤ) → NoneNegative p q r → pos 0 <ℤ (p +ℤ q +ℤ r) → k ≤ℤ l → m ≤ℤ l → n ≤ℤ l →
    floor_div (p *ℤ k +ℤ q *ℤ m +ℤ r *ℤ n) (p +ℤ q +ℤ r) ≤ℤ l
mean_to p q r l k m n weights total h i j =
    floor_div-at_most (p *ℤ k +ℤ q *ℤ m +ℤ r *ℤ n) (p +ℤ q +ℤ r) l total
    (rw (most_part p q r l k m n)
    (more (p *ℤ k +ℤ q *ℤ m +ℤ r *ℤ n) (p *ℤ (l -ℤ k)) (q *ℤ (l -ℤ m)) (r *ℤ (l -ℤ n)) (p +ℤ q +ℤ r)
    (product_not_negative p (l -ℤ k) weights.first (omega (arith, ints)))
    (product_not_negative q (l -ℤ m) weights.second (omega (arith, ints)))
    (product_not_negative r (l -ℤ n) weights.third (omega (arith, ints))) total))
  where
    more : (s t u v w : ℤ) → pos 0 ≤ℤ t → pos 0 ≤ℤ u → pos 0 ≤ℤ v → pos 0 <ℤ w → s <ℤ (s +ℤ (t +ℤ u +ℤ v) +ℤ w)
    more s t u v w h i j o = omega (arith, ints)

sum_turned : (p q r : ℤ) → neg_ℤ (p +ℤ q +ℤ r) ≡ neg_ℤ p +ℤ neg_ℤ q +ℤ neg_ℤ r
sum_turned p q r = omega (arith, ints)

mean_turned : (p q r k m n : ℤ) → neg_ℤ (p *ℤ k +ℤ q *ℤ m +ℤ r *ℤ n) ≡ neg_ℤ p *ℤ k +ℤ neg_ℤ q *ℤ m +ℤ neg_ℤ r *ℤ n
mean_turned p q r k m n =
    rw (as_dif p, as_dif q, as_dif r, as_dif k, as_dif m, as_dif n) (simp difs (omega (arith, dif-same)))

-- a number from least to most
pub record Between (least most z : ℤ) : Type 0 where
  pub from : least ≤ℤ z
  pub to : z ≤ℤ most

positive_sum : (p q r : ℤ) → NoneNegative p q r → p +ℤ q +ℤ r ≢ pos 0 → pos 0 <ℤ (p +ℤ q +ℤ r)
positive_sum p q r weights nonzero = positive (p +ℤ q +ℤ r) (sum_from p q r weights) nonzero
  where
    sum_from : (p q r : ℤ) → NoneNegative p q r → pos 0 ≤ℤ (p +ℤ q +ℤ r)
    sum_from p q r weights = omega (arith, ints)

    positive : (d : ℤ) → pos 0 ≤ℤ d → d ≢ pos 0 → pos 0 <ℤ d
    positive d h n = omega (arith, ints)

mean_between : (p q r k m n least most : ℤ) → NoneNegative p q r → p +ℤ q +ℤ r ≢ pos 0 →
    Between least most k → Between least most m → Between least most n →
    Between least most (floor_div (p *ℤ k +ℤ q *ℤ m +ℤ r *ℤ n) (p +ℤ q +ℤ r))
mean_between p q r k m n least most weights nonzero of_k of_m of_n =
    let total = positive_sum p q r weights nonzero in
    record {
      from = mean_from p q r least k m n weights total of_k.from of_m.from of_n.from;
      to = mean_to p q r most k m n weights total of_k.to of_m.to of_n.to;
    }

turned_mean_between : (p q r k m n least most : ℤ) → NoneNegative (neg_ℤ p) (neg_ℤ q) (neg_ℤ r) →
    p +ℤ q +ℤ r ≢ pos 0 →
    Between least most k → Between least most m → Between least most n →
    Between least most (floor_div (p *ℤ k +ℤ q *ℤ m +ℤ r *ℤ n) (p +ℤ q +ℤ r))
turned_mean_between p q r k m n least most weights nonzero of_k of_m of_n =
    rw (
      ← floor_div-turned (p *ℤ k +ℤ q *ℤ m +ℤ r *ℤ n) (p +ℤ q +ℤ r) nonzero,
      mean_turned p q r k m n,
      sum_turned p q r,
    )
    (mean_between (neg_ℤ p) (neg_ℤ q) (neg_ℤ r) k m n least most weights
    (λ e. nonzero (settle (p +ℤ q +ℤ r) (sum_turned p q r ∙ e))) of_k of_m of_n)
  where
    settle : (d : ℤ) → neg_ℤ d ≡ pos 0 → d ≡ pos 0
    settle d e = omega (arith, ints)

-- ---- the depth where the triangle winds round the point

turned_weights : (a b c : Spot) (x y : ℤ) → TurnsForth a c b x y →
    NoneNegative (neg_ℤ (edge_function b c x y)) (neg_ℤ (edge_function c a x y)) (neg_ℤ (edge_function a b x y))
turned_weights a b c x y h = record {
  first = rw (edge_function-turned b c x y) (twice (edge_function c b x y) h.first);
  second = rw (edge_function-turned c a x y) (twice (edge_function a c x y) h.third);
  third = rw (edge_function-turned a b x y) (twice (edge_function b a x y) h.second);
}
  where
    twice : (k : ℤ) → pos 0 ≤ℤ k → pos 0 ≤ℤ neg_ℤ (neg_ℤ k)
    twice k i = omega (arith, ints)

means_between : (a b c : Spot) (x y least most : ℤ) → TurnsForth a b c x y ⊎ TurnsForth a c b x y →
    divisor a b c x y ≢ pos 0 →
    Between least most (pos a.z) → Between least most (pos b.z) → Between least most (pos c.z) →
    Between least most (floor_div (weighted a b c x y) (divisor a b c x y))
unfolding weighted divisor
means_between a b c x y least most (inl h) nonzero of_a of_b of_c =
    mean_between (edge_function b c x y) (edge_function c a x y) (edge_function a b x y) (pos a.z) (pos b.z)
    (pos c.z) least most h nonzero of_a of_b of_c
means_between a b c x y least most (inr h) nonzero of_a of_b of_c =
    turned_mean_between (edge_function b c x y) (edge_function c a x y) (edge_function a b x y) (pos a.z)
    (pos b.z) (pos c.z) least most
    (turned_weights a b c x y h) nonzero of_a of_b of_c

-- where the triangle winds round the point, the quotient lies between the corners' depths
pub quotient-between : (a b c : Spot) (x y : ℤ) → winding a b c x y ≢ pos 0 →
    Between (pos (min a.z (min b.z c.z))) (pos (max a.z (max b.z c.z)))
    (floor_div (weighted a b c x y) (divisor a b c x y))
quotient-between a b c x y round =
    means_between a b c x y (pos (min a.z (min b.z c.z))) (pos (max a.z (max b.z c.z)))
    (winding-turns a b c x y round) (divisor_nonzero a b c x y round)
    (record { from = omega (arith, ints); to = omega (arith, ints) })
    (record { from = omega (arith, ints); to = omega (arith, ints) })
    (record { from = omega (arith, ints); to = omega (arith, ints) })

-- so the depth is the quotient itself, and nothing is held
pub depth-quotient : (a b c : Spot) (x y : ℤ) → winding a b c x y ≢ pos 0 →
    pos (depth a b c x y) ≡ floor_div (weighted a b c x y) (divisor a b c x y)
unfolding depth
depth-quotient a b c x y round =
    let place = quotient-between a b c x y round in
    held-inside (min a.z (min b.z c.z)) (max a.z (max b.z c.z))
    (floor_div (weighted a b c x y) (divisor a b c x y)) place.from place.to

-- ---- the weighted sum there

-- a mean's numerator is at most as many times its divisor as the greatest of its numbers is
numerator_size : (p q r : ℤ) (k m n most : ℕ) → NoneNegative p q r → k ≤ most → m ≤ most → n ≤ most →
    unsigned_abs (p *ℤ pos k +ℤ q *ℤ pos m +ℤ r *ℤ pos n) ≤ most * unsigned_abs (p +ℤ q +ℤ r)
numerator_size p q r k m n most weights h i j =
    let lower = sum_from (p *ℤ pos k) (q *ℤ pos m) (r *ℤ pos n)
    (product_not_negative p (pos k) weights.first (omega (arith, ints)))
    (product_not_negative q (pos m) weights.second (omega (arith, ints)))
    (product_not_negative r (pos n) weights.third (omega (arith, ints))) in
    let rest = sum_from (p *ℤ (pos most -ℤ pos k)) (q *ℤ (pos most -ℤ pos m)) (r *ℤ (pos most -ℤ pos n))
    (product_not_negative p (pos most -ℤ pos k) weights.first (omega (arith, ints)))
    (product_not_negative q (pos most -ℤ pos m) weights.second (omega (arith, ints)))
    (product_not_negative r (pos most -ℤ pos n) weights.third (omega (arith, ints))) in
    subst (λ size. unsigned_abs (p *ℤ pos k +ℤ q *ℤ pos m +ℤ r *ℤ pos n) ≤ size)
    (unsigned_abs-mul (pos most) (p +ℤ q +ℤ r))
    (within (p *ℤ pos k +ℤ q *ℤ pos m +ℤ r *ℤ pos n) (pos most *ℤ (p +ℤ q +ℤ r)) _
    (whole p q r (pos most) (pos k) (pos m) (pos n)) lower rest)
  where
    sum_from : (s t u : ℤ) → pos 0 ≤ℤ s → pos 0 ≤ℤ t → pos 0 ≤ℤ u → pos 0 ≤ℤ (s +ℤ t +ℤ u)
    sum_from s t u h i j = omega (arith, ints)

    whole : (p q r l k m n : ℤ) → l *ℤ (p +ℤ q +ℤ r) ≡
        (p *ℤ k +ℤ q *ℤ m +ℤ r *ℤ n) +ℤ (p *ℤ (l -ℤ k) +ℤ q *ℤ (l -ℤ m) +ℤ r *ℤ (l -ℤ n))
    whole p q r l k m n =
        rw (as_dif p, as_dif q, as_dif r, as_dif l, as_dif k, as_dif m, as_dif n)
        (simp difs (omega (arith, dif-same)))

    within : (s t u : ℤ) → t ≡ s +ℤ u → pos 0 ≤ℤ s → pos 0 ≤ℤ u → unsigned_abs s ≤ unsigned_abs t
    within s t u e h i = omega (arith, ints)

numerator_bound : (a b c : Spot) (x y : ℤ) (most : ℕ) → TurnsForth a b c x y ⊎ TurnsForth a c b x y →
    a.z ≤ most → b.z ≤ most → c.z ≤ most → unsigned_abs (weighted a b c x y) ≤ most * unsigned_abs (divisor a b c x y)
unfolding weighted divisor
numerator_bound a b c x y most (inl h) of_a of_b of_c =
    numerator_size (edge_function b c x y) (edge_function c a x y) (edge_function a b x y) a.z b.z c.z most h
    of_a of_b of_c
numerator_bound a b c x y most (inr h) of_a of_b of_c =
    turned_size (edge_function b c x y) (edge_function c a x y) (edge_function a b x y) (turned_weights a b c x y h)
  where
    turned_size : (p q r : ℤ) → NoneNegative (neg_ℤ p) (neg_ℤ q) (neg_ℤ r) →
        unsigned_abs (p *ℤ pos a.z +ℤ q *ℤ pos b.z +ℤ r *ℤ pos c.z) ≤ most * unsigned_abs (p +ℤ q +ℤ r)
    turned_size p q r weights =
        rw (
          ← size_turned (p *ℤ pos a.z +ℤ q *ℤ pos b.z +ℤ r *ℤ pos c.z),
          ← size_turned (p +ℤ q +ℤ r),
          mean_turned p q r (pos a.z) (pos b.z) (pos c.z),
          sum_turned p q r,
        )
        (numerator_size (neg_ℤ p) (neg_ℤ q) (neg_ℤ r) a.z b.z c.z most weights of_a of_b of_c)
      where
        size_turned : (z : ℤ) → unsigned_abs (neg_ℤ z) ≡ unsigned_abs z
        size_turned z = omega (arith, ints)

-- where the triangle winds round the point, the weighted sum is at most `most` times the divisor's size, if no
-- corner's depth is above `most`
pub weighted-inside : (a b c : Spot) (x y : ℤ) (most : ℕ) → winding a b c x y ≢ pos 0 →
    a.z ≤ most → b.z ≤ most → c.z ≤ most → unsigned_abs (weighted a b c x y) ≤ most * unsigned_abs (divisor a b c x y)
weighted-inside a b c x y most round = numerator_bound a b c x y most (winding-turns a b c x y round)
