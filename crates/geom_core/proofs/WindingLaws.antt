-- Where a triangle winds round no point: above, below and beside its corners, and where two corners are one.
use Rattle.std.proofs.Common.{◌≡◌, Bool, true, false, ℤ, pos, ◌+ℤ◌, ◌-ℤ◌, ◌*ℤ◌, neg_ℤ, ◌<ℤ◌, ◌≤ℤ◌, int_lt, int_le, refl}
use Rattle.std.proofs.Common.{sym, ◌∙◌, arith}
use Rattle.std.proofs.lemmas.Int.{ints}
use Rattle.geom_core.specs.declared.screens.Spot.{Spot}
use Rattle.geom_core.specs.Winding.{edge_function, crossing, winding}
use Rattle.geom_core.proofs.Differences.{as_dif, difs, dif-same}
use Rattle.geom_core.proofs.Signs.{product_not_negative, product_positive}
use Rattle.geom_core.proofs.Crossings.{step, reaches, beside, crossing-is, crossing-turned, steps_cancel, winding-steps}

-- three crossings of nothing
none : (a b c : Spot) (x y : ℤ) → crossing a b x y ≡ pos 0 → crossing b c x y ≡ pos 0 → crossing c a x y ≡
    pos 0 → winding a b c x y ≡ pos 0
unfolding winding
none a b c x y ab bc ca = rw (ab, bc, ca)

-- ---- heights

-- the height has reached both ends, or neither
level : (first second forth back : Bool) → first ≡ second → step first second forth back ≡ pos 0
level first second forth back same = rw same (level_at second)
  where
    level_at : (b : Bool) → step b b forth back ≡ pos 0
    level_at true = refl
    level_at false = refl

crossing-level : (s t : Spot) (x y : ℤ) → reaches y s ≡ reaches y t → crossing s t x y ≡ pos 0
crossing-level s t x y same = crossing-is s t x y ∙ level (reaches y s) (reaches y t) (beside s t x y)
    (beside t s x y) same

reached : (y h : ℤ) → h ≤ℤ y → int_le h y ≡ true
reached y h at_most = grind (arith, ints)

not_yet : (y h : ℤ) → y <ℤ h → int_le h y ≡ false
not_yet y h below = grind (arith, ints)

-- an edge wholly at greater y, or wholly at lesser or equal y
pub crossing-above : (s t : Spot) (x y : ℤ) → y <ℤ s.y → y <ℤ t.y → crossing s t x y ≡ pos 0
crossing-above s t x y at_s at_t = crossing-level s t x y (not_yet y s.y at_s ∙ sym (not_yet y t.y at_t))

pub crossing-below : (s t : Spot) (x y : ℤ) → s.y ≤ℤ y → t.y ≤ℤ y → crossing s t x y ≡ pos 0
crossing-below s t x y at_s at_t = crossing-level s t x y (reached y s.y at_s ∙ sym (reached y t.y at_t))

-- the point is above the triangle: its y is less than each corner's
pub winding-above : (a b c : Spot) (x y : ℤ) → y <ℤ a.y → y <ℤ b.y → y <ℤ c.y → winding a b c x y ≡ pos 0
winding-above a b c x y at_a at_b at_c =
    none a b c x y (crossing-above a b x y at_a at_b) (crossing-above b c x y at_b at_c)
    (crossing-above c a x y at_c at_a)

-- the point is below the triangle, or level with its lowest corner
pub winding-below : (a b c : Spot) (x y : ℤ) → a.y ≤ℤ y → b.y ≤ℤ y → c.y ≤ℤ y → winding a b c x y ≡ pos 0
winding-below a b c x y at_a at_b at_c =
    none a b c x y (crossing-below a b x y at_a at_b) (crossing-below b c x y at_b at_c)
    (crossing-below c a x y at_c at_a)

-- ---- the right

-- the edge function by how far the point is to the right of both ends
edge_by_distances : (x₁ y₁ x₂ y₂ x y : ℤ) → (x₂ -ℤ x₁) *ℤ (y -ℤ y₁) -ℤ (y₂ -ℤ y₁) *ℤ (x -ℤ x₁) ≡
    neg_ℤ ((x -ℤ x₂) *ℤ (y -ℤ y₁) +ℤ (y₂ -ℤ y) *ℤ (x -ℤ x₁))
edge_by_distances x₁ y₁ x₂ y₂ x y =
    rw (as_dif x₁, as_dif y₁, as_dif x₂, as_dif y₂, as_dif x, as_dif y) (simp difs (omega (arith, dif-same)))

-- of an edge that the height spans, a point to the right of both ends isn't on the lesser-x side
pub edge_function-right : (lo hi : Spot) (x y : ℤ) → lo.y ≤ℤ y → y ≤ℤ hi.y → lo.x ≤ℤ x → hi.x ≤ℤ x →
    edge_function lo hi x y ≤ℤ pos 0
unfolding edge_function
edge_function-right lo hi x y from to at_lo at_hi =
    let one = product_not_negative (x -ℤ hi.x) (y -ℤ lo.y) (omega (arith, ints)) (omega (arith, ints)) in
    let other = product_not_negative (hi.y -ℤ y) (x -ℤ lo.x) (omega (arith, ints)) (omega (arith, ints)) in
    rw (edge_by_distances lo.x lo.y hi.x hi.y x y) (sum_turned ((x -ℤ hi.x) *ℤ (y -ℤ lo.y))
    ((hi.y -ℤ y) *ℤ (x -ℤ lo.x)) one other)
  where
    sum_turned : (k m : ℤ) → pos 0 ≤ℤ k → pos 0 ≤ℤ m → neg_ℤ (k +ℤ m) ≤ℤ pos 0
    sum_turned k m h i = omega (arith, ints)

beside_right : (lo hi : Spot) (x y : ℤ) → reaches y lo ≡ true → reaches y hi ≡ false → lo.x ≤ℤ x → hi.x ≤ℤ x →
    beside lo hi x y ≡ false
beside_right lo hi x y from to at_lo at_hi =
    not_positive (edge_function lo hi x y) (edge_function-right lo hi x y (omega (arith, ints))
    (omega (arith, ints)) at_lo at_hi)
  where
    not_positive : (k : ℤ) → k ≤ℤ pos 0 → int_lt (pos 0) k ≡ false
    not_positive k h = grind (arith, ints)

step_none : (first second forth back : Bool) → (first ≡ true → second ≡ false → forth ≡ false) →
    (second ≡ true → first ≡ false → back ≡ false) → step first second forth back ≡ pos 0
step_none true true forth back f g = refl
step_none false false forth back f g = refl
step_none true false forth back f g = rw (f refl refl)
step_none false true forth back f g = rw (g refl refl)

pub crossing-right : (s t : Spot) (x y : ℤ) → s.x ≤ℤ x → t.x ≤ℤ x → crossing s t x y ≡ pos 0
crossing-right s t x y at_s at_t =
    crossing-is s t x y ∙ step_none (reaches y s) (reaches y t) (beside s t x y) (beside t s x y)
    (λ from to. beside_right s t x y from to at_s at_t) (λ from to. beside_right t s x y from to at_t at_s)

-- the point is to the right of the triangle, or level with its rightmost corner
pub winding-right : (a b c : Spot) (x y : ℤ) → a.x ≤ℤ x → b.x ≤ℤ x → c.x ≤ℤ x → winding a b c x y ≡ pos 0
winding-right a b c x y at_a at_b at_c =
    none a b c x y (crossing-right a b x y at_a at_b) (crossing-right b c x y at_b at_c)
    (crossing-right c a x y at_c at_a)

-- ---- the left

-- of an edge that the height spans, a point to the left of both ends is on the lesser-x side
pub edge_function-left : (lo hi : Spot) (x y : ℤ) → lo.y ≤ℤ y → y <ℤ hi.y → x <ℤ lo.x → x <ℤ hi.x →
    pos 0 <ℤ edge_function lo hi x y
unfolding edge_function
edge_function-left lo hi x y from to at_lo at_hi =
    let one = product_not_negative (hi.x -ℤ x) (y -ℤ lo.y) (omega (arith, ints)) (omega (arith, ints)) in
    let other = product_positive (hi.y -ℤ y) (lo.x -ℤ x) (omega (arith, ints)) (omega (arith, ints)) in
    rw (edge_by_left_distances lo.x lo.y hi.x hi.y x y) (sum_positive ((hi.x -ℤ x) *ℤ (y -ℤ lo.y))
    ((hi.y -ℤ y) *ℤ (lo.x -ℤ x)) one other)
  where
    edge_by_left_distances : (x₁ y₁ x₂ y₂ x y : ℤ) → (x₂ -ℤ x₁) *ℤ (y -ℤ y₁) -ℤ (y₂ -ℤ y₁) *ℤ (x -ℤ x₁) ≡
        (x₂ -ℤ x) *ℤ (y -ℤ y₁) +ℤ (y₂ -ℤ y) *ℤ (x₁ -ℤ x)
    edge_by_left_distances x₁ y₁ x₂ y₂ x y =
        rw (as_dif x₁, as_dif y₁, as_dif x₂, as_dif y₂, as_dif x, as_dif y) (simp difs (omega (arith, dif-same)))

    sum_positive : (k m : ℤ) → pos 0 ≤ℤ k → pos 0 <ℤ m → pos 0 <ℤ (k +ℤ m)
    sum_positive k m h i = omega (arith, ints)

beside_left : (lo hi : Spot) (x y : ℤ) → reaches y lo ≡ true → reaches y hi ≡ false → x <ℤ lo.x → x <ℤ hi.x →
    beside lo hi x y ≡ true
beside_left lo hi x y from to at_lo at_hi =
    is_positive (edge_function lo hi x y) (edge_function-left lo hi x y (omega (arith, ints))
    (omega (arith, ints)) at_lo at_hi)
  where
    is_positive : (k : ℤ) → pos 0 <ℤ k → int_lt (pos 0) k ≡ true
    is_positive k h = grind (arith, ints)

-- the point is to the left of the triangle: of the edges none or two span its height, and these two cancel
pub winding-left : (a b c : Spot) (x y : ℤ) → x <ℤ a.x → x <ℤ b.x → x <ℤ c.x → winding a b c x y ≡ pos 0
winding-left a b c x y at_a at_b at_c =
    winding-steps a b c x y ∙
    steps_cancel (reaches y a) (reaches y b) (reaches y c) (beside a b x y) (beside b a x y) (beside b c x y)
    (beside c b x y) (beside c a x y) (beside a c x y)
    (from_one a b c at_a at_b at_c) (to_one a b c at_a at_b at_c) (from_one b c a at_b at_c at_a)
    (to_one b c a at_b at_c at_a)
    (from_one c a b at_c at_a at_b) (to_one c a b at_c at_a at_b)
  where
    from_one : (s t u : Spot) → x <ℤ s.x → x <ℤ t.x → x <ℤ u.x →
        reaches y s ≡ true → reaches y t ≡ false → reaches y u ≡ false → beside s t x y ≡ beside s u x y
    from_one s t u at_s at_t at_u of_s of_t of_u = beside_left s t x y of_s of_t at_s at_t ∙
        sym (beside_left s u x y of_s of_u at_s at_u)

    to_one : (s t u : Spot) → x <ℤ s.x → x <ℤ t.x → x <ℤ u.x →
        reaches y s ≡ false → reaches y t ≡ true → reaches y u ≡ true → beside t s x y ≡ beside u s x y
    to_one s t u at_s at_t at_u of_s of_t of_u = beside_left t s x y of_t of_s at_t at_s ∙
        sym (beside_left u s x y of_u of_s at_u at_s)

-- ---- corners

-- the corners in turn
pub winding-rotated : (a b c : Spot) (x y : ℤ) → winding b c a x y ≡ winding a b c x y
unfolding winding
winding-rotated a b c x y = omega (arith, ints)

-- the corners the other way round
pub winding-turned : (a b c : Spot) (x y : ℤ) → winding a c b x y ≡ neg_ℤ (winding a b c x y)
unfolding winding
winding-turned a b c x y = omega (
  arith,
  ints,
  crossing-turned a c x y,
  crossing-turned c b x y,
  crossing-turned b a x y,
)

-- two corners in one place
pub winding-equal : (a c : Spot) (x y : ℤ) → winding a a c x y ≡ pos 0
unfolding winding
winding-equal a c x y = omega (arith, ints, crossing-level a a x y refl, crossing-turned a c x y)
