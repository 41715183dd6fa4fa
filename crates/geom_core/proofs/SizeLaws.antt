-- How large sums and products of integers are, and with them edge functions, the weighted sum and the divisor.
use Rattle.std.proofs.Common.{ℕ, ◌+◌, ◌*◌, ◌^◌, ◌<◌, ◌≤◌, ℤ, pos, ◌+ℤ◌, ◌-ℤ◌, ◌*ℤ◌, unsigned_abs, FitsSigned, arith}
use Rattle.std.proofs.Common.{mul-le-mul}
use Rattle.std.specs.Int.{w128}
use Rattle.std.proofs.lemmas.Int.{ints, unsigned_abs-mul, fits_signed_from_abs}
use Rattle.geom_core.specs.declared.screens.Spot.{Spot}
use Rattle.geom_core.specs.Winding.{edge_function}
use Rattle.geom_core.specs.Depth.{divisor, weighted}
use Rattle.geom_core.proofs.DivisorLaws.{divisor-is}

-- ---- sums and products

pub size-add : (p q : ℤ) (m n : ℕ) → unsigned_abs p ≤ m → unsigned_abs q ≤ n → unsigned_abs (p +ℤ q) ≤ m + n
size-add p q m n h k = omega (arith, ints)

pub size-sub : (p q : ℤ) (m n : ℕ) → unsigned_abs p ≤ m → unsigned_abs q ≤ n → unsigned_abs (p -ℤ q) ≤ m + n
size-sub p q m n h k = omega (arith, ints)

pub size-mul : (p q : ℤ) (m n : ℕ) → unsigned_abs p ≤ m → unsigned_abs q ≤ n → unsigned_abs (p *ℤ q) ≤ m * n
size-mul p q m n h k = rw (unsigned_abs-mul p q) (mul-le-mul h k)

-- ---- edge functions, by the width and the height of what they are about

pub edge_function-size : (s t : Spot) (x y : ℤ) (width height : ℕ) →
    unsigned_abs (t.x -ℤ s.x) ≤ width → unsigned_abs (x -ℤ s.x) ≤ width →
    unsigned_abs (t.y -ℤ s.y) ≤ height → unsigned_abs (y -ℤ s.y) ≤ height →
    unsigned_abs (edge_function s t x y) ≤ width * height + height * width
unfolding edge_function
edge_function-size s t x y width height edge_x point_x edge_y point_y =
    size-sub ((t.x -ℤ s.x) *ℤ (y -ℤ s.y)) ((t.y -ℤ s.y) *ℤ (x -ℤ s.x)) (width * height) (height * width)
    (size-mul (t.x -ℤ s.x) (y -ℤ s.y) width height edge_x point_y) (size-mul (t.y -ℤ s.y) (x -ℤ s.x) height
    width edge_y point_x)

-- ---- points within m of the origin on each axis

-- the spot lies within m of the origin on each axis
pub record IsNear (m : ℕ) (s : Spot) : Type 0 where
  pub x : unsigned_abs s.x ≤ m
  pub y : unsigned_abs s.y ≤ m

pub edge_function-near : (m : ℕ) (s t : Spot) (x y : ℤ) → IsNear m s → IsNear m t → unsigned_abs x ≤ m →
    unsigned_abs y ≤ m →
    unsigned_abs (edge_function s t x y) ≤ 8 * (m * m)
edge_function-near m s t x y near_s near_t near_x near_y =
    let size = edge_function-size s t x y (m + m) (m + m)
    (size-sub t.x s.x m m near_t.x near_s.x) (size-sub x s.x m m near_x near_s.x)
    (size-sub t.y s.y m m near_t.y near_s.y) (size-sub y s.y m m near_y near_s.y) in
    omega arith

pub divisor-near : (m : ℕ) (a b c : Spot) (x y : ℤ) → IsNear m a → IsNear m b → IsNear m c →
    unsigned_abs (divisor a b c x y) ≤ 8 * (m * m)
divisor-near m a b c x y near_a near_b near_c =
    rw (divisor-is a b c x y) (edge_function-near m a b c.x c.y near_a near_b near_c.x near_c.y)

-- ---- the weighted sum

pub weighted-size : (a b c : Spot) (x y : ℤ) (m z : ℕ) →
    unsigned_abs (edge_function b c x y) ≤ m → unsigned_abs (edge_function c a x y) ≤ m →
    unsigned_abs (edge_function a b x y) ≤ m →
    a.z ≤ z → b.z ≤ z → c.z ≤ z → unsigned_abs (weighted a b c x y) ≤ 3 * (m * z)
unfolding weighted
weighted-size a b c x y m z across_a across_b across_c z_a z_b z_c =
    let by_a = size-mul (edge_function b c x y) (pos a.z) m z across_a z_a in
    let by_b = size-mul (edge_function c a x y) (pos b.z) m z across_b z_b in
    let by_c = size-mul (edge_function a b x y) (pos c.z) m z across_c z_c in
    let by_two = size-add (edge_function b c x y *ℤ pos a.z) (edge_function c a x y *ℤ pos b.z) (m * z) (m * z)
    by_a by_b in
    let by_all = size-add (edge_function b c x y *ℤ pos a.z +ℤ edge_function c a x y *ℤ pos b.z)
    (edge_function a b x y *ℤ pos c.z) (m * z + m * z) (m * z) by_two by_c in
    omega arith

pub weighted-near : (m z : ℕ) (a b c : Spot) (x y : ℤ) → IsNear m a → IsNear m b → IsNear m c →
    unsigned_abs x ≤ m → unsigned_abs y ≤ m →
    a.z ≤ z → b.z ≤ z → c.z ≤ z → unsigned_abs (weighted a b c x y) ≤ 3 * (8 * (m * m) * z)
weighted-near m z a b c x y near_a near_b near_c near_x near_y z_a z_b z_c =
    weighted-size a b c x y (8 * (m * m)) z (edge_function-near m b c x y near_b near_c near_x near_y)
    (edge_function-near m c a x y near_c near_a near_x near_y)
    (edge_function-near m a b x y near_a near_b near_x near_y) z_a z_b z_c

-- ---- any spot of a camera: within 2^42 of the origin, its depth below 2^30

pub edge_function-wide : (s t : Spot) (x y : ℤ) → IsNear (2 ^ 42) s → IsNear (2 ^ 42) t →
    unsigned_abs x ≤ 2 ^ 42 → unsigned_abs y ≤ 2 ^ 42 →
    unsigned_abs (edge_function s t x y) ≤ 2 ^ 87
edge_function-wide s t x y near_s near_t near_x near_y = edge_function-near (2 ^ 42) s t x y near_s near_t
    near_x near_y

pub divisor-wide : (a b c : Spot) (x y : ℤ) → IsNear (2 ^ 42) a → IsNear (2 ^ 42) b → IsNear (2 ^ 42) c →
    unsigned_abs (divisor a b c x y) ≤ 2 ^ 87
divisor-wide a b c x y near_a near_b near_c = divisor-near (2 ^ 42) a b c x y near_a near_b near_c

pub weighted-wide : (a b c : Spot) (x y : ℤ) → IsNear (2 ^ 42) a → IsNear (2 ^ 42) b → IsNear (2 ^ 42) c →
    unsigned_abs x ≤ 2 ^ 42 → unsigned_abs y ≤ 2 ^ 42 → a.z < 2 ^ 30 → b.z < 2 ^ 30 → c.z < 2 ^ 30 →
    unsigned_abs (weighted a b c x y) ≤ 2 ^ 119
weighted-wide a b c x y near_a near_b near_c near_x near_y z_a z_b z_c =
    let size = weighted-near (2 ^ 42) (2 ^ 30) a b c x y near_a near_b near_c near_x near_y (omega arith)
    (omega arith) (omega arith) in
    omega arith

-- so each of them fits 128 bits
pub edge_function-fits : (s t : Spot) (x y : ℤ) → IsNear (2 ^ 42) s → IsNear (2 ^ 42) t →
    unsigned_abs x ≤ 2 ^ 42 → unsigned_abs y ≤ 2 ^ 42 →
    FitsSigned w128 (edge_function s t x y)
edge_function-fits s t x y near_s near_t near_x near_y =
    let size = edge_function-wide s t x y near_s near_t near_x near_y in
    fits_signed_from_abs w128 (edge_function s t x y) (omega arith)

pub divisor-fits : (a b c : Spot) (x y : ℤ) → IsNear (2 ^ 42) a → IsNear (2 ^ 42) b → IsNear (2 ^ 42) c →
    FitsSigned w128 (divisor a b c x y)
divisor-fits a b c x y near_a near_b near_c =
    let size = divisor-wide a b c x y near_a near_b near_c in
    fits_signed_from_abs w128 (divisor a b c x y) (omega arith)

pub weighted-fits : (a b c : Spot) (x y : ℤ) → IsNear (2 ^ 42) a → IsNear (2 ^ 42) b → IsNear (2 ^ 42) c →
    unsigned_abs x ≤ 2 ^ 42 → unsigned_abs y ≤ 2 ^ 42 → a.z < 2 ^ 30 → b.z < 2 ^ 30 → c.z < 2 ^ 30 →
    FitsSigned w128 (weighted a b c x y)
weighted-fits a b c x y near_a near_b near_c near_x near_y z_a z_b z_c =
    let size = weighted-wide a b c x y near_a near_b near_c near_x near_y z_a z_b z_c in
    fits_signed_from_abs w128 (weighted a b c x y) (omega arith)
