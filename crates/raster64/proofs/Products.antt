-- That the differences, products and sums of coordinates within a type's reach are numbers that the type holds.
use Rattle.std.proofs.Common.{◌≡◌, ℕ, ◌+◌, ◌*◌, ◌^◌, ◌<◌, ◌≤◌, ℤ, pos, ◌+ℤ◌, ◌-ℤ◌, ◌*ℤ◌, ◌<ℤ◌, ◌≤ℤ◌, unsigned_abs, to_z}
use Rattle.std.proofs.Common.{of_z, w64, refl, lit<, arith, mul-le-mul}
use Rattle.std.proofs.lemmas.Int.{ints}
use Rattle.geom_core.specs.declared.limits.TheConstants.{SUBPIXELS, MAX_SIDE, MAX_DEPTH, MAX_SCREEN_COORDINATE}
use Rattle.geom_core.specs.declared.screens.Spot.{Spot}
use Rattle.geom_core.specs.Floor.{floor_div}
use Rattle.geom_core.specs.Winding.{edge_function}
use Rattle.geom_core.specs.Depth.{weighted}
use Rattle.geom_core.proofs.SizeLaws.{size-add, size-sub, size-mul, edge_function-near, weighted-near}
use Rattle.raster64.specs.declared.reach.TheConstants.{NEAR_COORDINATE}
use Rattle.raster64.specs.Internal.Centres.{centre}
use Rattle.raster64.specs.Internal.Numerators.{IsWithin, by_depths, growth}
use Rattle.raster64.proofs.Bounds.{held_by}
use Rattle.raster64.proofs.Division.{share_size}

-- a coordinate within reach is held by 64 bits
pub word : (m : ℕ) (z : ℤ) → m ≤ MAX_SCREEN_COORDINATE → unsigned_abs z ≤ m → to_z w64 (of_z w64 z) ≡ z
word m z limit h = held_by w64 z (2 ^ 42) (omega arith) (lit< tt)

-- the difference of two coordinates, as they are passed
pub difference : (m : ℕ) (a b : ℤ) → m ≤ MAX_SCREEN_COORDINATE → unsigned_abs a ≤ m → unsigned_abs b ≤ m →
    to_z w64 (of_z w64 a) -ℤ to_z w64 (of_z w64 b) ≡ a -ℤ b
difference m a b limit p q = rw (word m a limit p, word m b limit q) refl

pub word_size : (m : ℕ) (z : ℤ) → m ≤ MAX_SCREEN_COORDINATE → unsigned_abs z ≤ m →
    unsigned_abs (to_z w64 (of_z w64 z)) ≤ MAX_SCREEN_COORDINATE
word_size m z limit h = rw (word m z limit h) (omega arith)

-- the product of two differences
pub product_size : (m most : ℕ) (a b c d : ℤ) → 4 * (8 * (m * m) * MAX_DEPTH) ≤ most →
    unsigned_abs a ≤ m → unsigned_abs b ≤ m → unsigned_abs c ≤ m → unsigned_abs d ≤ m →
    unsigned_abs ((a -ℤ b) *ℤ (c -ℤ d)) ≤ most
product_size m most a b c d limit p q r s =
    let size = size-mul (a -ℤ b) (c -ℤ d) (m + m) (m + m) (size-sub a b m m p q) (size-sub c d m m r s) in
    omega arith

pub edge_size : (m most : ℕ) (s t : Spot) (x y : ℤ) → 4 * (8 * (m * m) * MAX_DEPTH) ≤ most →
    IsWithin m s → IsWithin m t → unsigned_abs x ≤ m → unsigned_abs y ≤ m →
    unsigned_abs (edge_function s t x y) ≤ most
edge_size m most s t x y limit from to at_x at_y =
    let size = edge_function-near m s t x y (record { x = from.x; y = from.y })
    (record { x = to.x; y = to.y }) at_x at_y in
    omega arith

-- ---- the crossing column

-- a height between two ends is within reach
pub height_size : (m : ℕ) (lo hi y : ℤ) → unsigned_abs lo ≤ m → unsigned_abs hi ≤ m → lo ≤ℤ y → y <ℤ hi →
    unsigned_abs y ≤ m
height_size m lo hi y p q from before = omega (arith, ints)

-- how far the column is from the lesser end
pub offset_size : (m : ℕ) (lo hi : Spot) (y : ℤ) → m ≤ MAX_SCREEN_COORDINATE → IsWithin m lo → IsWithin m hi →
    lo.y ≤ℤ y → y <ℤ hi.y →
    unsigned_abs (floor_div ((lo.x -ℤ hi.x) *ℤ (y -ℤ lo.y)) (hi.y -ℤ lo.y)) ≤ 2 ^ 43
offset_size m lo hi y limit at_lo at_hi from before =
    let size = share_size (lo.x -ℤ hi.x) (y -ℤ lo.y) (hi.y -ℤ lo.y) (m + m) (omega (arith, ints)) (omega (arith, ints))
    (omega (arith, ints)) (size-sub lo.x hi.x m m at_lo.x at_hi.x) in
    omega arith

-- ---- weighted sums

-- three shares of a number that the type holds
pub two_shares : (most : ℕ) (p q : ℤ) (y z : ℕ) → y ≤ MAX_DEPTH → z ≤ MAX_DEPTH →
    3 * (unsigned_abs p * MAX_DEPTH) ≤ most → 3 * (unsigned_abs q * MAX_DEPTH) ≤ most →
    unsigned_abs (p *ℤ pos y +ℤ q *ℤ pos z) ≤ most
two_shares most p q y z at_y at_z of_p of_q =
    let by_p = size-mul p (pos y) (unsigned_abs p) MAX_DEPTH (omega arith) at_y in
    let by_q = size-mul q (pos z) (unsigned_abs q) MAX_DEPTH (omega arith) at_z in
    let both = size-add (p *ℤ pos y) (q *ℤ pos z) (unsigned_abs p * MAX_DEPTH) (unsigned_abs q * MAX_DEPTH) by_p by_q in
    omega arith

pub three_shares : (most : ℕ) (a b c : Spot) (p q r : ℤ) → a.z ≤ MAX_DEPTH → b.z ≤ MAX_DEPTH → c.z ≤ MAX_DEPTH →
    3 * (unsigned_abs p * MAX_DEPTH) ≤ most → 3 * (unsigned_abs q * MAX_DEPTH) ≤ most →
    3 * (unsigned_abs r * MAX_DEPTH) ≤ most →
    unsigned_abs (by_depths a b c p q r) ≤ most
three_shares most a b c p q r at_a at_b at_c of_p of_q of_r =
    let by_p = size-mul p (pos a.z) (unsigned_abs p) MAX_DEPTH (omega arith) at_a in
    let by_q = size-mul q (pos b.z) (unsigned_abs q) MAX_DEPTH (omega arith) at_b in
    let by_r = size-mul r (pos c.z) (unsigned_abs r) MAX_DEPTH (omega arith) at_c in
    let two = size-add (p *ℤ pos a.z) (q *ℤ pos b.z) (unsigned_abs p * MAX_DEPTH)
    (unsigned_abs q * MAX_DEPTH) by_p by_q in
    let all = size-add (p *ℤ pos a.z +ℤ q *ℤ pos b.z) (r *ℤ pos c.z)
    (unsigned_abs p * MAX_DEPTH + unsigned_abs q * MAX_DEPTH)
    (unsigned_abs r * MAX_DEPTH) two by_r in
    omega arith

-- an edge function's share of the weighted sum
pub edge_share : (m most : ℕ) (s t : Spot) (x y : ℤ) → 4 * (8 * (m * m) * MAX_DEPTH) ≤ most →
    IsWithin m s → IsWithin m t → unsigned_abs x ≤ m → unsigned_abs y ≤ m →
    3 * (unsigned_abs (edge_function s t x y) * MAX_DEPTH) ≤ most
edge_share m most s t x y limit from to at_x at_y =
    let size = edge_function-near m s t x y (record { x = from.x; y = from.y })
    (record { x = to.x; y = to.y }) at_x at_y in
    omega arith

-- what the weighted sum grows by, 16 times three shares of a difference
pub growth_size : (m : ℕ) (a b c : Spot) → NEAR_COORDINATE ≤ m → IsWithin m a → IsWithin m b → IsWithin m c →
    a.z ≤ MAX_DEPTH → b.z ≤ MAX_DEPTH → c.z ≤ MAX_DEPTH →
    unsigned_abs (growth a b c) ≤ 8 * (m * m) * MAX_DEPTH
unfolding growth
growth_size m a b c centres at_a at_b at_c z_a z_b z_c =
    let p = size-sub b.y c.y m m at_b.y at_c.y in
    let q = size-sub c.y a.y m m at_c.y at_a.y in
    let r = size-sub a.y b.y m m at_a.y at_b.y in
    let sum = three_shares (3 * ((m + m) * MAX_DEPTH)) a b c (b.y -ℤ c.y) (c.y -ℤ a.y) (a.y -ℤ b.y) z_a z_b z_c
    (omega arith) (omega arith) (omega arith) in
    let all = size-mul (by_depths a b c (b.y -ℤ c.y) (c.y -ℤ a.y) (a.y -ℤ b.y)) (pos SUBPIXELS)
    (3 * ((m + m) * MAX_DEPTH)) SUBPIXELS sum (omega arith) in
    let square : 2 ^ 14 * m ≤ m * m = mul-le-mul centres (omega arith) in
    omega arith

pub weighted_size : (m : ℕ) (a b c : Spot) (x y : ℤ) → IsWithin m a → IsWithin m b → IsWithin m c →
    unsigned_abs x ≤ m → unsigned_abs y ≤ m → a.z ≤ MAX_DEPTH → b.z ≤ MAX_DEPTH → c.z ≤ MAX_DEPTH →
    unsigned_abs (weighted a b c x y) ≤ 3 * (8 * (m * m) * MAX_DEPTH)
weighted_size m a b c x y at_a at_b at_c at_x at_y z_a z_b z_c =
    weighted-near m MAX_DEPTH a b c x y (record { x = at_a.x; y = at_a.y }) (record { x = at_b.x; y = at_b.y })
    (record { x = at_c.x; y = at_c.y }) at_x at_y z_a z_b z_c

-- twice the triangle's area
pub area_size : (m : ℕ) (a b c : Spot) → IsWithin m a → IsWithin m b → IsWithin m c →
    unsigned_abs (edge_function a b c.x c.y) ≤ 8 * (m * m)
area_size m a b c at_a at_b at_c =
    edge_function-near m a b c.x c.y (record { x = at_a.x; y = at_a.y })
    (record { x = at_b.x; y = at_b.y }) at_c.x at_c.y

-- a weighted sum is less than the type holds, and one more
pub weighted_fits : (m most k : ℕ) → NEAR_COORDINATE ≤ m → 4 * (8 * (m * m) * MAX_DEPTH) ≤ most →
    k ≤ 3 * (8 * (m * m) * MAX_DEPTH) → k + 1 < most
weighted_fits m most k near limit size =
    let square : NEAR_COORDINATE * NEAR_COORDINATE ≤ m * m = mul-le-mul near near in
    omega arith

-- the centres of a picture and the one after the last are within reach
pub centre_size : (m k : ℕ) → NEAR_COORDINATE ≤ m → k ≤ MAX_SIDE → unsigned_abs (centre k) ≤ m
centre_size m k near h = omega arith
