-- Sums and differences of bounded integers, and the words that hold them.
use Rattle.std.proofs.Common.{◌≡◌, ℕ, ◌+◌, ◌*◌, ◌≤◌, ◌<◌, ◌^◌, ℤ, ◌+ℤ◌, ◌-ℤ◌, to_z, of_z, w64, unsigned_abs, lit<}
use Rattle.std.proofs.Common.{arith, rules}
use Rattle.std.proofs.Math.Nat.{mul-le-mul}
use Rattle.std.proofs.lemmas.Nat.{mul-add-lt}
use Rattle.std.proofs.lemmas.Int.{ints, to_z-of_z, fits_signed_from_abs}
use Rattle.geom_core.specs.Limits.{IsScreenCoordinate, IsSpot, IsDepth, IsPicture}
use Rattle.geom_core.specs.declared.limits.TheConstants.{MAX_SIDE, MAX_DEPTH}
use Rattle.geom_core.specs.declared.screens.Size.{Size}
use Rattle.geom_core.specs.declared.screens.Spot.{Spot}
use mir.Syntax.{Width}
use mir.Val.{hbits}

pub within_sub : (a b : ℤ) (m n k : ℕ) → unsigned_abs a ≤ m → unsigned_abs b ≤ n → m + n ≤ k → unsigned_abs (a -ℤ b) ≤ k
within_sub a b m n k p q r = omega (arith, ints)

pub within_add : (a b : ℤ) (m n k : ℕ) → unsigned_abs a ≤ m → unsigned_abs b ≤ n → m + n ≤ k → unsigned_abs (a +ℤ b) ≤ k
within_add a b m n k p q r = omega (arith, ints)

-- a number this near to 0 is held by the word
pub held_by : (w : Width) (z : ℤ) (n : ℕ) → unsigned_abs z ≤ n → n < 2 ^ hbits w → to_z w (of_z w z) ≡ z
held_by w z n p q = to_z-of_z w z (fits_signed_from_abs w z (omega arith))

-- a screen coordinate's distance from 0, and that 64 bits hold it
pub screen_size : (z : ℤ) → IsScreenCoordinate z → unsigned_abs z ≤ 2 ^ 42
screen_size z h = search rules

pub screen_word : (z : ℤ) → IsScreenCoordinate z → to_z w64 (of_z w64 z) ≡ z
screen_word z h = held_by w64 z (2 ^ 42) (screen_size z h) (lit< tt)

-- the two coordinates of a spot
pub spot_x : (s : Spot) → IsSpot s → IsScreenCoordinate s.x
spot_x s h = search rules

pub spot_y : (s : Spot) → IsSpot s → IsScreenCoordinate s.y
spot_y s h = search rules

pub spot_z : (s : Spot) → IsSpot s → IsDepth s.z
spot_z s h = search rules

pub depth_limit : (z : ℕ) → IsDepth z → z ≤ MAX_DEPTH
depth_limit z h = search rules

-- the sides of a picture
pub picture_sides : (size : Size) → IsPicture size →
    (0 < size.width) × (size.width ≤ MAX_SIDE) × (0 < size.height) × (size.height ≤ MAX_SIDE)
picture_sides size h = search rules

-- a difference and a sum as the code computes them
pub computed_sub : (w : Width) (a b : ℤ) (n : ℕ) → unsigned_abs a ≤ n → unsigned_abs b ≤ n → n + n < 2 ^ hbits w →
    to_z w (of_z w (to_z w (of_z w a) -ℤ to_z w (of_z w b))) ≡ a -ℤ b
computed_sub w a b n p q r =
    let e : to_z w (of_z w a) ≡ a = held_by w a n p (omega arith) in
    let f : to_z w (of_z w b) ≡ b = held_by w b n q (omega arith) in
    rw (e, f) (held_by w (a -ℤ b) (n + n) (within_sub a b n n (n + n) p q (omega arith)) r)

pub computed_add : (w : Width) (a b : ℤ) (n : ℕ) → unsigned_abs a ≤ n → unsigned_abs b ≤ n → n + n < 2 ^ hbits w →
    to_z w (of_z w (to_z w (of_z w a) +ℤ to_z w (of_z w b))) ≡ a +ℤ b
computed_add w a b n p q r =
    let e : to_z w (of_z w a) ≡ a = held_by w a n p (omega arith) in
    let f : to_z w (of_z w b) ≡ b = held_by w b n q (omega arith) in
    rw (e, f) (held_by w (a +ℤ b) (n + n) (within_add a b n n (n + n) p q (omega arith)) r)

-- the number of a pixel of a picture
pub pixel_limit : (size : Size) (row column : ℕ) → IsPicture size → row < size.height → column < size.width →
    row * size.width + column < 2 ^ 20
pixel_limit size row column picture in_row in_column =
    let sides = picture_sides size picture in
    let box : size.width * size.height ≤ MAX_SIDE * MAX_SIDE = mul-le-mul sides.1 sides.3 in
    omega (arith, mul-add-lt row size.width column size.height in_row in_column)
