-- Bounds on the absolute values of sums, products and quotients.
use Rattle.std.specs.Prelude.{◌≡◌, ◌+◌, ◌*◌, ◌<◌, ◌≤◌, ◌^◌, ◌≤ℤ◌, ℕ, ℤ, pos, negsuc, ◌-ℤ◌, ◌*ℤ◌, unsigned_abs}
use Rattle.std.specs.Prelude.{FitsSigned, refl}
use Rattle.std.specs.Int.{int_div_euclid}
use Rattle.std.proofs.Common.{arith, to_z, of_z, w64}
use Rattle.std.proofs.lemmas.Int.{ints, unsigned_abs-mul, fits_signed_from_abs, to_z-of_z}
use Rattle.std.proofs.lemmas.Nat.{mul-le, div_below}
use Rattle.geom_core.specs.Floor.{floor_div}

pub unsigned_abs-sub : (a b : ℤ) → unsigned_abs (a -ℤ b) ≤ unsigned_abs a + unsigned_abs b
unsigned_abs-sub a b = omega (arith, ints)

pub unsigned_abs-mul-le : (a b : ℤ) (m n : ℕ) → unsigned_abs a ≤ m → unsigned_abs b ≤ n → unsigned_abs (a *ℤ b) ≤ m * n
unsigned_abs-mul-le a b m n p q = omega (arith, unsigned_abs-mul a b, mul-le _ _ m n p q)

-- by a divisor above 0, the quotient whose remainder isn't negative is the one rounded down
pub floor_div_positive : (n d : ℤ) (least : ℕ) → pos least ≤ℤ d → int_div_euclid n d ≡ floor_div n d
floor_div_positive n (pos d) least p = refl
floor_div_positive n (negsuc d) least p = absurd (omega (arith, ints))

-- a quotient that is rounded down
pub unsigned_abs-floor_div : (n d : ℤ) (least most : ℕ) → 0 < least → pos least ≤ℤ d → unsigned_abs n < most * least →
    unsigned_abs (floor_div n d) ≤ most
unsigned_abs-floor_div n (negsuc d) least most p q r = absurd (omega (arith, ints))
unsigned_abs-floor_div (pos n) (pos d) least most p q r =
    let wide : most * least ≤ most * d = omega (arith, mul-le most least most d (omega arith) (omega (arith, ints))) in
    omega (arith, div_below n d most (omega (arith, ints)) (omega arith))
unsigned_abs-floor_div (negsuc n) (pos d) least most p q r =
    let wide : most * least ≤ most * d = omega (arith, mul-le most least most d (omega arith) (omega (arith, ints))) in
    omega (arith, div_below n d most (omega (arith, ints)) (omega arith))

-- a number that is small enough fits 64 bits, and stays as it is
pub small_fits : (z : ℤ) (most : ℕ) → unsigned_abs z ≤ most → most < 2 ^ 63 → FitsSigned w64 z
small_fits z most p q = fits_signed_from_abs w64 z (omega arith)

pub small_stays : (z : ℤ) (most : ℕ) → unsigned_abs z ≤ most → most < 2 ^ 63 → to_z w64 (of_z w64 z) ≡ z
small_stays z most p q = to_z-of_z w64 z (small_fits z most p q)
