-- Steps rounded to whole ones, by their sizes.
use Rattle.std.proofs.Common.{◌≡◌, ℕ, zero, suc, ◌+◌, ◌-◌, ◌*◌, ◌/◌, ◌^◌, ◌<◌, ◌≤◌, Bool, true, false, ◌&&◌, leb, ℤ}
use Rattle.std.proofs.Common.{pos, negsuc, neg_ℤ, ◌+ℤ◌, ◌-ℤ◌, ◌*ℤ◌, ◌<ℤ◌, ◌≤ℤ◌, Ok, Err, refl, sym, ap, ◌∙◌, arith}
use Rattle.std.proofs.lemmas.Int.{ints}
use mir.Val.{bool_byte}
use Rattle.geom_core.proofs.FloorLaws.{floor_div-is}
use Rattle.geom_core.specs.declared.limits.TheConstants.{MAX_COORDINATE, MAX_STEPS_PER_UNIT}
use Rattle.geom_core.specs.Limits.{IsScale}
use Rattle.std.specs.Prelude.{unsigned_abs}
use Rattle.std.proofs.lemmas.Bool.{leb-true}
use Rattle.std.proofs.Math.Nat.{mul-le-mul, div-eq_of_lt, zero-mul}
use Rattle.std.proofs.lemmas.Bool.Decides.{nat_tests}
use Rattle.obj_source.specs.declared.numbers.NumberWhy.TheVariants.{Range}
use Rattle.obj_source.specs.Numerals.{signed, nearest, times_power, in_grid}
use Rattle.obj_source.proofs.Powers.{power_small, power_some}
use Rattle.obj_source.specs.Scans.{coordinate_from}

-- products of a number that is not above 0
neg_mul : (m k : ℕ) → neg_ℤ (pos m) *ℤ pos k ≡ neg_ℤ (pos (m * k))
neg_mul zero k = omega (arith, ints)
neg_mul (suc m) zero = omega (arith, ints)
neg_mul (suc m) (suc k) = omega (arith, ints)

next : (m : ℕ) → neg_ℤ (pos (suc m)) +ℤ pos 1 ≡ neg_ℤ (pos m)
next m = omega (arith, ints)

neg_mul_next : (m k : ℕ) → (neg_ℤ (pos m) +ℤ pos 1) *ℤ pos k ≡ neg_ℤ (pos (m * k)) +ℤ pos k
neg_mul_next zero k = omega (arith, ints)
neg_mul_next (suc m) k = ap (λ (z : ℤ). z *ℤ pos k) (next m) ∙ neg_mul m k ∙ omega (arith, ints)

-- the nearest one of a number above 0, and of one below 0
pub nearest_positive : (n d : ℕ) → nearest (pos n) d ≡ pos ((2 * n + d) / (2 * d))
nearest_positive n d = refl

twice : (n : ℕ) → pos 2 *ℤ neg_ℤ (pos n) ≡ neg_ℤ (pos (2 * n))
twice zero = omega (arith, ints)
twice (suc n) = omega (arith, ints)

low_side : (n d p : ℕ) → 1 ≤ d → 2 * n + d - 1 < p + 2 * d → neg_ℤ (pos p) ≤ℤ (pos 2 *ℤ neg_ℤ (pos n) +ℤ pos d)
low_side n d p some h = rw twice (omega (arith, ints))

high_side : (n d p : ℕ) → 1 ≤ d → p ≤ 2 * n + d - 1 →
    (pos 2 *ℤ neg_ℤ (pos n) +ℤ pos d) <ℤ (neg_ℤ (pos p) +ℤ pos (2 * d))
high_side n d p some h = rw twice (omega (arith, ints))

pub nearest_negative : (n d : ℕ) → 1 ≤ d → nearest (neg_ℤ (pos n)) d ≡ neg_ℤ (pos ((2 * n + d - 1) / (2 * d)))
nearest_negative n d some =
    let m : ℕ = (2 * n + d - 1) / (2 * d) in
    floor_div-is (pos 2 *ℤ neg_ℤ (pos n) +ℤ pos d) (pos (2 * d)) (neg_ℤ (pos m))
    (omega (arith, ints))
    (rw neg_mul (low_side n d (m * (2 * d)) some (omega arith)))
    (rw neg_mul_next (high_side n d (m * (2 * d)) some (omega arith)))

-- both by their sizes: a minus rounds a half down in size
pub nearest_signed : (is_negative : Bool) (n d : ℕ) → 1 ≤ d →
    signed is_negative ((2 * n + d - bool_byte is_negative) / (2 * d)) ≡ nearest (signed is_negative n) d
nearest_signed false n d some =
    let same : 2 * n + d - 0 ≡ 2 * n + d = omega arith in
    ap (λ (k : ℕ). pos (k / (2 * d))) same
nearest_signed true n d some = sym (nearest_negative n d some)

-- ---- powers of ten

pub signed_mul : (is_negative : Bool) (n k : ℕ) → signed is_negative n *ℤ pos k ≡ signed is_negative (n * k)
signed_mul false n k = refl
signed_mul true n k = neg_mul n k

-- a power so low makes 0 of any number of steps
zero_signed : (is_negative : Bool) (n : ℕ) → n ≡ 0 → signed is_negative n ≡ pos 0
zero_signed false n e = ap pos e
zero_signed true n e = ap (λ (k : ℕ). neg_ℤ (pos k)) e

below_half : (n d b : ℕ) → 2 * n < d → (2 * n + d - b) / (2 * d) ≡ 0
below_half n d b h = div-eq_of_lt (omega arith)

nearest_zero : (is_negative : Bool) (n d : ℕ) → 2 * n < d → nearest (signed is_negative n) d ≡ pos 0
nearest_zero is_negative n d h =
    sym (nearest_signed is_negative n d (omega arith)) ∙
    zero_signed is_negative _ (below_half n d (bool_byte is_negative) h)

pub times_low_power : (is_negative : Bool) (n : ℕ) (power : ℤ) → power <ℤ negsuc 22 → n < 2 ^ 76 →
    times_power (signed is_negative n) power ≡ pos 0
times_low_power is_negative n (pos k) low small = absurd (omega (arith, ints))
times_low_power is_negative n (negsuc k) low small =
    let long : 23 ≤ k = omega (arith, ints) in
    let size : 10 ^ 24 ≤ 10 ^ suc k = power_small 24 (suc k) (omega arith) in
    nearest_zero is_negative n (10 ^ suc k) (omega arith)

-- a minus leaves the size
signed-size : (is_negative : Bool) (n : ℕ) → unsigned_abs (signed is_negative n) ≡ n
signed-size false n = refl
signed-size true zero = refl
signed-size true (suc n) = refl

-- a number so far from 0 is outside of the grid, and any other is in it
pub in_grid_far : (is_negative : Bool) (n : ℕ) → MAX_COORDINATE < n → in_grid (signed is_negative n) ≡ Err Range
in_grid_far is_negative n far =
    let outside : leb n MAX_COORDINATE ≡ false = grind (arith, nat_tests) in
    rw (signed-size is_negative n, outside)

pub in_grid_near : (is_negative : Bool) (n : ℕ) → n ≤ MAX_COORDINATE →
    in_grid (signed is_negative n) ≡ Ok (signed is_negative n)
in_grid_near is_negative n near =
    let inside : leb n MAX_COORDINATE ≡ true = grind (arith, nat_tests) in
    rw (signed-size is_negative n, inside)

-- a power so high takes any step out of the grid

pub times_high_power : (is_negative : Bool) (n : ℕ) (power : ℤ) → pos 6 <ℤ power → 1 ≤ n →
    in_grid (times_power (signed is_negative n) power) ≡ Err Range
times_high_power is_negative n (pos k) high some =
    let long : 7 ≤ k = omega (arith, ints) in
    let size : 10 ^ 7 ≤ 10 ^ k = power_small 7 k long in
    let more : 1 * 10 ^ 7 ≤ n * 10 ^ k = mul-le-mul some size in
    rw signed_mul (in_grid_far is_negative (n * 10 ^ k) (omega arith))
times_high_power is_negative n (negsuc k) high some = absurd (omega (arith, ints))

-- no step stays none
none_times_power : (is_negative : Bool) (n : ℕ) (power : ℤ) → n ≡ 0 → times_power (signed is_negative n) power ≡ pos 0
none_times_power is_negative n (pos k) e =
    let none : n * 10 ^ k ≡ 0 = rw e (zero-mul _) in
    signed_mul is_negative n (10 ^ k) ∙ zero_signed is_negative _ none
none_times_power is_negative n (negsuc k) e =
    let size : 1 ≤ 10 ^ suc k = power_some (suc k) in
    nearest_zero is_negative n (10 ^ suc k) (omega arith)

pub coordinate_from_none : (scale : ℕ) (is_negative : Bool) (digits behind : ℕ) (exponent : ℤ) → digits ≡ 0 →
    coordinate_from scale is_negative digits behind exponent ≡ Ok (pos 0)
coordinate_from_none scale is_negative digits behind exponent e =
    let none : digits * scale ≡ 0 = rw e (zero-mul _) in
    rw (none_times_power is_negative (digits * scale) (exponent -ℤ pos behind) none) refl

both-second : (a b : Bool) → a && b ≡ true → b ≡ true
both-second true b both = both
both-second false b both = absurd (cc)

pub scale_limit : (scale : ℕ) → IsScale scale → scale ≤ MAX_STEPS_PER_UNIT
scale_limit scale in_range =
    leb-true scale MAX_STEPS_PER_UNIT (both-second (leb 1 scale) (leb scale MAX_STEPS_PER_UNIT) in_range)

pub steps_small : (digits scale : ℕ) → digits < 10 ^ 18 → scale ≤ MAX_STEPS_PER_UNIT → digits * scale < 2 ^ 76
steps_small digits scale few coarse =
    let most : digits ≤ 10 ^ 18 = omega arith in
    let both : digits * scale ≤ 10 ^ 18 * MAX_STEPS_PER_UNIT = mul-le-mul most coarse in
    omega arith

-- a point so far to the right makes 0 of any number
pub coordinate_from_far : (scale : ℕ) (is_negative : Bool) (digits behind : ℕ) (exponent : ℤ) → digits < 10 ^ 18 →
    scale ≤ MAX_STEPS_PER_UNIT → exponent ≤ℤ pos 9999 → 20000 < behind →
    coordinate_from scale is_negative digits behind exponent ≡ Ok (pos 0)
coordinate_from_far scale is_negative digits behind exponent few coarse high far =
    rw (times_low_power is_negative (digits * scale) (exponent -ℤ pos behind) (omega (arith, ints))
    (steps_small digits scale few coarse)) refl
