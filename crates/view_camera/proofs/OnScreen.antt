-- Where an offset is seen: what the code's products and its quotient give, and which tests of products tell
-- on which side of a picture's centres it is.
use Rattle.std.specs.Prelude.{◌≡◌, ◌+◌, ◌*◌, ◌<◌, ◌≤◌, ◌≤ℤ◌, ◌<ℤ◌, ℕ, ℤ, pos, ◌+ℤ◌, ◌-ℤ◌, ◌*ℤ◌, unsigned_abs, int_lt}
use Rattle.std.specs.Prelude.{int_le, true, FitsSigned, refl}
use Rattle.std.proofs.Common.{arith, ap, ◌∙◌, to_z, of_z, w64, lit<}
use Rattle.std.proofs.lemmas.Int.{ints, to_z-of_z}
use Rattle.geom_core.specs.Camera.{on_screen}
use Rattle.geom_core.specs.Floor.{floor_div}
use Rattle.geom_core.proofs.FloorLaws.{floor_div-at_least, floor_div-at_most}
use Rattle.view_camera.proofs.Bounds.{unsigned_abs-mul-le, unsigned_abs-floor_div, small_stays}

quotient_is : (n depth r : ℤ) → unsigned_abs n ≤ 57420895248973824 → FitsSigned w64 depth →
    r ≡ floor_div (to_z w64 (of_z w64 n)) (to_z w64 (of_z w64 depth)) → r ≡ floor_div n depth
quotient_is n depth r p t h = h ∙ rw (small_stays n 57420895248973824 p (lit< tt), to_z-of_z w64 depth t) refl

quotient_bound : (n depth : ℤ) → unsigned_abs n ≤ 57420895248973824 → pos 16384 ≤ℤ depth →
    unsigned_abs (floor_div n depth) ≤ 4398046507008
quotient_bound n depth p s = unsigned_abs-floor_div n depth 16384 4398046507008 (lit< tt) s (omega arith)

pub on_screen_value : (focal : ℕ) (offset n depth r : ℤ) → unsigned_abs offset ≤ 876173328384 →
    n ≡ pos (16 * focal) *ℤ to_z w64 (of_z w64 offset) → unsigned_abs n ≤ 57420895248973824 → pos 16384 ≤ℤ depth →
    FitsSigned w64 depth → r ≡ floor_div (to_z w64 (of_z w64 n)) (to_z w64 (of_z w64 depth)) →
    to_z w64 (of_z w64 r) ≡ on_screen focal offset depth
unfolding on_screen
on_screen_value focal offset n depth r o e p s t h =
    ap (λ z. to_z w64 (of_z w64 z)) (quotient_is n depth r p t h)
    ∙ small_stays (floor_div n depth) 4398046507008 (quotient_bound n depth p s) (lit< tt)
    ∙ ap (λ z. floor_div z depth) (rw (small_stays offset 876173328384 o (lit< tt)) at e)

-- a distance on the screen times a depth, as the code has it
pub times_value : (distance depth : ℤ) → unsigned_abs distance ≤ 4096 → unsigned_abs depth ≤ 876173328384 →
    to_z w64 (of_z w64 (to_z w64 (of_z w64 distance) *ℤ to_z w64 (of_z w64 depth))) ≡ distance *ℤ depth
times_value distance depth p q =
    rw (small_stays distance 4096 p (lit< tt), small_stays depth 876173328384 q (lit< tt))
    (small_stays (distance *ℤ depth) 3588805953060864 (unsigned_abs-mul-le distance depth 4096 876173328384 p q)
    (lit< tt))

below_product : (focal side k : ℕ) (offset depth distance : ℤ) → pos 16384 ≤ℤ depth →
    distance ≡ pos 9 -ℤ pos (8 * side) → (pos (16 * focal) *ℤ offset) <ℤ (distance *ℤ depth) →
    (pos (8 * side) +ℤ on_screen focal offset depth) ≤ℤ pos (16 * k + 8)
unfolding on_screen
below_product focal side k offset depth distance far e below =
    let next : distance ≡ pos 8 -ℤ pos (8 * side) +ℤ pos 1 = omega (arith, ints) in
    let at_most : floor_div (pos (16 * focal) *ℤ offset) depth ≤ℤ (pos 8 -ℤ pos (8 * side)) =
    floor_div-at_most (pos (16 * focal) *ℤ offset) depth (pos 8 -ℤ pos (8 * side)) (omega (arith, ints))
    (rw next at below) in
    omega (arith, ints)

from_product : (focal side k : ℕ) (offset depth distance : ℤ) → k < side → pos 16384 ≤ℤ depth →
    distance ≡ pos (8 * side) -ℤ pos 7 → (distance *ℤ depth) ≤ℤ (pos (16 * focal) *ℤ offset) →
    pos (16 * k + 8) <ℤ (pos (8 * side) +ℤ on_screen focal offset depth)
unfolding on_screen
from_product focal side k offset depth distance within far e from =
    let at_least : (pos (8 * side) -ℤ pos 7) ≤ℤ floor_div (pos (16 * focal) *ℤ offset) depth =
    floor_div-at_least (pos (16 * focal) *ℤ offset) depth (pos (8 * side) -ℤ pos 7) (omega (arith, ints))
    (rw e at from) in
    omega (arith, ints)

is_below : (a b : ℤ) → int_lt a b ≡ true → a <ℤ b
is_below a b h = omega (arith, ints)

is_from : (a b : ℤ) → int_le a b ≡ true → a ≤ℤ b
is_from a b h = omega (arith, ints)

-- the two products that a test compares, as the code has them
pub record Products (focal : ℕ) (offset depth distance n m : ℤ) : Type 0 where
  pub offset_bound : unsigned_abs offset ≤ 876173328384
  pub depth_bound : unsigned_abs depth ≤ 876173328384
  pub far : pos 16384 ≤ℤ depth
  pub n_is : n ≡ pos (16 * focal) *ℤ to_z w64 (of_z w64 offset)
  pub n_bound : unsigned_abs n ≤ 57420895248973824
  pub m_is : m ≡ distance *ℤ to_z w64 (of_z w64 depth)
  pub distance_bound : unsigned_abs distance ≤ 4096

left_is : (focal : ℕ) (offset depth distance n m : ℤ) → Products focal offset depth distance n m →
    to_z w64 (of_z w64 n) ≡ pos (16 * focal) *ℤ offset
left_is focal offset depth distance n m p =
    small_stays n 57420895248973824 p.n_bound (lit< tt) ∙ rw (small_stays offset 876173328384 p.offset_bound (lit< tt))
    at p.n_is

right_is : (focal : ℕ) (offset depth distance n m : ℤ) → Products focal offset depth distance n m →
    to_z w64 (of_z w64 m) ≡ distance *ℤ depth
right_is focal offset depth distance n m p =
    let e : m ≡ distance *ℤ depth = rw (small_stays depth 876173328384 p.depth_bound (lit< tt)) at p.m_is in
    ap (λ z. to_z w64 (of_z w64 z)) e
    ∙ small_stays (distance *ℤ depth) 3588805953060864
    (unsigned_abs-mul-le distance depth 4096 876173328384 p.distance_bound p.depth_bound) (lit< tt)

-- the test that tells that a place is at the first centre or before it
pub before_test : (focal side k : ℕ) (offset depth distance n m : ℤ) → Products focal offset depth distance n m →
    distance ≡ pos 9 -ℤ pos (8 * side) → int_lt (to_z w64 (of_z w64 n)) (to_z w64 (of_z w64 m)) ≡ true →
    (pos (8 * side) +ℤ on_screen focal offset depth) ≤ℤ pos (16 * k + 8)
before_test focal side k offset depth distance n m p e test =
    let below = rw (left_is focal offset depth distance n m p, right_is focal offset depth distance n m p) at test in
    below_product focal side k offset depth distance p.far e (is_below _ _ below)

-- the test that tells that a place is behind the last centre
pub behind_test : (focal side k : ℕ) (offset depth distance n m : ℤ) → k < side →
    Products focal offset depth distance n m → distance ≡ pos (8 * side) -ℤ pos 7 →
    int_le (to_z w64 (of_z w64 m)) (to_z w64 (of_z w64 n)) ≡ true →
    pos (16 * k + 8) <ℤ (pos (8 * side) +ℤ on_screen focal offset depth)
behind_test focal side k offset depth distance n m within p e test =
    let from = rw (left_is focal offset depth distance n m p, right_is focal offset depth distance n m p) at test in
    from_product focal side k offset depth distance within p.far e (is_from _ _ from)

-- the two distances, as the code has them
pub first_centre : (side : ℕ) (s : ℤ) → s ≡ pos (8 * side) → side ≤ 512 →
    to_z w64 (of_z w64 (pos 9 -ℤ to_z w64 (of_z w64 s))) ≡ pos 9 -ℤ pos (8 * side)
first_centre side s e h = omega (arith, ints)

pub last_centre : (side : ℕ) (s : ℤ) → s ≡ pos (8 * side) → side ≤ 512 →
    to_z w64 (of_z w64 (to_z w64 (of_z w64 (to_z w64 (of_z w64 s) -ℤ pos 8)) +ℤ pos 1)) ≡ pos (8 * side) -ℤ pos 7
last_centre side s e h = omega (arith, ints)
