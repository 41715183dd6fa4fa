-- Sums and products of signed numbers that fit their type.
use Rattle.std.proofs.Common.{◌≡◌, ℕ, ◌*◌, ◌^◌, ◌≤◌, ℤ, ◌+ℤ◌, ◌-ℤ◌, ◌*ℤ◌, unsigned_abs, FitsSigned, to_z, of_z, w32}
use Rattle.std.proofs.Common.{w64, arith}
use Rattle.std.specs.Int.{w128}
use Rattle.std.proofs.lemmas.Int.{ints, to_z-of_z, fits_signed_from_abs}
use Rattle.geom_core.proofs.SizeLaws.{size-mul}
use Rattle.rim_collapse.specs.declared.vectors.Vector.{Vector}
use Rattle.rim_collapse.specs.Internal.Sizes.{IsWithin}

pub product-fits : (m n : ℤ) → unsigned_abs m ≤ 2 ^ 21 → unsigned_abs n ≤ 2 ^ 21 → FitsSigned w64 (m *ℤ n)
product-fits m n size_m size_n =
    let size = size-mul m n (2 ^ 21) (2 ^ 21) size_m size_n in
    fits_signed_from_abs w64 (m *ℤ n) (omega arith)

pub product-is : (m n : ℤ) → FitsSigned w64 m → FitsSigned w64 n → unsigned_abs m ≤ 2 ^ 21 → unsigned_abs n ≤ 2 ^ 21 →
    to_z w64 (of_z w64 (to_z w64 (of_z w64 m) *ℤ to_z w64 (of_z w64 n))) ≡ m *ℤ n
product-is m n fits_m fits_n size_m size_n =
    rw (to_z-of_z w64 m fits_m, to_z-of_z w64 n fits_n) (to_z-of_z w64 (m *ℤ n) (product-fits m n size_m size_n))

pub product-size : (m n : ℤ) → FitsSigned w64 m → FitsSigned w64 n → unsigned_abs m ≤ 2 ^ 21 →
    unsigned_abs n ≤ 2 ^ 21 →
    unsigned_abs (to_z w64 (of_z w64 (to_z w64 (of_z w64 m) *ℤ to_z w64 (of_z w64 n)))) ≤ 2 ^ 42
product-size m n fits_m fits_n size_m size_n =
    rw (product-is m n fits_m fits_n size_m size_n) (size-mul m n (2 ^ 21) (2 ^ 21) size_m size_n)

-- a difference of two products
pub difference-fits : (p q : ℤ) → unsigned_abs p ≤ 2 ^ 42 → unsigned_abs q ≤ 2 ^ 42 →
    FitsSigned w64 (to_z w64 (of_z w64 p) -ℤ to_z w64 (of_z w64 q))
difference-fits p q size_p size_q =
    fits_signed_from_abs w64 (to_z w64 (of_z w64 p) -ℤ to_z w64 (of_z w64 q)) (omega (arith, ints))

pub difference-is : (p q : ℤ) → unsigned_abs p ≤ 2 ^ 42 → unsigned_abs q ≤ 2 ^ 42 →
    to_z w64 (of_z w64 (to_z w64 (of_z w64 p) -ℤ to_z w64 (of_z w64 q))) ≡ p -ℤ q
difference-is p q size_p size_q = omega (arith, ints)

pub difference-size : (p q : ℤ) → unsigned_abs p ≤ 2 ^ 42 → unsigned_abs q ≤ 2 ^ 42 →
    unsigned_abs (to_z w64 (of_z w64 (to_z w64 (of_z w64 p) -ℤ to_z w64 (of_z w64 q)))) ≤ 2 ^ 43
difference-size p q size_p size_q = omega (arith, ints)

-- a sum of three wide products
pub sum2-is : (p q : ℤ) → unsigned_abs p ≤ 2 ^ 86 → unsigned_abs q ≤ 2 ^ 86 →
    to_z w128 (of_z w128 (to_z w128 (of_z w128 p) +ℤ to_z w128 (of_z w128 q))) ≡ p +ℤ q
sum2-is p q size_p size_q = omega (arith, ints)

pub sum2-fits : (p q : ℤ) → unsigned_abs p ≤ 2 ^ 86 → unsigned_abs q ≤ 2 ^ 86 →
    FitsSigned w128 (to_z w128 (of_z w128 p) +ℤ to_z w128 (of_z w128 q))
sum2-fits p q size_p size_q =
    fits_signed_from_abs w128 (to_z w128 (of_z w128 p) +ℤ to_z w128 (of_z w128 q)) (omega (arith, ints))

pub sum3-is : (s r : ℤ) → unsigned_abs s ≤ 2 ^ 87 → unsigned_abs r ≤ 2 ^ 86 →
    to_z w128 (of_z w128 (s +ℤ to_z w128 (of_z w128 r))) ≡ s +ℤ r
sum3-is s r size_s size_r = omega (arith, ints)

pub sum3-fits : (s r : ℤ) → unsigned_abs s ≤ 2 ^ 87 → unsigned_abs r ≤ 2 ^ 86 →
    FitsSigned w128 (s +ℤ to_z w128 (of_z w128 r))
sum3-fits s r size_s size_r =
    fits_signed_from_abs w128 (s +ℤ to_z w128 (of_z w128 r)) (omega (arith, ints))

pub sum2-size : (p q : ℤ) → unsigned_abs p ≤ 2 ^ 86 → unsigned_abs q ≤ 2 ^ 86 → unsigned_abs (p +ℤ q) ≤ 2 ^ 87
sum2-size p q size_p size_q = omega (arith, ints)

pub sum3-size : (p q r : ℤ) → unsigned_abs p ≤ 2 ^ 86 → unsigned_abs q ≤ 2 ^ 86 → unsigned_abs r ≤ 2 ^ 86 →
    unsigned_abs (p +ℤ q +ℤ r) ≤ 3 * (2 ^ 43 * 2 ^ 43)
sum3-size p q r size_p size_q size_r = omega (arith, ints)

-- ---- vectors

abbrev pub vector : ℤ → ℤ → ℤ → Vector
vector x y z = record { x = x; y = y; z = z }

back : (z : ℤ) → unsigned_abs z ≤ 2 ^ 43 → to_z w64 (of_z w64 z) ≡ z
back z size = omega (arith, ints)

smaller : (n most : ℕ) → n ≤ most → most ≤ 2 ^ 43 → n ≤ 2 ^ 43
smaller n most h k = omega arith

pub vector-is : (most : ℕ) (x y z k l m : ℤ) → most ≤ 2 ^ 43 → unsigned_abs x ≤ most → unsigned_abs y ≤ most →
    unsigned_abs z ≤ most → x ≡ k → y ≡ l → z ≡ m →
    vector (to_z w64 (of_z w64 x)) (to_z w64 (of_z w64 y)) (to_z w64 (of_z w64 z)) ≡ vector k l m
vector-is most x y z k l m small size_x size_y size_z by_x by_y by_z =
    rw (
      back x (smaller (unsigned_abs x) most size_x small),
      back y (smaller (unsigned_abs y) most size_y small),
      back z (smaller (unsigned_abs z) most size_z small),
      by_x,
      by_y,
      by_z,
    )

pub vector-size : (most : ℕ) (x y z : ℤ) → most ≤ 2 ^ 43 → unsigned_abs x ≤ most → unsigned_abs y ≤ most →
    unsigned_abs z ≤ most →
    IsWithin most (vector (to_z w64 (of_z w64 x)) (to_z w64 (of_z w64 y)) (to_z w64 (of_z w64 z)))
vector-size most x y z small size_x size_y size_z = record {
  x = rw (back x (smaller (unsigned_abs x) most size_x small)) size_x;
  y = rw (back y (smaller (unsigned_abs y) most size_y small)) size_y;
  z = rw (back z (smaller (unsigned_abs z) most size_z small)) size_z;
}

pub offset-small : 2 ^ 21 ≤ 2 ^ 43
offset-small = omega arith

pub normal-small : 2 ^ 43 ≤ 2 ^ 43
normal-small = omega arith

pub same_difference : (p q r s : ℤ) → p ≡ r → q ≡ s → p -ℤ q ≡ r -ℤ s
same_difference p q r s e f = rw (e, f)

pub same_sum : (p q r s t u : ℤ) → p ≡ s → q ≡ t → r ≡ u → p +ℤ q +ℤ r ≡ s +ℤ t +ℤ u
same_sum p q r s t u e f g = rw (e, f, g)

-- ---- what a callee says of numbers that were passed to it

pub passed-difference : (r m n : ℤ) → FitsSigned w32 m → FitsSigned w32 n →
    r ≡ to_z w32 (of_z w32 m) -ℤ to_z w32 (of_z w32 n) → r ≡ m -ℤ n
passed-difference r m n fits_m fits_n h = rw (to_z-of_z w32 m fits_m, to_z-of_z w32 n fits_n) at h

pub passed-product : (most : ℕ) (r m n : ℤ) → most ≤ 2 ^ 43 → unsigned_abs m ≤ most → unsigned_abs n ≤ most →
    r ≡ to_z w64 (of_z w64 m) *ℤ to_z w64 (of_z w64 n) → r ≡ m *ℤ n
passed-product most r m n small size_m size_n h =
    rw (back m (smaller (unsigned_abs m) most size_m small), back n (smaller (unsigned_abs n) most size_n small)) at h

pub passed-component : (most : ℕ) (r k l m n : ℤ) → most ≤ 2 ^ 43 → unsigned_abs k ≤ most → unsigned_abs l ≤ most →
    unsigned_abs m ≤ most → unsigned_abs n ≤ most →
    r ≡ to_z w64 (of_z w64 k) *ℤ to_z w64 (of_z w64 n) -ℤ to_z w64 (of_z w64 l) *ℤ to_z w64 (of_z w64 m) →
    r ≡ k *ℤ n -ℤ l *ℤ m
passed-component most r k l m n small size_k size_l size_m size_n h =
    rw (
      back k (smaller (unsigned_abs k) most size_k small),
      back n (smaller (unsigned_abs n) most size_n small),
      back l (smaller (unsigned_abs l) most size_l small),
      back m (smaller (unsigned_abs m) most size_m small),
    ) at h
