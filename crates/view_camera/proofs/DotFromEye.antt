-- How far a point lies along a row: what the code's three products and two sums give.
use Rattle.std.specs.Prelude.{◌≡◌, ◌≤◌, ◌^◌, ℤ, ◌+ℤ◌, ◌-ℤ◌, ◌*ℤ◌, unsigned_abs, FitsSigned, refl}
use Rattle.std.proofs.Common.{arith, ap, ◌∙◌, to_z, of_z, w32, w64, lit<}
use Rattle.std.proofs.lemmas.Int.{ints, to_z-of_z}
use Rattle.view_camera.proofs.Bounds.{unsigned_abs-sub, unsigned_abs-mul-le, small_fits, small_stays}

-- an entry times a difference, as the code has them
abbrev product : ℤ → ℤ → ℤ → ℤ
product e f t =
    to_z w64 (of_z w64 e) *ℤ to_z w64 (of_z w64 (to_z w64 (of_z w64 t) -ℤ to_z w64 (of_z w64 f)))

product_is : (entry from to e f t : ℤ) → e ≡ entry → f ≡ from → t ≡ to → unsigned_abs entry ≤ 16384 →
    unsigned_abs from ≤ 2 ^ 24 → unsigned_abs to ≤ 2 ^ 20 →
    (product e f t ≡ entry *ℤ (to -ℤ from)) × (unsigned_abs (entry *ℤ (to -ℤ from)) ≤ 292057776128)
product_is entry from to e f t i j k p q r =
    let one : to_z w64 (of_z w64 e) ≡ entry = omega (arith, ints) in
    let away : to_z w64 (of_z w64 (to_z w64 (of_z w64 t) -ℤ to_z w64 (of_z w64 f))) ≡ to -ℤ from = omega (arith, ints)
    in
    let far : unsigned_abs (to -ℤ from) ≤ 17825792 = omega (arith, unsigned_abs-sub to from) in
    (rw (one, away) refl, unsigned_abs-mul-le entry (to -ℤ from) 16384 17825792 p far)

pub axis_product_fits : (entry from to e f t : ℤ) → e ≡ entry → f ≡ from → t ≡ to → unsigned_abs entry ≤ 16384 →
    unsigned_abs from ≤ 2 ^ 24 → unsigned_abs to ≤ 2 ^ 20 → FitsSigned w64 (product e f t)
axis_product_fits entry from to e f t i j k p q r =
    let is = product_is entry from to e f t i j k p q r in
    rw (is.0) (small_fits (entry *ℤ (to -ℤ from)) 292057776128 is.1 (lit< tt))

pub axis_product_value : (entry from to e f t : ℤ) → e ≡ entry → f ≡ from → t ≡ to → unsigned_abs entry ≤ 16384 →
    unsigned_abs from ≤ 2 ^ 24 → unsigned_abs to ≤ 2 ^ 20 → to_z w64 (of_z w64 (product e f t)) ≡ entry *ℤ (to -ℤ from)
axis_product_value entry from to e f t i j k p q r =
    let is = product_is entry from to e f t i j k p q r in
    ap (λ z. to_z w64 (of_z w64 z)) is.0 ∙ small_stays (entry *ℤ (to -ℤ from)) 292057776128 is.1 (lit< tt)

pub axis_product_bound : (entry from to e f t : ℤ) → e ≡ entry → f ≡ from → t ≡ to → unsigned_abs entry ≤ 16384 →
    unsigned_abs from ≤ 2 ^ 24 → unsigned_abs to ≤ 2 ^ 20 →
    unsigned_abs (to_z w64 (of_z w64 (product e f t))) ≤ 292057776128
axis_product_bound entry from to e f t i j k p q r =
    rw (axis_product_value entry from to e f t i j k p q r) (product_is entry from to e f t i j k p q r).1

-- a part, of numbers of 32 bits
pub axis_product_of_fields : (r entry from to : ℤ) → FitsSigned w32 entry → FitsSigned w32 from → FitsSigned w32 to →
    r ≡ to_z w32 (of_z w32 entry) *ℤ (to_z w32 (of_z w32 to) -ℤ to_z w32 (of_z w32 from)) → r ≡ entry *ℤ (to -ℤ from)
axis_product_of_fields r entry from to p q s h =
    h ∙ rw (to_z-of_z w32 entry p, to_z-of_z w32 to s, to_z-of_z w32 from q) refl

-- the first two parts, and then all three, as the code adds them
abbrev two : ℤ → ℤ → ℤ
two p q = to_z w64 (of_z w64 p) +ℤ to_z w64 (of_z w64 q)

abbrev three : ℤ → ℤ → ℤ → ℤ
three p q r = to_z w64 (of_z w64 (two p q)) +ℤ to_z w64 (of_z w64 r)

three_is : (p q r : ℤ) → unsigned_abs p ≤ 292057776128 → unsigned_abs q ≤ 292057776128 → unsigned_abs r ≤ 292057776128 →
    three p q r ≡ p +ℤ q +ℤ r
three_is p q r a b c = omega (arith, ints)

pub two_fit : (p q : ℤ) → unsigned_abs p ≤ 292057776128 → unsigned_abs q ≤ 292057776128 → FitsSigned w64 (two p q)
two_fit p q a b = omega (arith, ints)

pub three_fit : (p q r : ℤ) → unsigned_abs p ≤ 292057776128 → unsigned_abs q ≤ 292057776128 →
    unsigned_abs r ≤ 292057776128 → FitsSigned w64 (three p q r)
three_fit p q r a b c = rw (three_is p q r a b c) (omega (arith, ints))

pub three_value : (p q r : ℤ) → unsigned_abs p ≤ 292057776128 → unsigned_abs q ≤ 292057776128 →
    unsigned_abs r ≤ 292057776128 → to_z w64 (of_z w64 (three p q r)) ≡ p +ℤ q +ℤ r
three_value p q r a b c =
    ap (λ z. to_z w64 (of_z w64 z)) (three_is p q r a b c) ∙ omega (arith, ints)

pub three_bound : (p q r : ℤ) → unsigned_abs p ≤ 292057776128 → unsigned_abs q ≤ 292057776128 →
    unsigned_abs r ≤ 292057776128 → unsigned_abs (to_z w64 (of_z w64 (three p q r))) ≤ 876173328384
three_bound p q r a b c = rw (three_value p q r a b c) (omega (arith, ints))
