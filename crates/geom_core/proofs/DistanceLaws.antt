-- The Chebyshev distance is a metric, and shifts of triangles add up.
use Rattle.std.proofs.Common.{◌≡◌, ℕ, ◌+◌, ◌≤◌, max, ℤ, ◌-ℤ◌, unsigned_abs, refl, arith}
use Rattle.std.proofs.lemmas.Int.{ints}
use Rattle.geom_core.specs.declared.points.Pt.{Pt}
use Rattle.geom_core.specs.declared.triangles.Tri.{Tri}
use Rattle.geom_core.specs.Distance.{distance}
use Rattle.geom_core.specs.Shift.{shift_of}
use Rattle.geom_core.proofs.PointLaws.{same_parts}

-- ---- the greatest of three numbers

pub max3-least : (a b c n : ℕ) → a ≤ n → b ≤ n → c ≤ n → max a (max b c) ≤ n
max3-least a b c n ha hb hc = omega arith

pub max3-first : (a b c : ℕ) → a ≤ max a (max b c)
max3-first a b c = omega arith

pub max3-second : (a b c : ℕ) → b ≤ max a (max b c)
max3-second a b c = omega arith

pub max3-third : (a b c : ℕ) → c ≤ max a (max b c)
max3-third a b c = omega arith

-- ---- one axis

abs-turned : (m n : ℤ) → unsigned_abs (m -ℤ n) ≡ unsigned_abs (n -ℤ m)
abs-turned m n = omega (arith, ints)

abs-triangle : (l m n : ℤ) → unsigned_abs (l -ℤ n) ≤ unsigned_abs (l -ℤ m) + unsigned_abs (m -ℤ n)
abs-triangle l m n = omega (arith, ints)

abs-same : (m : ℤ) → unsigned_abs (m -ℤ m) ≡ 0
abs-same m = omega (arith, ints)

abs-none : (m n : ℤ) → unsigned_abs (m -ℤ n) ≤ 0 → m ≡ n
abs-none m n h = omega (arith, ints)

-- ---- points

pub distance-least : (p q : Pt) (n : ℕ) → unsigned_abs (p.x -ℤ q.x) ≤ n → unsigned_abs (p.y -ℤ q.y) ≤ n →
    unsigned_abs (p.z -ℤ q.z) ≤ n → distance p q ≤ n
unfolding distance
distance-least p q n by_x by_y by_z =
    max3-least (unsigned_abs (p.x -ℤ q.x)) (unsigned_abs (p.y -ℤ q.y)) (unsigned_abs (p.z -ℤ q.z)) n by_x by_y by_z

pub distance-x : (p q : Pt) → unsigned_abs (p.x -ℤ q.x) ≤ distance p q
unfolding distance
distance-x p q = max3-first (unsigned_abs (p.x -ℤ q.x)) (unsigned_abs (p.y -ℤ q.y)) (unsigned_abs (p.z -ℤ q.z))

pub distance-y : (p q : Pt) → unsigned_abs (p.y -ℤ q.y) ≤ distance p q
unfolding distance
distance-y p q = max3-second (unsigned_abs (p.x -ℤ q.x)) (unsigned_abs (p.y -ℤ q.y)) (unsigned_abs (p.z -ℤ q.z))

pub distance-z : (p q : Pt) → unsigned_abs (p.z -ℤ q.z) ≤ distance p q
unfolding distance
distance-z p q = max3-third (unsigned_abs (p.x -ℤ q.x)) (unsigned_abs (p.y -ℤ q.y)) (unsigned_abs (p.z -ℤ q.z))

pub distance-same : (p : Pt) → distance p p ≡ 0
unfolding distance
distance-same p = rw (abs-same p.x, abs-same p.y, abs-same p.z) refl

pub distance-none : (p q : Pt) → distance p q ≡ 0 → p ≡ q
distance-none p q h =
    let by_x : p.x ≡ q.x = abs-none p.x q.x (omega (arith, distance-x p q, h)) in
    let by_y : p.y ≡ q.y = abs-none p.y q.y (omega (arith, distance-y p q, h)) in
    let by_z : p.z ≡ q.z = abs-none p.z q.z (omega (arith, distance-z p q, h)) in
    same_parts p.x p.y p.z q.x q.y q.z by_x by_y by_z

pub distance-turned : (p q : Pt) → distance p q ≡ distance q p
unfolding distance
distance-turned p q = rw (abs-turned p.x q.x, abs-turned p.y q.y, abs-turned p.z q.z) refl

pub distance-triangle : (p q r : Pt) → distance p r ≤ distance p q + distance q r
distance-triangle p q r = distance-least p r (distance p q + distance q r)
    (omega (arith, abs-triangle p.x q.x r.x, distance-x p q, distance-x q r))
    (omega (arith, abs-triangle p.y q.y r.y, distance-y p q, distance-y q r))
    (omega (arith, abs-triangle p.z q.z r.z, distance-z p q, distance-z q r))

-- ---- triangles

pub shift_of-same : (t : Tri) → shift_of t t ≡ 0
unfolding shift_of
shift_of-same t = rw (distance-same t.a, distance-same t.b, distance-same t.c) refl

pub shift_of-triangle : (t u v : Tri) → shift_of t v ≤ shift_of t u + shift_of u v
unfolding shift_of
shift_of-triangle t u v =
    max3-least (distance t.a v.a) (distance t.b v.b) (distance t.c v.c) (shift_of t u + shift_of u v)
    (omega (
      arith,
      distance-triangle t.a u.a v.a,
      max3-first (distance t.a u.a) (distance t.b u.b) (distance t.c u.c),
      max3-first (distance u.a v.a) (distance u.b v.b) (distance u.c v.c),
    ))
    (omega (
      arith,
      distance-triangle t.b u.b v.b,
      max3-second (distance t.a u.a) (distance t.b u.b) (distance t.c u.c),
      max3-second (distance u.a v.a) (distance u.b v.b) (distance u.c v.c),
    ))
    (omega (
      arith,
      distance-triangle t.c u.c v.c,
      max3-third (distance t.a u.a) (distance t.b u.b) (distance t.c u.c),
      max3-third (distance u.a v.a) (distance u.b v.b) (distance u.c v.c),
    ))
