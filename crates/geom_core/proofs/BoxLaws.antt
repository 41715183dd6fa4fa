-- Boxes: which boxes and points lie in which, joins and hulls as least boxes, and distances from boxes.
use Rattle.std.proofs.Common.{◌≡◌, ◌∙◌, sym, refl, arith, true, ◌&&◌, ◌≤◌, ℤ, ◌-ℤ◌, ◌≤ℤ◌, int_le, unsigned_abs}
use Rattle.std.proofs.Common.{List, [], ◌∷◌, All, fold, IfSome}
use Rattle.std.proofs.lemmas.Int.{ints, clamps, by_lt_z}
use Rattle.std.proofs.lemmas.Bool.{and_parts, and_from}
use Rattle.std.proofs.lemmas.List.Elements.{All-nil, All-cons, All-head, All-tail}
use Rattle.std.specs.Int.{int_min, int_max}
use Rattle.geom_core.specs.declared.points.Pt.{Pt}
use Rattle.geom_core.specs.declared.boxes.Cube.{Cube}
use Rattle.geom_core.specs.Boxes.{is_under, holds_point, holds_box, low_of, high_of, join_of, point_box, hull_of}
use Rattle.geom_core.specs.Distance.{distance, outside, box_distance}
use Rattle.geom_core.proofs.DistanceLaws.{max3-least, distance-x, distance-y, distance-z, distance-same}

-- ---- points under points

-- `is_under` by axis
pub record Under (p q : Pt) : Type 0 where
  pub x : p.x ≤ℤ q.x
  pub y : p.y ≤ℤ q.y
  pub z : p.z ≤ℤ q.z

int_le-from : (m n : ℤ) → int_le m n ≡ true → m ≤ℤ n
int_le-from m n h = omega (arith, ints)

int_le-to : (m n : ℤ) → m ≤ℤ n → int_le m n ≡ true
int_le-to m n h = grind (arith, ints)

pub Under-from : (p q : Pt) → is_under p q ≡ true → Under p q
unfolding is_under
Under-from p q h =
    let outer = and_parts (int_le p.x q.x && int_le p.y q.y) (int_le p.z q.z) h in
    let inner = and_parts (int_le p.x q.x) (int_le p.y q.y) outer.0 in
    record { x = int_le-from p.x q.x inner.0; y = int_le-from p.y q.y inner.1; z = int_le-from p.z q.z outer.1 }

pub Under-to : (p q : Pt) → Under p q → is_under p q ≡ true
unfolding is_under
Under-to p q h = rw (int_le-to p.x q.x h.x, int_le-to p.y q.y h.y, int_le-to p.z q.z h.z) refl

≤ℤ_trans : (l m n : ℤ) → l ≤ℤ m → m ≤ℤ n → l ≤ℤ n
≤ℤ_trans l m n h k = omega (arith, ints)

≤ℤ_refl : (m : ℤ) → m ≤ℤ m
≤ℤ_refl m = omega (arith, ints)

Under-refl : (p : Pt) → Under p p
Under-refl p = record { x = ≤ℤ_refl p.x; y = ≤ℤ_refl p.y; z = ≤ℤ_refl p.z }

Under-trans : (p q r : Pt) → Under p q → Under q r → Under p r
Under-trans p q r h k = record {
  x = ≤ℤ_trans p.x q.x r.x h.x k.x;
  y = ≤ℤ_trans p.y q.y r.y h.y k.y;
  z = ≤ℤ_trans p.z q.z r.z h.z k.z;
}

-- ---- boxes in boxes

-- `holds_box` by corner
pub record Holds (outer inner : Cube) : Type 0 where
  pub lo : Under outer.lo inner.lo
  pub hi : Under inner.hi outer.hi

pub Holds-from : (outer inner : Cube) → holds_box outer inner ≡ true → Holds outer inner
unfolding holds_box
Holds-from outer inner h =
    let both = and_parts (is_under outer.lo inner.lo) (is_under inner.hi outer.hi) h in
    record { lo = Under-from outer.lo inner.lo both.0; hi = Under-from inner.hi outer.hi both.1 }

pub Holds-to : (outer inner : Cube) → Holds outer inner → holds_box outer inner ≡ true
unfolding holds_box
Holds-to outer inner h = rw (Under-to outer.lo inner.lo h.lo, Under-to inner.hi outer.hi h.hi) refl

pub Holds-refl : (box : Cube) → Holds box box
Holds-refl box = record { lo = Under-refl box.lo; hi = Under-refl box.hi }

pub Holds-trans : (a b c : Cube) → Holds a b → Holds b c → Holds a c
Holds-trans a b c h k = record {
  lo = Under-trans a.lo b.lo c.lo h.lo k.lo;
  hi = Under-trans c.hi b.hi a.hi k.hi h.hi;
}

abbrev HoldsPoint : Cube → Pt → Type 0
HoldsPoint box p = holds_point box p ≡ true

-- a box holds a point where it holds the box of this point alone
pub holds_point-is : (box : Cube) (p : Pt) → holds_point box p ≡ holds_box box (point_box p)
unfolding holds_point holds_box
holds_point-is box p = refl

-- ---- joins

min-first : (m n : ℤ) → int_min m n ≤ℤ m
min-first m n = omega (arith, ints, clamps)

min-second : (m n : ℤ) → int_min m n ≤ℤ n
min-second m n = omega (arith, ints, clamps)

min-greatest : (l m n : ℤ) → l ≤ℤ m → l ≤ℤ n → l ≤ℤ int_min m n
min-greatest l m n h k = omega (arith, ints, clamps)

max-first : (m n : ℤ) → m ≤ℤ int_max m n
max-first m n = omega (arith, ints, clamps)

max-second : (m n : ℤ) → n ≤ℤ int_max m n
max-second m n = omega (arith, ints, clamps)

max-least : (l m n : ℤ) → m ≤ℤ l → n ≤ℤ l → int_max m n ≤ℤ l
max-least l m n h k = omega (arith, ints, clamps)

pub join_of-first : (a b : Cube) → Holds (join_of a b) a
unfolding join_of low_of high_of
join_of-first a b = record {
  lo = record { x = min-first a.lo.x b.lo.x; y = min-first a.lo.y b.lo.y; z = min-first a.lo.z b.lo.z };
  hi = record { x = max-first a.hi.x b.hi.x; y = max-first a.hi.y b.hi.y; z = max-first a.hi.z b.hi.z };
}

pub join_of-second : (a b : Cube) → Holds (join_of a b) b
unfolding join_of low_of high_of
join_of-second a b = record {
  lo = record { x = min-second a.lo.x b.lo.x; y = min-second a.lo.y b.lo.y; z = min-second a.lo.z b.lo.z };
  hi = record { x = max-second a.hi.x b.hi.x; y = max-second a.hi.y b.hi.y; z = max-second a.hi.z b.hi.z };
}

pub join_of-least : (a b outer : Cube) → Holds outer a → Holds outer b → Holds outer (join_of a b)
unfolding join_of low_of high_of
join_of-least a b outer h k = record {
  lo = record {
    x = min-greatest outer.lo.x a.lo.x b.lo.x h.lo.x k.lo.x;
    y = min-greatest outer.lo.y a.lo.y b.lo.y h.lo.y k.lo.y;
    z = min-greatest outer.lo.z a.lo.z b.lo.z h.lo.z k.lo.z;
  };
  hi = record {
    x = max-least outer.hi.x a.hi.x b.hi.x h.hi.x k.hi.x;
    y = max-least outer.hi.y a.hi.y b.hi.y h.hi.y k.hi.y;
    z = max-least outer.hi.z a.hi.z b.hi.z h.hi.z k.hi.z;
  };
}

-- the outer box's corners are in order where those of a box in it are
pub Under-outer : (outer inner : Cube) → Holds outer inner → Under inner.lo inner.hi → Under outer.lo outer.hi
Under-outer outer inner h corners =
    Under-trans outer.lo inner.hi outer.hi (Under-trans outer.lo inner.lo inner.hi h.lo corners) h.hi

-- ---- hulls

-- the least box that holds a box and points
abbrev widened : Cube → List Pt → Cube
widened start points = fold (λ box q. join_of box (point_box q)) start points

pub widened-start : (points : List Pt) (start : Cube) → Holds (widened start points) start
widened-start [] start = Holds-refl start
widened-start (p ∷ points) start =
    let next = join_of start (point_box p) in
    Holds-trans (widened next points) next start (widened-start points next) (join_of-first start (point_box p))

pub widened-each : (points : List Pt) (start : Cube) → All (HoldsPoint (widened start points)) points
widened-each [] start = All-nil (HoldsPoint start)
widened-each (p ∷ points) start =
    let next = join_of start (point_box p) in
    let here = Holds-trans (widened next points) next (point_box p) (widened-start points next)
    (join_of-second start (point_box p)) in
    All-cons (HoldsPoint (widened next points)) p points
    (holds_point-is (widened next points) p ∙ Holds-to (widened next points) (point_box p) here)
    (widened-each points next)

pub widened-least : (points : List Pt) (start outer : Cube) → Holds outer start →
    All (HoldsPoint outer) points → Holds outer (widened start points)
widened-least [] start outer h all = h
widened-least (p ∷ points) start outer h all =
    let point = sym (holds_point-is outer p) ∙ All-head (HoldsPoint outer) p points all in
    let here = Holds-from outer (point_box p) point in
    widened-least points (join_of start (point_box p)) outer (join_of-least start (point_box p) outer h here)
    (All-tail (HoldsPoint outer) p points all)

-- ---- distances

pub outside-wider : (low high lo hi v : ℤ) → low ≤ℤ lo → lo ≤ℤ hi → hi ≤ℤ high →
    outside low high v ≤ outside lo hi v
unfolding outside
outside-wider low high lo hi v a b c = grind (arith, ints)

pub outside-least : (lo hi v w : ℤ) → lo ≤ℤ w → w ≤ℤ hi → outside lo hi v ≤ unsigned_abs (w -ℤ v)
unfolding outside
outside-least lo hi v w a b = grind (arith, ints)

pub box_distance-wider : (outer inner : Cube) (p : Pt) → Under inner.lo inner.hi → Holds outer inner →
    box_distance outer p ≤ box_distance inner p
unfolding box_distance
box_distance-wider outer inner p corners h =
    let x = outside-wider outer.lo.x outer.hi.x inner.lo.x inner.hi.x p.x h.lo.x corners.x h.hi.x in
    let y = outside-wider outer.lo.y outer.hi.y inner.lo.y inner.hi.y p.y h.lo.y corners.y h.hi.y in
    let z = outside-wider outer.lo.z outer.hi.z inner.lo.z inner.hi.z p.z h.lo.z corners.z h.hi.z in
    omega arith

pub box_distance-least : (box : Cube) (p q : Pt) → Under box.lo q → Under q box.hi →
    box_distance box p ≤ distance q p
unfolding box_distance
box_distance-least box p q lo hi =
    max3-least (outside box.lo.x box.hi.x p.x) (outside box.lo.y box.hi.y p.y) (outside box.lo.z box.hi.z p.z)
    (distance q p)
    (omega (arith, outside-least box.lo.x box.hi.x p.x q.x lo.x hi.x, distance-x q p))
    (omega (arith, outside-least box.lo.y box.hi.y p.y q.y lo.y hi.y, distance-y q p))
    (omega (arith, outside-least box.lo.z box.hi.z p.z q.z lo.z hi.z, distance-z q p))

-- ---- the laws as they are stated

pub held_points : (outer inner : Cube) (p : Pt) → holds_box outer inner ≡ true → holds_point inner p ≡ true →
    holds_point outer p ≡ true
held_points outer inner p h k =
    let here = Holds-from inner (point_box p) (sym (holds_point-is inner p) ∙ k) in
    holds_point-is outer p
    ∙ Holds-to outer (point_box p) (Holds-trans outer inner (point_box p) (Holds-from outer inner h) here)

pub hull_of-each : (points : List Pt) →
    IfSome (hull_of points) (λ box. All (HoldsPoint box) points)
hull_of-each [] = tt
hull_of-each (p ∷ points) =
    let box = widened (point_box p) points in
    All-cons (HoldsPoint box) p points
    (holds_point-is box p ∙ Holds-to box (point_box p) (widened-start points (point_box p)))
    (widened-each points (point_box p))

pub hull_of-least : (points : List Pt) (outer : Cube) → All (HoldsPoint outer) points →
    IfSome (hull_of points) (λ box. holds_box outer box ≡ true)
hull_of-least [] outer all = tt
hull_of-least (p ∷ points) outer all =
    let point = sym (holds_point-is outer p) ∙ All-head (HoldsPoint outer) p points all in
    let here = Holds-from outer (point_box p) point in
    Holds-to outer (widened (point_box p) points)
    (widened-least points (point_box p) outer here (All-tail (HoldsPoint outer) p points all))

pub hull_of-corners : (points : List Pt) → IfSome (hull_of points) (λ box. is_under box.lo box.hi ≡ true)
hull_of-corners [] = tt
hull_of-corners (p ∷ points) =
    let box = widened (point_box p) points in
    Under-to box.lo box.hi (Under-outer box (point_box p) (widened-start points (point_box p)) (Under-refl p))

pub box_distance-held : (box : Cube) (p q : Pt) → holds_point box q ≡ true → box_distance box p ≤ distance q p
box_distance-held box p q h =
    let here = Holds-from box (point_box q) (sym (holds_point-is box q) ∙ h) in
    box_distance-least box p q here.lo here.hi

outside-reached : (lo hi v : ℤ) → lo ≤ℤ hi →
    (w : ℤ) × (lo ≤ℤ w) × (w ≤ℤ hi) × (unsigned_abs (w -ℤ v) ≡ outside lo hi v)
unfolding outside
outside-reached lo hi v h =
    by_lt_z v lo (λ below. (lo, ≤ℤ_refl lo, h, grind (arith, ints)))
    (λ not_below. by_lt_z hi v (λ above. (hi, h, ≤ℤ_refl hi, grind (arith, ints)))
    (λ not_above. (v, not_below, not_above, grind (arith, ints))))

pub box_distance-reached : (box : Cube) (p : Pt) → is_under box.lo box.hi ≡ true →
    (q : Pt) × (holds_point box q ≡ true) × (distance q p ≡ box_distance box p)
unfolding holds_point distance box_distance
box_distance-reached box p corners =
    let h = Under-from box.lo box.hi corners in
    let x = outside-reached box.lo.x box.hi.x p.x h.x in
    let y = outside-reached box.lo.y box.hi.y p.y h.y in
    let z = outside-reached box.lo.z box.hi.z p.z h.z in
    let q : Pt = record { x = x.0; y = y.0; z = z.0 } in
    let low = Under-to box.lo q (record { x = x.1; y = y.1; z = z.1 }) in
    let high = Under-to q box.hi (record { x = x.2; y = y.2; z = z.2 }) in
    (q, and_from (is_under box.lo q) (is_under q box.hi) low high, rw (x.3, y.3, z.3) refl)

pub box_distance-within : (box : Cube) (p : Pt) → holds_point box p ≡ true → box_distance box p ≡ 0
box_distance-within box p h = omega (arith, box_distance-held box p p h, distance-same p)
