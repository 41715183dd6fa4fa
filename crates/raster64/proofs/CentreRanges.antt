-- Of the centres of a picture's rows or columns, those between two numbers are in a range.
use Rattle.std.proofs.Common.{◌≡◌, ℕ, ◌≤◌, ◌<◌, Bool, true, false, ◌&&◌, ℤ, ◌<ℤ◌, ◌≤ℤ◌, int_le, refl, ◌∙◌, arith}
use Rattle.std.proofs.lemmas.Int.{ints, clamps}
use Rattle.std.specs.Int.{int_min, int_max}
use Rattle.geom_core.specs.declared.screens.Spot.{Spot}
use Rattle.raster64.specs.Internal.Centres.{centre, AreInRange}
use Rattle.raster64.specs.Span.{crossing_column, is_between, is_in_span_by, is_in_span}
use Rattle.raster64.proofs.SpanLaws.{less_true, less_false, at_most_true, at_most_false}

-- a centre that isn't before the greatest number isn't before the least one
pub ordered : (first end count : ℕ) (least greatest : ℤ) → first ≤ count → least ≤ℤ greatest →
    (end < first → centre end <ℤ least) → (end < count → greatest ≤ℤ centre end) → first ≤ end
ordered first end count least greatest h i before after = grind (arith, ints)

least_at_most : (p q : ℤ) → int_min p q ≤ℤ int_max p q
least_at_most p q = omega (arith, ints, clamps)

pub range_between : (p q : ℤ) (first end count : ℕ) → first ≤ count → end ≤ count →
    ((k : ℕ) → k < first → centre k <ℤ int_min p q) → ((k : ℕ) → first ≤ k → k < count → int_min p q ≤ℤ centre k) →
    ((k : ℕ) → k < end → centre k <ℤ int_max p q) → ((k : ℕ) → end ≤ k → k < count → int_max p q ≤ℤ centre k) →
    AreInRange (λ k. is_between p q (centre k)) first end count
unfolding is_between
range_between p q first end count first_limit end_limit before from below after =
    let order : first ≤ end = ordered first end count (int_min p q) (int_max p q) first_limit (least_at_most p q)
    (before end) (λ h. after end (omega arith) h) in
    record {
      order = order;
      limit = end_limit;
      before = λ k h. rw (at_most_false (int_min p q) (centre k) (before k h)) refl;
      inside = λ k h i. rw (
        at_most_true (int_min p q) (centre k) (from k h (omega arith)),
        less_true (centre k) (int_max p q) (below k i),
      ) refl;
      after = λ k h i. rw (less_false (centre k) (int_max p q) (after k h i)) (none (int_le (int_min p q) (centre k)));
    }
  where
    none : (b : Bool) → (b && false) ≡ false
    none true = refl
    none false = refl

-- the same numbers below the count pass a test that answers the same there
pub range_same : (p q : ℕ → Bool) (first end count : ℕ) → ((k : ℕ) → k < count → q k ≡ p k) →
    AreInRange p first end count →
    AreInRange q first end count
range_same p q first end count same r =
    let order = r.order in
    let limit = r.limit in
    record {
      order = order;
      limit = limit;
      before = λ k h. same k (omega arith) ∙ r.before k h;
      inside = λ k h i. same k (omega arith) ∙ r.inside k h i;
      after = λ k h i. same k i ∙ r.after k h i;
    }

-- no number passes
pub range_none : (p : ℕ → Bool) (count : ℕ) → ((k : ℕ) → p k ≡ false) → AreInRange p 0 0 count
range_none p count none = record {
  order = omega arith;
  limit = omega arith;
  before = λ k h. none k;
  inside = λ k h i. absurd (omega arith);
  after = λ k h i. none k;
}

-- ---- the span, by the corners that the height has reached

pub span_first : (a b c : Spot) (x y : ℤ) → a.y ≤ℤ y → y <ℤ b.y → y <ℤ c.y →
    is_in_span a b c x y ≡ is_between (crossing_column a b y) (crossing_column a c y) x
unfolding is_in_span is_in_span_by
span_first a b c x y at_a at_b at_c = rw (at_most_true a.y y at_a, at_most_false b.y y at_b, at_most_false c.y y at_c)
    refl

pub span_second : (a b c : Spot) (x y : ℤ) → y <ℤ a.y → b.y ≤ℤ y → y <ℤ c.y →
    is_in_span a b c x y ≡ is_between (crossing_column b c y) (crossing_column b a y) x
unfolding is_in_span is_in_span_by
span_second a b c x y at_a at_b at_c = rw (at_most_false a.y y at_a, at_most_true b.y y at_b, at_most_false c.y y at_c)
    refl

pub span_third : (a b c : Spot) (x y : ℤ) → y <ℤ a.y → y <ℤ b.y → c.y ≤ℤ y →
    is_in_span a b c x y ≡ is_between (crossing_column c a y) (crossing_column c b y) x
unfolding is_in_span is_in_span_by
span_third a b c x y at_a at_b at_c = rw (at_most_false a.y y at_a, at_most_false b.y y at_b, at_most_true c.y y at_c)
    refl

pub span_but_first : (a b c : Spot) (x y : ℤ) → y <ℤ a.y → b.y ≤ℤ y → c.y ≤ℤ y →
    is_in_span a b c x y ≡ is_between (crossing_column b a y) (crossing_column c a y) x
unfolding is_in_span is_in_span_by
span_but_first a b c x y at_a at_b at_c = rw (
  at_most_false a.y y at_a,
  at_most_true b.y y at_b,
  at_most_true c.y y at_c,
) refl

pub span_but_second : (a b c : Spot) (x y : ℤ) → a.y ≤ℤ y → y <ℤ b.y → c.y ≤ℤ y →
    is_in_span a b c x y ≡ is_between (crossing_column a b y) (crossing_column c b y) x
unfolding is_in_span is_in_span_by
span_but_second a b c x y at_a at_b at_c =
    rw (at_most_true a.y y at_a, at_most_false b.y y at_b, at_most_true c.y y at_c) refl

pub span_but_third : (a b c : Spot) (x y : ℤ) → a.y ≤ℤ y → b.y ≤ℤ y → y <ℤ c.y →
    is_in_span a b c x y ≡ is_between (crossing_column a c y) (crossing_column b c y) x
unfolding is_in_span is_in_span_by
span_but_third a b c x y at_a at_b at_c = rw (
  at_most_true a.y y at_a,
  at_most_true b.y y at_b,
  at_most_false c.y y at_c,
) refl

pub span_all : (a b c : Spot) (x y : ℤ) → a.y ≤ℤ y → b.y ≤ℤ y → c.y ≤ℤ y → is_in_span a b c x y ≡ false
unfolding is_in_span is_in_span_by
span_all a b c x y at_a at_b at_c = rw (at_most_true a.y y at_a, at_most_true b.y y at_b, at_most_true c.y y at_c) refl

pub span_none : (a b c : Spot) (x y : ℤ) → y <ℤ a.y → y <ℤ b.y → y <ℤ c.y → is_in_span a b c x y ≡ false
unfolding is_in_span is_in_span_by
span_none a b c x y at_a at_b at_c = rw (at_most_false a.y y at_a, at_most_false b.y y at_b, at_most_false c.y y at_c)
    refl
