-- At each height a triangle winds round the points of one half-open span: from the lesser crossing column of the two
-- edges that span the height, and before the greater one.
use Rattle.std.proofs.Common.{◌≡◌, ◌≢◌, ◌↔◌, IsTrue, Bool, true, false, not, ◌&&◌, ℤ, pos, ◌+ℤ◌, ◌-ℤ◌, ◌*ℤ◌, ◌<ℤ◌, ◌≤ℤ◌}
use Rattle.std.proofs.Common.{int_lt, int_le, refl, sym, ap, ◌∙◌, arith}
use Rattle.std.proofs.lemmas.Int.{ints, clamps, by_lt_z}
use Rattle.std.specs.Int.{int_min, int_max}
use Rattle.std.specs.Ordering.{int_eq}
use Rattle.geom_core.specs.declared.screens.Spot.{Spot}
use Rattle.geom_core.specs.Floor.{floor_div}
use Rattle.geom_core.specs.Winding.{edge_function, winding}
use Rattle.geom_core.proofs.Differences.{as_dif, difs, dif-same}
use Rattle.geom_core.proofs.FloorLaws.{floor_div-at_least, floor_div-at_most}
use Rattle.geom_core.proofs.Crossings.{step, reaches, beside, winding-steps}
use Rattle.raster64.specs.Span.{crossing_column, is_between, is_in_span_by, is_in_span}

-- ---- tests

pub less_true : (p q : ℤ) → p <ℤ q → int_lt p q ≡ true
less_true p q h = grind (arith, ints)

pub less_false : (p q : ℤ) → q ≤ℤ p → int_lt p q ≡ false
less_false p q h = grind (arith, ints)

pub at_most_true : (p q : ℤ) → p ≤ℤ q → int_le p q ≡ true
at_most_true p q h = grind (arith, ints)

pub at_most_false : (p q : ℤ) → q <ℤ p → int_le p q ≡ false
at_most_false p q h = grind (arith, ints)

-- ---- one edge

edge_by_product : (x₁ y₁ x₂ y₂ x y : ℤ) → (x₂ -ℤ x₁) *ℤ (y -ℤ y₁) -ℤ (y₂ -ℤ y₁) *ℤ (x -ℤ x₁) ≡
    (x₁ -ℤ x) *ℤ (y₂ -ℤ y₁) -ℤ (x₁ -ℤ x₂) *ℤ (y -ℤ y₁)
edge_by_product x₁ y₁ x₂ y₂ x y =
    rw (as_dif x₁, as_dif y₁, as_dif x₂, as_dif y₂, as_dif x, as_dif y) (simp difs (omega (arith, dif-same)))

-- a product is above n where its factor is above the quotient
above-quotient : (u n d : ℤ) → pos 0 <ℤ d → int_lt (pos 0) (u *ℤ d -ℤ n) ≡ int_lt (floor_div n d) u
above-quotient u n d h =
    by_lt_z n (u *ℤ d)
    (λ below. let e : (u -ℤ pos 1) +ℤ pos 1 ≡ u = omega (arith, ints) in
    let at_most = floor_div-at_most n d (u -ℤ pos 1) h (rw e below) in
    less_true (pos 0) (u *ℤ d -ℤ n) (positive (u *ℤ d) n below) ∙
    sym (less_true (floor_div n d) u (next (floor_div n d) u at_most)))
    (λ above. less_false (pos 0) (u *ℤ d -ℤ n) (not_positive (u *ℤ d) n above) ∙
    sym (less_false (floor_div n d) u (floor_div-at_least n d u h above)))
  where
    positive : (k m : ℤ) → m <ℤ k → pos 0 <ℤ (k -ℤ m)
    positive k m i = omega (arith, ints)

    not_positive : (k m : ℤ) → k ≤ℤ m → (k -ℤ m) ≤ℤ pos 0
    not_positive k m i = omega (arith, ints)

    next : (k m : ℤ) → k ≤ℤ (m -ℤ pos 1) → k <ℤ m
    next k m i = omega (arith, ints)

moved : (l x q : ℤ) → int_lt q (l -ℤ x) ≡ int_lt x (l -ℤ q)
moved l x q =
    by_lt_z q (l -ℤ x)
    (λ below. less_true q (l -ℤ x) below ∙ sym (less_true x (l -ℤ q) (omega (arith, ints))))
    (λ above. less_false q (l -ℤ x) above ∙ sym (less_false x (l -ℤ q) (omega (arith, ints))))

-- of an edge that rises, a point lies on the lesser-x side where it is before the crossing column
pub beside-column : (lo hi : Spot) (x y : ℤ) → lo.y <ℤ hi.y → beside lo hi x y ≡ int_lt x (crossing_column lo hi y)
unfolding edge_function crossing_column
beside-column lo hi x y h =
    ap (int_lt (pos 0)) (edge_by_product lo.x lo.y hi.x hi.y x y) ∙
    above-quotient (lo.x -ℤ x) ((lo.x -ℤ hi.x) *ℤ (y -ℤ lo.y)) (hi.y -ℤ lo.y) (omega (arith, ints)) ∙
    moved lo.x x (floor_div ((lo.x -ℤ hi.x) *ℤ (y -ℤ lo.y)) (hi.y -ℤ lo.y))

-- ---- two edges

-- one of two tests holds alone
abbrev differ : Bool → Bool → Bool
differ true q = not q
differ false q = q

-- a point is in the span of two columns where it is before one of them alone
between-differ : (p q x : ℤ) → is_between p q x ≡ differ (int_lt x p) (int_lt x q)
unfolding is_between
between-differ p q x =
    by_lt_z x p
    (λ p_above. by_lt_z x q
    (λ q_above. rw (
      less_true x p p_above,
      less_true x q q_above,
      at_most_false (int_min p q) x (omega (arith, ints, clamps)),
    ) refl)
    (λ q_below. rw (
      less_true x p p_above,
      less_false x q q_below,
      at_most_true (int_min p q) x (omega (arith, ints, clamps)),
      less_true x (int_max p q) (omega (arith, ints, clamps)),
    )
    refl))
    (λ p_below. by_lt_z x q
    (λ q_above. rw (
      less_false x p p_below,
      less_true x q q_above,
      at_most_true (int_min p q) x (omega (arith, ints, clamps)),
      less_true x (int_max p q) (omega (arith, ints, clamps)),
    )
    refl)
    (λ q_below. rw (
      less_false x p p_below,
      less_false x q q_below,
      less_false x (int_max p q) (omega (arith, ints, clamps)),
    ) (none (int_le (int_min p q) x))))
  where
    none : (b : Bool) → (b && false) ≡ false
    none true = refl
    none false = refl

-- the test that decides coverage
abbrev is_round : ℤ → Bool
is_round w = not (int_eq w (pos 0))

-- the three crossings, where the height has reached one corner alone or all but one
one_first : (ab ba bc cb ca ac : Bool) →
    is_round (step true false ab ba +ℤ step false false bc cb +ℤ step false true ca ac) ≡ differ ab ac
one_first true ba bc cb ca true = refl
one_first true ba bc cb ca false = refl
one_first false ba bc cb ca true = refl
one_first false ba bc cb ca false = refl

one_second : (ab ba bc cb ca ac : Bool) →
    is_round (step false true ab ba +ℤ step true false bc cb +ℤ step false false ca ac) ≡ differ bc ba
one_second ab true true cb ca ac = refl
one_second ab true false cb ca ac = refl
one_second ab false true cb ca ac = refl
one_second ab false false cb ca ac = refl

one_third : (ab ba bc cb ca ac : Bool) →
    is_round (step false false ab ba +ℤ step false true bc cb +ℤ step true false ca ac) ≡ differ ca cb
one_third ab ba bc true true ac = refl
one_third ab ba bc true false ac = refl
one_third ab ba bc false true ac = refl
one_third ab ba bc false false ac = refl

all_but_first : (ab ba bc cb ca ac : Bool) →
    is_round (step false true ab ba +ℤ step true true bc cb +ℤ step true false ca ac) ≡ differ ba ca
all_but_first ab true bc cb true ac = refl
all_but_first ab true bc cb false ac = refl
all_but_first ab false bc cb true ac = refl
all_but_first ab false bc cb false ac = refl

all_but_second : (ab ba bc cb ca ac : Bool) →
    is_round (step true false ab ba +ℤ step false true bc cb +ℤ step true true ca ac) ≡ differ ab cb
all_but_second true ba bc true ca ac = refl
all_but_second true ba bc false ca ac = refl
all_but_second false ba bc true ca ac = refl
all_but_second false ba bc false ca ac = refl

all_but_third : (ab ba bc cb ca ac : Bool) →
    is_round (step true true ab ba +ℤ step true false bc cb +ℤ step false true ca ac) ≡ differ ac bc
all_but_third ab ba true cb ca true = refl
all_but_third ab ba true cb ca false = refl
all_but_third ab ba false cb ca true = refl
all_but_third ab ba false cb ca false = refl

-- what is known of the tests of one edge, seen from lo to hi, by whether the height has reached lo and hi
abbrev Crosses : Bool → Bool → Bool → Spot → Spot → ℤ → ℤ → Type 0
Crosses at_lo at_hi forth lo hi x y = at_lo ≡ true → at_hi ≡ false → forth ≡ int_lt x (crossing_column lo hi y)

both : (p f g : Bool) (x k m : ℤ) → p ≡ differ f g → f ≡ int_lt x k → g ≡ int_lt x m → p ≡ is_between k m x
both p f g x k m e i j = e ∙ rw (i, j) (sym (between-differ k m x))

span_by : (at_a at_b at_c ab ba bc cb ca ac : Bool) (a b c : Spot) (x y : ℤ) →
    Crosses at_a at_b ab a b x y → Crosses at_b at_a ba b a x y → Crosses at_b at_c bc b c x y →
    Crosses at_c at_b cb c b x y → Crosses at_c at_a ca c a x y → Crosses at_a at_c ac a c x y →
    is_round (step at_a at_b ab ba +ℤ step at_b at_c bc cb +ℤ step at_c at_a ca ac) ≡
    is_in_span_by at_a at_b at_c a b c x y
unfolding is_in_span_by
span_by true true true ab ba bc cb ca ac a b c x y f₁ f₂ f₃ f₄ f₅ f₆ = refl
span_by false false false ab ba bc cb ca ac a b c x y f₁ f₂ f₃ f₄ f₅ f₆ = refl
span_by true false false ab ba bc cb ca ac a b c x y f₁ f₂ f₃ f₄ f₅ f₆ =
    both _ ab ac x (crossing_column a b y) (crossing_column a c y) (one_first ab ba bc cb ca ac) (f₁ refl refl)
    (f₆ refl refl)
span_by false true false ab ba bc cb ca ac a b c x y f₁ f₂ f₃ f₄ f₅ f₆ =
    both _ bc ba x (crossing_column b c y) (crossing_column b a y) (one_second ab ba bc cb ca ac) (f₃ refl refl)
    (f₂ refl refl)
span_by false false true ab ba bc cb ca ac a b c x y f₁ f₂ f₃ f₄ f₅ f₆ =
    both _ ca cb x (crossing_column c a y) (crossing_column c b y) (one_third ab ba bc cb ca ac) (f₅ refl refl)
    (f₄ refl refl)
span_by false true true ab ba bc cb ca ac a b c x y f₁ f₂ f₃ f₄ f₅ f₆ =
    both _ ba ca x (crossing_column b a y) (crossing_column c a y) (all_but_first ab ba bc cb ca ac) (f₂ refl refl)
    (f₅ refl refl)
span_by true false true ab ba bc cb ca ac a b c x y f₁ f₂ f₃ f₄ f₅ f₆ =
    both _ ab cb x (crossing_column a b y) (crossing_column c b y) (all_but_second ab ba bc cb ca ac) (f₁ refl refl)
    (f₄ refl refl)
span_by true true false ab ba bc cb ca ac a b c x y f₁ f₂ f₃ f₄ f₅ f₆ =
    both _ ac bc x (crossing_column a c y) (crossing_column b c y) (all_but_third ab ba bc cb ca ac) (f₆ refl refl)
    (f₃ refl refl)

edge_crosses : (lo hi : Spot) (x y : ℤ) → Crosses (reaches y lo) (reaches y hi) (beside lo hi x y) lo hi x y
edge_crosses lo hi x y at_lo at_hi = beside-column lo hi x y (rises at_lo at_hi)
  where
    rises : int_le lo.y y ≡ true → int_le hi.y y ≡ false → lo.y <ℤ hi.y
    rises i j = omega (arith, ints)

-- a row of a triangle is one span
pub winding-span : (a b c : Spot) (x y : ℤ) → not (int_eq (winding a b c x y) (pos 0)) ≡ is_in_span a b c x y
unfolding is_in_span
winding-span a b c x y =
    ap is_round (winding-steps a b c x y) ∙
    span_by (reaches y a) (reaches y b) (reaches y c) (beside a b x y) (beside b a x y) (beside b c x y)
    (beside c b x y) (beside c a x y) (beside a c x y) a b c x y (edge_crosses a b x y) (edge_crosses b a x y)
    (edge_crosses b c x y) (edge_crosses c b x y) (edge_crosses c a x y) (edge_crosses a c x y)

pub rows_are_spans : (a b c : Spot) (x y : ℤ) → (winding a b c x y ≢ pos 0) ↔ IsTrue (is_in_span a b c x y)
rows_are_spans a b c x y = decided (winding a b c x y) (is_in_span a b c x y) (winding-span a b c x y)
  where
    decided : (w : ℤ) (b : Bool) → not (int_eq w (pos 0)) ≡ b → (w ≢ pos 0) ↔ IsTrue b
    decided w b e = grind (arith, ints)
