-- A crossing goes by which of its ends the height has reached, and by the side of the point.
use Rattle.std.proofs.Common.{◌≡◌, ◌&&◌, Bool, true, false, not, ℤ, pos, negsuc, ◌+ℤ◌, neg_ℤ, int_lt, int_le}
use Rattle.std.proofs.Common.{if◌then◌else◌, refl, sym, ap, ◌∙◌, arith}
use Rattle.std.proofs.lemmas.Int.{ints}
use Rattle.geom_core.specs.declared.screens.Spot.{Spot}
use Rattle.geom_core.specs.Winding.{edge_function, passes, crossing, winding}

-- the crossing of an edge whose first and second end the height has reached, where the point lies on the
-- edge's lesser-x side, seen forth and back
abbrev pub step : Bool → Bool → Bool → Bool → ℤ
step first second forth back =
    if first && not second && forth then pos 1 else (if second && not first && back then negsuc 0 else pos 0)

-- the height has reached the spot
abbrev pub reaches : ℤ → Spot → Bool
reaches y s = int_le s.y y

-- the point lies on the lesser-x side of the edge that goes to greater y
abbrev pub beside : Spot → Spot → ℤ → ℤ → Bool
beside s t x y = int_lt (pos 0) (edge_function s t x y)

not_reached : (y h : ℤ) → int_lt y h ≡ not (int_le h y)
not_reached y h = grind (arith, ints)

pub crossing-is : (s t : Spot) (x y : ℤ) → crossing s t x y ≡
    step (reaches y s) (reaches y t) (beside s t x y) (beside t s x y)
unfolding crossing passes
crossing-is s t x y = rw (not_reached y s.y, not_reached y t.y)

pub step-turned : (first second forth back : Bool) → step first second forth back ≡
    neg_ℤ (step second first back forth)
step-turned true true forth back = refl
step-turned true false true back = refl
step-turned true false false back = refl
step-turned false true forth true = refl
step-turned false true forth false = refl
step-turned false false forth back = refl

-- an edge crossed the other way counts the other way
pub crossing-turned : (s t : Spot) (x y : ℤ) → crossing s t x y ≡ neg_ℤ (crossing t s x y)
crossing-turned s t x y =
    crossing-is s t x y ∙ step-turned (reaches y s) (reaches y t) (beside s t x y) (beside t s x y) ∙
    ap neg_ℤ (sym (crossing-is t s x y))

-- if the height has reached one corner alone, or all but one, and the point lies on one side of the two
-- edges at that corner, their crossings cancel
pub steps_cancel : (a b c ab ba bc cb ca ac : Bool) →
    (a ≡ true → b ≡ false → c ≡ false → ab ≡ ac) → (a ≡ false → b ≡ true → c ≡ true → ba ≡ ca) →
    (b ≡ true → c ≡ false → a ≡ false → bc ≡ ba) → (b ≡ false → c ≡ true → a ≡ true → cb ≡ ab) →
    (c ≡ true → a ≡ false → b ≡ false → ca ≡ cb) → (c ≡ false → a ≡ true → b ≡ true → ac ≡ bc) →
    step a b ab ba +ℤ step b c bc cb +ℤ step c a ca ac ≡ pos 0
steps_cancel true true true ab ba bc cb ca ac a₁ a₂ b₁ b₂ c₁ c₂ = refl
steps_cancel false false false ab ba bc cb ca ac a₁ a₂ b₁ b₂ c₁ c₂ = refl
steps_cancel true false false ab ba bc cb ca ac a₁ a₂ b₁ b₂ c₁ c₂ = rw (a₁ refl refl refl) (cancel ac)
  where
    cancel : (p : Bool) → step true false p ba +ℤ step false false bc cb +ℤ step false true ca p ≡ pos 0
    cancel true = refl
    cancel false = refl
steps_cancel false true true ab ba bc cb ca ac a₁ a₂ b₁ b₂ c₁ c₂ = rw (a₂ refl refl refl) (cancel ca)
  where
    cancel : (p : Bool) → step false true ab p +ℤ step true true bc cb +ℤ step true false p ac ≡ pos 0
    cancel true = refl
    cancel false = refl
steps_cancel false true false ab ba bc cb ca ac a₁ a₂ b₁ b₂ c₁ c₂ = rw (b₁ refl refl refl) (cancel ba)
  where
    cancel : (p : Bool) → step false true ab p +ℤ step true false p cb +ℤ step false false ca ac ≡ pos 0
    cancel true = refl
    cancel false = refl
steps_cancel true false true ab ba bc cb ca ac a₁ a₂ b₁ b₂ c₁ c₂ = rw (b₂ refl refl refl) (cancel ab)
  where
    cancel : (p : Bool) → step true false p ba +ℤ step false true bc p +ℤ step true true ca ac ≡ pos 0
    cancel true = refl
    cancel false = refl
steps_cancel false false true ab ba bc cb ca ac a₁ a₂ b₁ b₂ c₁ c₂ = rw (c₁ refl refl refl) (cancel cb)
  where
    cancel : (p : Bool) → step false false ab ba +ℤ step false true bc p +ℤ step true false p ac ≡ pos 0
    cancel true = refl
    cancel false = refl
steps_cancel true true false ab ba bc cb ca ac a₁ a₂ b₁ b₂ c₁ c₂ = rw (c₂ refl refl refl) (cancel bc)
  where
    cancel : (p : Bool) → step true true ab ba +ℤ step true false p cb +ℤ step false true ca p ≡ pos 0
    cancel true = refl
    cancel false = refl

pub winding-steps : (a b c : Spot) (x y : ℤ) → winding a b c x y ≡
    step (reaches y a) (reaches y b) (beside a b x y) (beside b a x y) +ℤ
    step (reaches y b) (reaches y c) (beside b c x y) (beside c b x y) +ℤ
    step (reaches y c) (reaches y a) (beside c a x y) (beside a c x y)
unfolding winding
winding-steps a b c x y = rw (crossing-is a b x y, crossing-is b c x y, crossing-is c a x y)
