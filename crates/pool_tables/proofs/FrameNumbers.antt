-- Frames by their number: which frame has it, after frames were put, removed or changed.
use Rattle.std.proofs.Common.{◌≡◌, ℕ, ◌==◌, List, [], ◌∷◌, Bool, true, false, not, cond, ◌&&◌, ◌||◌, ⊎_elim, Option}
use Rattle.std.proofs.Common.{Some, None, filter, map, refl, sym, ap, ◌∙◌}
use Rattle.std.specs.List.{list_any}
use Rattle.std.specs.Option.{is_some, option_map}
use Rattle.std.proofs.lemmas.Bool.Decides.{Decides-eqb}
use Rattle.pool_rules.specs.Frame.{Frame}
use Rattle.pool_tables.specs.FrameMeaning.{frame_at, has_number, AreDistinct}
use Rattle.pool_rules.specs.State.{replace_frame}
use Rattle.pool_rules.proofs.Tests.{or-cases, same-eqb}

abbrev pub passes : (Frame → Bool) → Option Frame → Bool
passes test None = false
passes test (Some f) = test f

eqb-refl : (n : ℕ) → (n == n) ≡ true
eqb-refl n = (Decides-eqb n n).1 refl

-- no frame of a number that no frame has passes
none-passes : (test : Frame → Bool) (n : ℕ) (frames : List Frame) → has_number n frames ≡ false
    → list_any (λ f. (f.number == n) && test f) frames ≡ false
none-passes test n [] h = refl
none-passes test n (f ∷ frames) h =
    elim (f.number == n) as (λ b. (b || has_number n frames) ≡ false →
    ((b && test f) || list_any (λ f. (f.number == n) && test f) frames) ≡ false)
    [ true ↦ λ k. cc | false ↦ λ k. none-passes test n frames k ] h

-- where no two frames have one number, the one that has it passes or none does
pub any-numbered : (test : Frame → Bool) (n : ℕ) (frames : List Frame) → AreDistinct frames
    → list_any (λ f. (f.number == n) && test f) frames ≡ passes test (frame_at n frames)
any-numbered test n [] apart = refl
any-numbered test n (f ∷ frames) apart =
    elim (f.number == n) as (λ b. (f.number == n) ≡ b →
    ((b && test f) || list_any (λ f. (f.number == n) && test f) frames) ≡ passes test
    (cond b (Some f) (frame_at n frames))) [
      | true ↦ λ e. let same : f.number ≡ n =
          same-eqb f.number n e in let none : has_number n frames ≡ false =
          rw same at apart.0 in rw (none-passes test n frames none) (last (test f))
      | false ↦ λ e. any-numbered test n frames apart.1
    ] refl
  where
    last : (b : Bool) → (b || false) ≡ b
    last true = refl
    last false = refl

pub has_number-found : (n : ℕ) (frames : List Frame) → has_number n frames ≡ is_some (frame_at n frames)
has_number-found n [] = refl
has_number-found n (f ∷ frames) =
    elim (f.number == n) as (λ b. (b || has_number n frames) ≡ is_some (cond b (Some f) (frame_at n frames)))
    [ true ↦ refl | false ↦ has_number-found n frames ]

-- the frame found has the number
pub found-number : (n : ℕ) (frames : List Frame) (f : Frame) → frame_at n frames ≡ Some f → f.number ≡ n
found-number n [] f h = cc
found-number n (g ∷ frames) f h =
    elim (g.number == n) as (λ b. (g.number == n) ≡ b → cond b (Some g) (frame_at n frames) ≡ Some f → f.number ≡ n) [
      | true ↦ λ e k. let is : g ≡ f = cc in rw is at (same-eqb g.number n e)
      | false ↦ λ e k. found-number n frames f k
    ] refl h

-- a frame that is found and passes shows in the test of all
pub any-found : (test : Frame → Bool) (n : ℕ) (frames : List Frame) (f : Frame) → frame_at n frames ≡ Some f
    → test f ≡ true → list_any test frames ≡ true
any-found test n [] f h passes = cc
any-found test n (g ∷ frames) f h passes =
    elim (g.number == n) as (λ b. cond b (Some g) (frame_at n frames) ≡ Some f →
    (test g || list_any test frames) ≡ true) [
      | true ↦ λ k. let is : test g ≡ true = cc in rw is refl
      | false ↦ λ k. later (test g) (any-found test n frames f k passes)
    ] h
  where
    later : (b : Bool) → list_any test frames ≡ true → (b || list_any test frames) ≡ true
    later true e = refl
    later false e = e

-- a number that some frame has, of a frame that is found
abbrev pub IsFound : (Frame → Bool) → List Frame → Type 0
IsFound test frames = (n : ℕ) × (f : Frame) × (frame_at n frames ≡ Some f) × (test f ≡ true)

found-behind : (test : Frame → Bool) (g : Frame) (frames : List Frame) → has_number g.number frames ≡ false
    → IsFound test frames → IsFound test (g ∷ frames)
found-behind test g frames none (n, f, at, passes) = (
  n,
  f,
  elim (g.number == n) as (λ b. (g.number == n) ≡ b → cond b (Some g) (frame_at n frames) ≡ Some f) [
    | true ↦ λ e. let same : g.number ≡ n =
        same-eqb g.number n e in let gone : has_number n frames ≡ false =
        rw same at none in let some : has_number n frames ≡ true = has_number-found n frames ∙ ap is_some at in cc
    | false ↦ λ e. at
  ] refl,
  passes,
)

-- a frame that passes is found by its number
pub found-any : (test : Frame → Bool) (frames : List Frame) → AreDistinct frames → list_any test frames ≡ true
    → IsFound test frames
found-any test [] apart h = cc
found-any test (g ∷ frames) apart h =
    ⊎_elim
    (λ here. (g.number, g, rw (eqb-refl g.number) refl, here))
    (λ later. found-behind test g frames apart.0 (found-any test frames apart.1 later))
    (or-cases (test g) (list_any test frames) h)

-- ---- after a frame was put in the place of its number

same-numbers : (a b c : ℕ) → (a == b) ≡ true → (a == c) ≡ (b == c)
same-numbers a b c e = let same : a ≡ b = same-eqb a b e in ap (λ n. n == c) same

pub frame_at-put : (n : ℕ) (frame : Frame) (frames : List Frame)
    → frame_at n (replace_frame frame frames) ≡ cond (frame.number == n) (Some frame) (frame_at n frames)
frame_at-put n frame [] = refl
frame_at-put n frame (f ∷ frames) =
    elim (f.number == frame.number) as (λ b. (f.number == frame.number) ≡ b →
    frame_at n (cond b (frame ∷ frames) (f ∷ replace_frame frame frames)) ≡ cond (frame.number == n) (Some frame)
    (cond (f.number == n) (Some f) (frame_at n frames))) [
      | true ↦ λ e. rw (same-numbers f.number frame.number n e) (both (frame.number == n))
      | false ↦ λ e. rw (frame_at-put n frame frames) (apart e)
    ] refl
  where
    both : (b : Bool)
        → cond b (Some frame) (frame_at n frames) ≡ cond b (Some frame) (cond b (Some f) (frame_at n frames))
    both true = refl
    both false = refl

    turned : (a b : Bool) (x y z : Option Frame) → (a ≡ true → b ≡ true → ⊥)
        → cond a x (cond b y z) ≡ cond b y (cond a x z)
    turned true true x y z never = absurd (never refl refl)
    turned true false x y z never = refl
    turned false true x y z never = refl
    turned false false x y z never = refl

    apart : (f.number == frame.number) ≡ false
        → cond (f.number == n) (Some f) (cond (frame.number == n) (Some frame) (frame_at n frames)) ≡ cond
        (frame.number == n) (Some frame) (cond (f.number == n) (Some f) (frame_at n frames))
    apart e =
        turned (f.number == n) (frame.number == n) (Some f) (Some frame) (frame_at n frames)
        (λ a b. let one : f.number ≡ n = same-eqb f.number n a in let two : frame.number ≡ n =
        same-eqb frame.number n b in let same : (f.number == frame.number) ≡ true =
        rw (one, two) (eqb-refl n) in cc)

has_number-put : (n : ℕ) (frame : Frame) (frames : List Frame)
    → has_number n (replace_frame frame frames) ≡ ((frame.number == n) || has_number n frames)
has_number-put n frame frames =
    has_number-found n (replace_frame frame frames) ∙
    (ap is_some (frame_at-put n frame frames) ∙ split (frame.number == n))
  where
    split : (b : Bool) → is_some (cond b (Some frame) (frame_at n frames)) ≡ (b || has_number n frames)
    split true = refl
    split false = sym (has_number-found n frames)

pub AreDistinct-put : (frame : Frame) (frames : List Frame) → AreDistinct frames
    → AreDistinct (replace_frame frame frames)
AreDistinct-put frame [] apart = (refl, tt)
AreDistinct-put frame (f ∷ frames) apart =
    elim (f.number == frame.number) as (λ b. (f.number == frame.number) ≡ b →
    AreDistinct (cond b (frame ∷ frames) (f ∷ replace_frame frame frames))) [
      | true ↦ λ e. let same : f.number ≡ frame.number =
          same-eqb f.number frame.number e in (rw same at apart.0, apart.1)
      | false ↦ λ e. (
        has_number-put f.number frame frames ∙ (rw (turned e) apart.0),
        AreDistinct-put frame frames apart.1,
      )
    ] refl
  where
    turned : (f.number == frame.number) ≡ false → (frame.number == f.number) ≡ false
    turned e =
        elim (frame.number == f.number) as (λ b. (frame.number == f.number) ≡ b → b ≡ false) [
          | true ↦ λ k. let same : frame.number ≡ f.number =
              same-eqb frame.number f.number k in let yes : (f.number == frame.number) ≡ true =
              rw same (eqb-refl f.number) in cc
          | false ↦ λ k. refl
        ] refl

-- ---- after the frame of a number was removed

abbrev others : ℕ → List Frame → List Frame
others m frames = filter (λ f. not (f.number == m)) frames

nothing : (b : Bool) (o : Option Frame) → o ≡ cond b o o
nothing true o = refl
nothing false o = refl

pub frame_at-others : (n m : ℕ) (frames : List Frame)
    → frame_at n (filter (λ f. not (f.number == m)) frames) ≡ cond (m == n) None (frame_at n frames)
frame_at-others n m [] = nothing (m == n) None
frame_at-others n m (f ∷ frames) =
    elim (f.number == m) as (λ b. (f.number == m) ≡ b →
    frame_at n (cond (not b) (f ∷ others m frames) (others m frames)) ≡ cond (m == n) None
    (cond (f.number == n) (Some f) (frame_at n frames))) [
      | true ↦ λ e. frame_at-others n m frames ∙ rw (same-numbers f.number m n e) (gone (m == n))
      | false ↦ λ e. rw (frame_at-others n m frames)
          (turned (f.number == n) (m == n) (λ a b. let one : f.number ≡ n = same-eqb f.number n a in let two : m ≡ n =
          same-eqb m n b in let same : (f.number == m) ≡ true = rw (one, two) (eqb-refl n) in cc))
    ] refl
  where
    gone : (b : Bool) → cond b None (frame_at n frames) ≡ cond b None (cond b (Some f) (frame_at n frames))
    gone true = refl
    gone false = refl

    turned : (a b : Bool) → (a ≡ true → b ≡ true → ⊥)
        → cond a (Some f) (cond b None (frame_at n frames)) ≡ cond b None (cond a (Some f) (frame_at n frames))
    turned true true never = absurd (never refl refl)
    turned true false never = refl
    turned false true never = refl
    turned false false never = refl

has_number-others : (n m : ℕ) (frames : List Frame) → has_number n frames ≡ false
    → has_number n (others m frames) ≡ false
has_number-others n m frames none =
    has_number-found n (others m frames) ∙ (ap is_some (frame_at-others n m frames) ∙ split (m == n))
  where
    split : (b : Bool) → is_some (cond b None (frame_at n frames)) ≡ false
    split true = refl
    split false = sym (has_number-found n frames) ∙ none

pub AreDistinct-others : (m : ℕ) (frames : List Frame) → AreDistinct frames
    → AreDistinct (filter (λ f. not (f.number == m)) frames)
AreDistinct-others m [] apart = tt
AreDistinct-others m (f ∷ frames) apart =
    elim (f.number == m) as (λ b. AreDistinct (cond (not b) (f ∷ others m frames) (others m frames))) [
      | true ↦ AreDistinct-others m frames apart.1
      | false ↦
          (has_number-others f.number m frames apart.0, AreDistinct-others m frames apart.1)
    ]

-- ---- after a change of each frame that keeps its number

pub frame_at-map : (n : ℕ) (g : Frame → Frame) (keeps : (f : Frame) → (g f).number ≡ f.number) (frames : List Frame)
    → frame_at n (map g frames) ≡ option_map g (frame_at n frames)
frame_at-map n g keeps [] = refl
frame_at-map n g keeps (f ∷ frames) =
    pick ((g f).number == n) (f.number == n) (ap (λ m. m == n) (keeps f)) (frame_at-map n g keeps frames)
  where
    pick : (a b : Bool) → a ≡ b → frame_at n (map g frames) ≡ option_map g (frame_at n frames)
        → cond a (Some (g f)) (frame_at n (map g frames)) ≡ option_map g (cond b (Some f) (frame_at n frames))
    pick true true e rest = refl
    pick true false e rest = cc
    pick false true e rest = cc
    pick false false e rest = rest

has_number-map : (n : ℕ) (g : Frame → Frame) (keeps : (f : Frame) → (g f).number ≡ f.number) (frames : List Frame)
    → has_number n (map g frames) ≡ has_number n frames
has_number-map n g keeps [] = refl
has_number-map n g keeps (f ∷ frames) =
    rw (keeps f) (ap (λ b. (f.number == n) || b) (has_number-map n g keeps frames))

pub AreDistinct-map : (g : Frame → Frame) (keeps : (f : Frame) → (g f).number ≡ f.number) (frames : List Frame)
    → AreDistinct frames → AreDistinct (map g frames)
AreDistinct-map g keeps [] apart = tt
AreDistinct-map g keeps (f ∷ frames) apart =
    (has_number-map (g f).number g keeps frames ∙ rw (keeps f) apart.0, AreDistinct-map g keeps frames apart.1)
