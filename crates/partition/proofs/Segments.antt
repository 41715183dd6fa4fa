-- The places from a to e that pass a test, and e behind them, cut the places into segments.
use Rattle.std.proofs.Common.{◌≡◌, ℕ, zero, suc, ◌+◌, ◌-◌, ◌<◌, ◌≤◌, Bool, true, false, cond, List, [], ◌∷◌, ◌++◌}
use Rattle.std.proofs.Common.{length, get_or, filter, refl, sym, ap, ◌∙◌, arith, ◌⊎◌, inl, inr, subst}
use Rattle.std.specs.List.{range_with_len}
use Rattle.std.proofs.lemmas.Bool.{cases_lt, cases_Bool}

-- starts that rise to e: a segment begins at each start that passes, and nothing between two starts passes
pub record AreSegments (passes : ℕ → Bool) (a e : ℕ) (starts : List ℕ) : Type 0 where
  pub some : 0 < length starts
  pub low : a ≤ get_or starts 0 0
  pub rises : (k : ℕ) → suc k < length starts → get_or starts k 0 < get_or starts (suc k) 0
  pub ends : get_or starts (length starts - 1) 0 ≡ e
  pub begins : (k : ℕ) → suc k < length starts → passes (get_or starts k 0) ≡ true
  pub before : (p : ℕ) → a ≤ p → p < get_or starts 0 0 → passes p ≡ false
  pub between : (k p : ℕ) → suc k < length starts → get_or starts k 0 < p → p < get_or starts (suc k) 0 →
      passes p ≡ false

-- the last element of a list stays the last behind another
last_of_cons : (x : ℕ) (xs : List ℕ) → 0 < length xs →
    get_or (x ∷ xs) (length (x ∷ xs) - 1) 0 ≡ get_or xs (length xs - 1) 0
last_of_cons x [] h = absurd (omega arith)
last_of_cons x (y ∷ ys) h =
    let e : length (x ∷ y ∷ ys) - 1 ≡ suc (length (y ∷ ys) - 1) = omega arith in ap (λ n. get_or (x ∷ y ∷ ys) n 0) e

AreSegments-none : (passes : ℕ → Bool) (a : ℕ) → AreSegments passes a (a + 0) ((a + 0) ∷ [])
AreSegments-none passes a = record {
  some = omega arith;
  low = omega arith;
  rises = λ k h. absurd (omega arith);
  ends = refl;
  begins = λ k h. absurd (omega arith);
  before = λ p h i. absurd (omega arith);
  between = λ k p h i j. absurd (omega arith);
}

-- a place that passes begins a segment
AreSegments-cons : (passes : ℕ → Bool) (a e : ℕ) (starts : List ℕ) → passes a ≡ true →
    AreSegments passes (a + 1) e starts →
    AreSegments passes a e (a ∷ starts)
AreSegments-cons passes a e starts at s = record {
  some = omega arith;
  low = omega arith;
  rises = rises;
  ends = last_of_cons a starts s.some ∙ s.ends;
  begins = begins;
  before = λ p h i. absurd (omega arith);
  between = between;
}
  where
    rises : (k : ℕ) → suc k < length (a ∷ starts) → get_or (a ∷ starts) k 0 < get_or (a ∷ starts) (suc k) 0
    rises zero h = omega (arith, s.low)
    rises (suc k) h = s.rises k (omega arith)

    begins : (k : ℕ) → suc k < length (a ∷ starts) → passes (get_or (a ∷ starts) k 0) ≡ true
    begins zero h = at
    begins (suc k) h = s.begins k (omega arith)

    between : (k p : ℕ) → suc k < length (a ∷ starts) → get_or (a ∷ starts) k 0 < p →
        p < get_or (a ∷ starts) (suc k) 0 → passes p ≡ false
    between zero p h i j = s.before p (omega arith) j
    between (suc k) p h i j = s.between k p (omega arith) i j

-- a place that doesn't lies in the segment before
AreSegments-skip : (passes : ℕ → Bool) (a e : ℕ) (starts : List ℕ) → passes a ≡ false →
    AreSegments passes (a + 1) e starts →
    AreSegments passes a e starts
AreSegments-skip passes a e starts at s = record {
  some = s.some;
  low = omega (arith, s.low);
  rises = s.rises;
  ends = s.ends;
  begins = s.begins;
  before = before;
  between = s.between;
}
  where
    at_low : (p : ℕ) → p < get_or starts 0 0 → (p < a + 1) ⊎ (a + 1 ≤ p) → a ≤ p → passes p ≡ false
    at_low p i (inl h) l = let same : p ≡ a = omega arith in ap passes same ∙ at
    at_low p i (inr h) l = s.before p h i

    before : (p : ℕ) → a ≤ p → p < get_or starts 0 0 → passes p ≡ false
    before p l i = at_low p i (cases_lt p (a + 1)) l

-- the places that pass, and the end
abbrev segments : (ℕ → Bool) → ℕ → ℕ → List ℕ
segments passes a n = filter passes (range_with_len a n) ++ (a + n) ∷ []

segments_more : (passes : ℕ → Bool) (a n : ℕ) →
    AreSegments passes (a + 1) (a + suc n) (filter passes (range_with_len (a + 1) n) ++ (a + suc n) ∷ []) →
    (passes a ≡ true) ⊎ (passes a ≡ false) → AreSegments passes a (a + suc n) (segments passes a (suc n))
segments_more passes a n rest (inl h) =
    let P : Bool → Type 0 =
    λ b. AreSegments passes a (a + suc n) (cond b (a ∷ filter passes (range_with_len (a + 1) n))
    (filter passes (range_with_len (a + 1) n)) ++ (a + suc n) ∷ []) in
    subst P (sym h) (AreSegments-cons passes a (a + suc n)
    (filter passes (range_with_len (a + 1) n) ++ (a + suc n) ∷ []) h rest)
segments_more passes a n rest (inr h) =
    let P : Bool → Type 0 =
    λ b. AreSegments passes a (a + suc n) (cond b (a ∷ filter passes (range_with_len (a + 1) n))
    (filter passes (range_with_len (a + 1) n)) ++ (a + suc n) ∷ []) in
    subst P (sym h) (AreSegments-skip passes a (a + suc n)
    (filter passes (range_with_len (a + 1) n) ++ (a + suc n) ∷ []) h rest)

pub segments_of : (passes : ℕ → Bool) (a n : ℕ) → AreSegments passes a (a + n) (segments passes a n)
segments_of passes a zero = AreSegments-none passes a
segments_of passes a (suc n) =
    let e : a + 1 + n ≡ a + suc n = omega arith in
    let P : ℕ → Type 0 = λ m. AreSegments passes (a + 1) m (filter passes (range_with_len (a + 1) n) ++ m ∷ []) in
    segments_more passes a n (subst P e (segments_of passes (a + 1) n)) (cases_Bool (passes a))

-- the segment in which a place lies
pub record SegmentAt (starts : List ℕ) (p : ℕ) : Type 0 where
  pub number : ℕ
  pub inside : suc number < length starts
  pub from : get_or starts number 0 ≤ p
  pub to : p < get_or starts (suc number) 0

segment_by_place : (s t : ℕ) (starts : List ℕ) (p : ℕ) → s ≤ p → (t ≤ p → SegmentAt (t ∷ starts) p) →
    (p < t) ⊎ (t ≤ p) →
    SegmentAt (s ∷ t ∷ starts) p
segment_by_place s t starts p l later (inl i) = record { number = 0; inside = omega arith; from = l; to = i }
segment_by_place s t starts p l later (inr i) =
    let r = later i in
    record { number = suc r.number; inside = omega (arith, r.inside); from = r.from; to = r.to }

pub segment_at : (starts : List ℕ) (p : ℕ) → get_or starts 0 0 ≤ p → p < get_or starts (length starts - 1) 0 →
    SegmentAt starts p
segment_at [] p l h = absurd (omega arith)
segment_at (s ∷ []) p l h = absurd (omega arith)
segment_at (s ∷ t ∷ starts) p l h =
    let last = last_of_cons s (t ∷ starts) (omega arith) in
    segment_by_place s t starts p l (λ i. segment_at (t ∷ starts) p i (omega (arith, last))) (cases_lt p t)
