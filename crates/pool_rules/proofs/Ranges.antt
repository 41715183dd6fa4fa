-- The numbers from one on, one more at the end: the step of a loop over the pages.
use Rattle.std.proofs.Common.{◌≡◌, ℕ, ◌+◌, zero, suc, [], ◌∷◌, ◌++◌, Bool, true, false, cond, refl, ap, ◌∙◌, arith}
use Rattle.std.specs.List.{range_with_len, fold, filter}
use Rattle.std.proofs.lemmas.List.Elements.{filter-append}
use Rattle.std.proofs.lemmas.List.Sums.{fold-append}

pub range_with_len-more : (a n : ℕ) → range_with_len a (suc n) ≡ range_with_len a n ++ (a + n) ∷ []
range_with_len-more a zero = let e : a ≡ a + 0 = omega arith in ap (λ m. m ∷ []) e
range_with_len-more a (suc n) =
    let e : a + 1 + n ≡ a + suc n = omega arith in
    ap (λ rest. a ∷ rest) (range_with_len-more (a + 1) n ∙ ap (λ m. range_with_len (a + 1) n ++ m ∷ []) e)

-- a fold over the numbers that pass, with one number more
pub fold-filter_more : {B : Type 0} (f : B → ℕ → B) (test : ℕ → Bool) (b : B) (n : ℕ) →
    fold f b (filter test (range_with_len 0 (suc n)))
    ≡ cond (test n) (f (fold f b (filter test (range_with_len 0 n))) n)
    (fold f b (filter test (range_with_len 0 n)))
fold-filter_more f test b n =
    ap (λ numbers. fold f b (filter test numbers)) (range_with_len-more 0 n)
    ∙ (ap (fold f b) (filter-append test (range_with_len 0 n) ((0 + n) ∷ []))
    ∙ (fold-append f b (filter test (range_with_len 0 n)) (filter test ((0 + n) ∷ []))
    ∙ last (0 + n) (omega arith)))
  where
    by_test : (t : Bool) → fold f (fold f b (filter test (range_with_len 0 n))) (cond t (n ∷ []) [])
        ≡ cond t (f (fold f b (filter test (range_with_len 0 n))) n) (fold f b (filter test (range_with_len 0 n)))
    by_test true = refl
    by_test false = refl

    last : (m : ℕ) → m ≡ n → fold f (fold f b (filter test (range_with_len 0 n))) (filter test (m ∷ []))
        ≡ cond (test n) (f (fold f b (filter test (range_with_len 0 n))) n)
        (fold f b (filter test (range_with_len 0 n)))
    last m e = rw e (by_test (test n))
