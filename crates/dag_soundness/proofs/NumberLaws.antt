-- Ranges of numbers: one number more, and the first number that passes a test.
use Rattle.std.proofs.Common.{◌≡◌, ◌≤◌, ◌<◌, ◌+◌, ℕ, zero, suc, Bool, true, false, cond, Some, None, [], ◌∷◌, ◌++◌}
use Rattle.std.proofs.Common.{refl, sym, ap, ◌∙◌}
use Rattle.std.proofs.Common.{arith, inl, inr}
use Rattle.std.specs.List.{find, range_with_len}
use Rattle.std.proofs.lemmas.Bool.{cases_lt}
use Rattle.std.proofs.lemmas.List.{map-id}
use Rattle.std.proofs.lemmas.List.FromFn.{map-range_with_len_more}

pub range-more : (a n : ℕ) → range_with_len a (n + 1) ≡ range_with_len a n ++ (a + n) ∷ []
range-more a n =
    sym (map-id (range_with_len a (n + 1)))
    ∙ (map-range_with_len_more (λ k. k) a n (a + n) refl
    ∙ ap (λ xs. xs ++ (a + n) ∷ []) (map-id (range_with_len a n)))

-- ---- the first number that passes

none_from : (test : ℕ → Bool) (a n : ℕ) → ((k : ℕ) → a ≤ k → k < a + n → test k ≡ false) →
    find test (range_with_len a n) ≡ None
none_from test a zero none = refl
none_from test a (suc n) none =
    ap (λ b. cond b (Some a) (find test (range_with_len (a + 1) n))) (none a (omega arith) (omega arith))
    ∙ none_from test (a + 1) n (λ k from below. none k (omega arith) (omega arith))

first_from : (test : ℕ → Bool) (a n k : ℕ) → a ≤ k → k < a + n → ((j : ℕ) → a ≤ j → j < k → test j ≡ false) →
    test k ≡ true → find test (range_with_len a n) ≡ Some k
first_from test a zero k from below before passes = absurd (omega arith)
first_from test a (suc n) k from below before passes =
    elim (cases_lt a k) [
      | inl less ↦
          ap (λ b. cond b (Some a) (find test (range_with_len (a + 1) n))) (before a (omega arith) less)
          ∙ first_from test (a + 1) n k (omega arith) (omega arith) (λ j after within. before j (omega arith) within)
          passes
      | inr beyond ↦
          let same : k ≡ a = omega arith in
          ap (λ b. cond b (Some a) (find test (range_with_len (a + 1) n))) (ap test (sym same) ∙ passes)
          ∙ ap (λ (j : ℕ). Some j) (sym same)
    ]

fails_from : (test : ℕ → Bool) (a n : ℕ) → find test (range_with_len a n) ≡ None → (k : ℕ) → a ≤ k → k < a + n →
    test k ≡ false
fails_from test a zero none k from below = absurd (omega arith)
fails_from test a (suc n) none k from below =
    at (test a) refl none (λ rest after. fails_from test (a + 1) n rest k after (omega arith))
  where
    at : (b : Bool) → test a ≡ b → cond b (Some a) (find test (range_with_len (a + 1) n)) ≡ None →
        (find test (range_with_len (a + 1) n) ≡ None → a + 1 ≤ k → test k ≡ false) → test k ≡ false
    at true is none rest = cc
    at false is none rest =
        elim (cases_lt a k) [
          | inl less ↦ rest none (omega arith)
          | inr beyond ↦ let same : k ≡ a = omega arith in ap test same ∙ is
        ]

-- none passes
pub find_none : (test : ℕ → Bool) (n : ℕ) → ((k : ℕ) → k < n → test k ≡ false) →
    find test (range_with_len 0 n) ≡ None
find_none test n none = none_from test 0 n (λ k from below. none k (omega arith))

-- one passes, and none before it
pub find_first : (test : ℕ → Bool) (n k : ℕ) → k < n → ((j : ℕ) → j < k → test j ≡ false) → test k ≡ true →
    find test (range_with_len 0 n) ≡ Some k
find_first test n k below before passes =
    first_from test 0 n k (omega arith) (omega arith) (λ j from within. before j within) passes

pub fails_all : (test : ℕ → Bool) (n : ℕ) → find test (range_with_len 0 n) ≡ None → (k : ℕ) → k < n → test k ≡ false
fails_all test n none k below = fails_from test 0 n none k (omega arith) (omega arith)
