-- The uppers of a page: the test that each is below the page, and the same of each of them.
use Rattle.std.proofs.Common.{◌≡◌, ◌&&◌, ℕ, ◌<◌, ◌≤◌, List, [], ◌∷◌, Bool, true, false, arith, refl}
use Rattle.std.specs.Prelude.{nat_le, nat_lt}
use Rattle.std.specs.List.{All}
use Rattle.std.proofs.lemmas.List.Elements.{All-cons, All-nil, All-head, All-tail}
use Rattle.journal.specs.Layout.{all_below}

-- two tests that pass together
pub both : (a b : Bool) → (a && b) ≡ true → (a ≡ true) × (b ≡ true)
both true b e = (refl, e)
both false b e = cc

either : (a b : Bool) → a ≡ true → b ≡ true → (a && b) ≡ true
either true b e f = f
either false b e f = cc

-- a test of an order, and the order
pub at_least : (m n : ℕ) → nat_le m n ≡ true → m ≤ n
at_least m n e = grind arith

pub is_least : (m n : ℕ) → m ≤ n → nat_le m n ≡ true
is_least m n le = grind arith

below : (n limit : ℕ) → nat_lt n limit ≡ true → n < limit
below n limit e = grind arith

is_below : (n limit : ℕ) → n < limit → nat_lt n limit ≡ true
is_below n limit lt = grind arith

pub All-from_all_below : (limit : ℕ) (numbers : List ℕ) → all_below limit numbers ≡ true → All (λ n. n < limit) numbers
All-from_all_below limit [] e = All-nil (λ n. n < limit)
All-from_all_below limit (n ∷ rest) e =
    let h = both (nat_lt n limit) (all_below limit rest) e in
    All-cons (λ n. n < limit) n rest (below n limit h.0) (All-from_all_below limit rest h.1)

pub all_below-from_All : (limit : ℕ) (numbers : List ℕ) → All (λ n. n < limit) numbers → all_below limit numbers ≡ true
all_below-from_All limit [] h = refl
all_below-from_All limit (n ∷ rest) h =
    either (nat_lt n limit) (all_below limit rest) (is_below n limit (All-head (λ n. n < limit) n rest h))
    (all_below-from_All limit rest (All-tail (λ n. n < limit) n rest h))
