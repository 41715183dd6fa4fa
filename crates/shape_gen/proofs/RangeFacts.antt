-- What holds of each element, and of each two elements, of a list that is made from the numbers of a range.
use Rattle.std.proofs.Common.{ℕ, zero, suc, ◌+◌, ◌*◌, ◌<◌, ◌≤◌, List, [], ◌∷◌, ◌++◌, length, get_or, map, flat_map, All}
use Rattle.std.proofs.Common.{AllPairs, sym, subst, arith}
use Rattle.std.specs.List.{range_with_len}
use Rattle.std.proofs.lemmas.List.{length-append}
use Rattle.std.proofs.lemmas.List.Elements.{All-nil, All-head, All-tail, All-append, All-map}
use Rattle.std.proofs.lemmas.List.FromFn.{length-range_with_len, get_or-range_with_len}
use Rattle.std.proofs.lemmas.List.Kept.{AllPairs-cons}

pub All-range : (P : ℕ → Type 0) (a n : ℕ) → ((k : ℕ) → a ≤ k → k < a + n → P k) → All P (range_with_len a n)
All-range P a n each k d in_bounds =
    let below : k < n = omega (arith, length-range_with_len a n) in
    subst P (sym (get_or-range_with_len a n k d below)) (each (a + k) (omega arith) (omega arith))

pub All-flat_map : {X A : Type 0} (P : A → Type 0) (f : X → List A) (xs : List X) → All (λ x. All P (f x)) xs →
    All P (flat_map f xs)
All-flat_map P f [] each = All-nil P
All-flat_map {X} P f (x ∷ xs) each =
    All-append P (f x) (flat_map f xs) (All-head (λ (y : X). All P (f y)) x xs each)
    (All-flat_map P f xs (All-tail (λ (y : X). All P (f y)) x xs each))

pub length-flat_map_most : {X A : Type 0} (f : X → List A) (m : ℕ) → ((x : X) → length (f x) ≤ m) → (xs : List X) →
    length (flat_map f xs) ≤ length xs * m
length-flat_map_most f m most [] = omega arith
length-flat_map_most f m most (x ∷ xs) =
    omega (arith, length-append (f x) (flat_map f xs), most x, length-flat_map_most f m most xs)

pub length-flat_map_each : {X A : Type 0} (f : X → List A) (m : ℕ) (xs : List X) → All (λ x. length (f x) ≤ m) xs →
    length (flat_map f xs) ≤ length xs * m
length-flat_map_each f m [] each = omega arith
length-flat_map_each {X} f m (x ∷ xs) each =
    omega (
      arith,
      length-append (f x) (flat_map f xs),
      All-head (λ (y : X). length (f y) ≤ m) x xs each,
      length-flat_map_each f m xs (All-tail (λ (y : X). length (f y) ≤ m) x xs each),
    )

pub AllPairs-append : {X : Type 0} (R : X → X → Type 0) (xs ys : List X) → AllPairs R xs → AllPairs R ys →
    All (λ x. All (R x) ys) xs → AllPairs R (xs ++ ys)
AllPairs-append R [] ys first second across = second
AllPairs-append {X} R (x ∷ xs) ys first second across =
    AllPairs-cons R x (xs ++ ys)
    (All-append (R x) xs ys (λ k d h. first 0 (suc k) d (omega arith) (omega arith))
    (All-head (λ (z : X). All (R z) ys) x xs across))
    (AllPairs-append R xs ys (λ i j d below h. first (suc i) (suc j) d (omega arith) (omega arith)) second
    (All-tail (λ (z : X). All (R z) ys) x xs across))

pub AllPairs-range : {X : Type 0} (R : X → X → Type 0) (f : ℕ → X) → ((i j : ℕ) → i < j → R (f i) (f j)) →
    (a n : ℕ) → AllPairs R (map f (range_with_len a n))
AllPairs-range R f rises a zero = λ i j d below h. absurd (omega arith)
AllPairs-range R f rises a (suc n) =
    AllPairs-cons R (f a) (map f (range_with_len (a + 1) n))
    (All-map (R (f a)) f (range_with_len (a + 1) n)
    (All-range (λ k. R (f a) (f k)) (a + 1) n (λ k least most. rises a k (omega arith))))
    (AllPairs-range R f rises (a + 1) n)

pub AllPairs-flat_map : {X : Type 0} (R : X → X → Type 0) (f : ℕ → List X) → ((i : ℕ) → AllPairs R (f i)) →
    ((i j : ℕ) → i < j → All (λ x. All (R x) (f j)) (f i)) → (a n : ℕ) → AllPairs R (flat_map f (range_with_len a n))
AllPairs-flat_map R f within across a zero = λ i j d below h. absurd (omega arith)
AllPairs-flat_map R f within across a (suc n) =
    AllPairs-append R (f a) (flat_map f (range_with_len (a + 1) n)) (within a)
    (AllPairs-flat_map R f within across (a + 1) n)
    (λ k d h. All-flat_map (R (get_or (f a) k d)) f (range_with_len (a + 1) n)
    (All-range (λ i. All (R (get_or (f a) k d)) (f i)) (a + 1) n (λ i least most. across a i (omega arith) k d h)))
