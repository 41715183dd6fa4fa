-- Lists that are made from the numbers of a range: one number more.
use Rattle.std.proofs.Common.{◌≡◌, ℕ, ◌+◌, Bool, List, [], ◌∷◌, ◌++◌, map, filter, flat_map, sym, ap, ◌∙◌, cond, arith}
use Rattle.std.proofs.Common.{append_assoc}
use Rattle.std.specs.List.{range_with_len}
use Rattle.std.proofs.lemmas.List.{append-nil, map-id}
use Rattle.std.proofs.lemmas.List.Elements.{filter-append}
use Rattle.std.proofs.lemmas.List.FromFn.{map-range_with_len_more, filter_of_map_range_with_len_more}
use Rattle.std.proofs.lemmas.Grind.{flat_map-append}

pub range_more : (n : ℕ) → range_with_len 0 (n + 1) ≡ range_with_len 0 n ++ n ∷ []
range_more n =
    sym (map-id (range_with_len 0 (n + 1))) ∙ map-range_with_len_more (λ k. k) 0 n n (omega arith) ∙
    ap (λ xs. xs ++ n ∷ []) (map-id (range_with_len 0 n))

pub flat_map_more : {A : Type 0} (f : ℕ → List A) (n : ℕ) →
    flat_map f (range_with_len 0 (n + 1)) ≡ flat_map f (range_with_len 0 n) ++ f n
flat_map_more f n =
    ap (flat_map f) (range_more n) ∙ flat_map-append f (range_with_len 0 n) (n ∷ []) ∙
    ap (λ xs. flat_map f (range_with_len 0 n) ++ xs) (append-nil (f n))

-- a step of a loop that appends the list of each number
pub appended_more : {A : Type 0} (f : ℕ → List A) (start xs ys : List A) (n : ℕ) →
    xs ≡ start ++ flat_map f (range_with_len 0 n) → ys ≡ xs ++ f n →
    ys ≡ start ++ flat_map f (range_with_len 0 (n + 1))
appended_more f start xs ys n before step =
    step ∙ ap (λ zs. zs ++ f n) before ∙ append_assoc start (flat_map f (range_with_len 0 n)) (f n) ∙
    ap (λ zs. start ++ zs) (sym (flat_map_more f n))

-- a step of a loop that appends what passes the test in the list of each number
pub filtered_more : {A : Type 0} (p : A → Bool) (f : ℕ → List A) (start xs ys : List A) (n : ℕ) →
    xs ≡ start ++ filter p (flat_map f (range_with_len 0 n)) → ys ≡ xs ++ filter p (f n) →
    ys ≡ start ++ filter p (flat_map f (range_with_len 0 (n + 1)))
filtered_more p f start xs ys n before step =
    step ∙ ap (λ zs. zs ++ filter p (f n)) before ∙
    append_assoc start (filter p (flat_map f (range_with_len 0 n))) (filter p (f n)) ∙
    ap (λ zs. start ++ zs)
    (sym (ap (filter p) (flat_map_more f n) ∙ filter-append p (flat_map f (range_with_len 0 n)) (f n)))

-- a step of a loop that appends the value of each number
pub mapped_more : {A : Type 0} (f : ℕ → A) (start xs ys : List A) (n : ℕ) →
    xs ≡ start ++ map f (range_with_len 0 n) → ys ≡ xs ++ f n ∷ [] →
    ys ≡ start ++ map f (range_with_len 0 (n + 1))
mapped_more f start xs ys n before step =
    step ∙ ap (λ zs. zs ++ f n ∷ []) before ∙ append_assoc start (map f (range_with_len 0 n)) (f n ∷ []) ∙
    ap (λ zs. start ++ zs) (sym (map-range_with_len_more f 0 n n (omega arith)))

-- a step of a loop that appends the value of each number where it passes the test
pub tested_more : {A : Type 0} (p : A → Bool) (f : ℕ → A) (start xs ys : List A) (n : ℕ) (b : Bool) →
    xs ≡ start ++ filter p (map f (range_with_len 0 n)) → b ≡ p (f n) → ys ≡ xs ++ cond b (f n ∷ []) [] →
    ys ≡ start ++ filter p (map f (range_with_len 0 (n + 1)))
tested_more p f start xs ys n b before passes step =
    step ∙ ap (λ zs. zs ++ cond b (f n ∷ []) []) before ∙
    ap (λ t. (start ++ filter p (map f (range_with_len 0 n))) ++ cond t (f n ∷ []) []) passes ∙
    append_assoc start (filter p (map f (range_with_len 0 n))) (cond (p (f n)) (f n ∷ []) []) ∙
    ap (λ zs. start ++ zs) (sym (filter_of_map_range_with_len_more p f 0 n n (omega arith)))
