-- Steps of loops over records.
use Rattle.std.proofs.Common.{◌≡◌, ℕ, suc, ◌+◌, ◌-◌, ◌*◌, ◌<◌, List, [], ◌∷◌, ◌++◌, take, drop, Option, Some, None}
use Rattle.std.proofs.Common.{refl, sym, ap, ◌∙◌, arith}
use Rattle.std.proofs.lemmas.List.{append_assoc}
use Rattle.std.proofs.Math.Nat.{mul-suc}
use Rattle.page_codec.specs.declared.breaks.Break.{Break}
use Rattle.page_codec.specs.Numbers.{records}
use Rattle.page_codec.specs.Breaks.{breaks_in, broken_at, first_of}

-- the next of what is left
pub records-more : {X : Type 0} (read : List ℕ → X) (size n k : ℕ) (bytes : List ℕ) → k < n
    → records read size (n - k) bytes ≡ read (take size bytes) ∷ records read size (n - (k + 1)) (drop size bytes)
records-more read size n k bytes below = let e : n - k ≡ suc (n - (k + 1)) = omega arith in rw e refl

pub breaks_in-more : (rules : List ℕ → List ℕ) (size offset n k : ℕ) (bytes : List ℕ) → k < n
    → breaks_in rules size offset (n - k) bytes ≡ broken_at offset (rules (take size bytes)) ++ breaks_in rules size
    (offset + size) (n - (k + 1)) (drop size bytes)
breaks_in-more rules size offset n k bytes below = let e : n - k ≡ suc (n - (k + 1)) = omega arith in rw e refl

-- what is left of the bytes is one record less
pub left-more : (size n k : ℕ) → k < n → size * (n - k) ≡ size * (n - (k + 1)) + size
left-more size n k below = let e : n - k ≡ suc (n - (k + 1)) = omega arith in rw e (mul-suc size (n - (k + 1)))

-- one record more is read
pub records-step : {X : Type 0} (read : List ℕ → X) (size n k : ℕ) (rest record_bytes back : List ℕ)
    (items pushed whole : List X) (x : X) → k < n
    → record_bytes ≡ take size rest → back ≡ drop size rest → x ≡ read record_bytes → pushed ≡ items ++ (x ∷ [])
    → items ++ records read size (n - k) rest ≡ whole
    → pushed ++ records read size (n - (k + 1)) back ≡ whole
records-step read size n k rest record_bytes back items pushed whole x below front behind is push all =
    rw (
      push,
      is,
      front,
      behind,
      append_assoc items (read (take size rest) ∷ [])
          (records read size (n - (k + 1)) (drop size rest)),
      ← records-more read size n k rest below,
    ) all

-- a list without a first item is empty
pub none-first : {X : Type 0} (xs : List X) → None ≡ first_of xs → xs ≡ []
none-first [] none = refl
none-first (x ∷ xs) none = cc

-- the first item of two lists is that of the first list, if it has one
pub first-append : {X : Type 0} (x : X) (xs ys : List X) → Some x ≡ first_of xs → Some x ≡ first_of (xs ++ ys)
first-append x [] ys found = cc
first-append x (y ∷ xs) ys found = found

-- else it is that of the second list
pub first-append-none : {X : Type 0} (xs ys : List X) → None ≡ first_of xs → first_of (xs ++ ys) ≡ first_of ys
first-append-none xs ys none = rw (none-first xs none) refl

-- a record without a break adds none
pub breaks_in-step : (rules : List ℕ → List ℕ) (size offset n k : ℕ) (rest record_bytes back : List ℕ)
    (whole : Option Break) → k < n
    → record_bytes ≡ take size rest → back ≡ drop size rest → rules record_bytes ≡ []
    → first_of (breaks_in rules size offset (n - k) rest) ≡ whole
    → first_of (breaks_in rules size (offset + size) (n - (k + 1)) back) ≡ whole
breaks_in-step rules size offset n k rest record_bytes back whole below front behind good first =
    let unbroken : rules (take size rest) ≡ [] = ap rules (sym front) ∙ good in
    let more : breaks_in rules size offset (n - k) rest ≡ breaks_in rules size (offset + size) (n - (k + 1))
    (drop size rest) =
    breaks_in-more rules size offset n k rest below ∙
    ap (λ found. broken_at offset found ++ breaks_in rules size (offset + size) (n - (k + 1)) (drop size rest))
    unbroken in
    rw (behind, ← more) first

-- nothing comes before the first break of the first list
first-broken : (rule offset : ℕ) (rules : List ℕ) (more : List Break) → Some rule ≡ first_of rules →
    Some (record { rule = rule; offset = offset }) ≡ first_of (broken_at offset rules ++ more)
first-broken rule offset [] more found = cc
first-broken rule offset (r ∷ rules) more found = let e : rule ≡ r = cc in rw e refl

-- the first break of a record that has one
pub breaks_in-first : (rules : List ℕ → List ℕ) (size offset n k rule : ℕ) (rest record_bytes : List ℕ)
    (whole : Option Break) → k < n
    → record_bytes ≡ take size rest → Some rule ≡ first_of (rules record_bytes)
    → first_of (breaks_in rules size offset (n - k) rest) ≡ whole
    → Some (record { rule = rule; offset = offset }) ≡ whole
breaks_in-first rules size offset n k rule rest record_bytes whole below front found first =
    first-broken rule offset (rules (take size rest))
    (breaks_in rules size (offset + size) (n - (k + 1)) (drop size rest)) (rw (← front) found)
    ∙ ap first_of (sym (breaks_in-more rules size offset n k rest below)) ∙ first
