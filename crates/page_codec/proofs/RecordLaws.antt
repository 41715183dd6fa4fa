-- Records of one size: what is spelt reads back, what breaks no rule is spelt again, and what is spelt breaks no rule.
use Rattle.std.proofs.Common.{◌≡◌, ℕ, zero, suc, ◌+◌, ◌*◌, ◌≤◌, List, [], ◌∷◌, ◌++◌, length, take, drop, refl, ap, ◌∙◌}
use Rattle.std.proofs.Common.{arith}
use Rattle.std.specs.List.{All, flat_map}
use Rattle.std.proofs.Math.Nat.{mul-suc, mul-zero}
use Rattle.std.proofs.Math.Seq.{take-add}
use Rattle.std.proofs.lemmas.List.{append_assoc, get_or-take, get_or-drop, get_or_past, length-take, length-take-le}
use Rattle.std.proofs.lemmas.List.{length-drop, take_at, drop_at}
use Rattle.std.proofs.lemmas.List.Elements.{All-head, All-tail}
use Rattle.std.proofs.lemmas.Bool.{cases_lt}
use Rattle.std.proofs.Common.{inl, inr}
use Rattle.page_codec.specs.Numbers.{records, IsBytes}
use Rattle.page_codec.specs.Breaks.{breaks_in, broken_at}

pub IsBytes-take : (n : ℕ) (bytes : List ℕ) → IsBytes bytes → IsBytes (take n bytes)
IsBytes-take n bytes are = λ i. elim (cases_lt i n) [
  | inl below ↦ rw (get_or-take n bytes i 0 below) (are i)
  | inr past ↦ let len = length-take n bytes in rw (get_or_past (take n bytes) i 0 (omega (arith, len))) (omega arith)
]

pub IsBytes-drop : (n : ℕ) (bytes : List ℕ) → IsBytes bytes → IsBytes (drop n bytes)
IsBytes-drop n bytes are = λ i. rw (get_or-drop n bytes i 0) (are (n + i))

-- what is spelt reads back, whatever follows it
pub records-spelt : {X : Type 0} (read : List ℕ → X) (spell : X → List ℕ) (size : ℕ) (P : X → Type 0) →
    ((x : X) → P x → length (spell x) ≡ size) → ((x : X) → P x → read (spell x) ≡ x)
    → (xs : List X) (rest : List ℕ) → All P xs → records read size (length xs) (flat_map spell xs ++ rest) ≡ xs
records-spelt read spell size P len back [] rest all = refl
records-spelt read spell size P len back (x ∷ xs) rest all =
    let whole = append_assoc (spell x) (flat_map spell xs) rest in
    rw (
      whole,
      take_at (spell x) (flat_map spell xs ++ rest) size (len x (All-head P x xs all)),
      drop_at (spell x) (flat_map spell xs ++ rest) size (len x (All-head P x xs all)),
      back x (All-head P x xs all),
    )
    (ap (λ ys. x ∷ ys) (records-spelt read spell size P len back xs rest (All-tail P x xs all)))

-- no break of two lists: none of each
pub nil-left : {X : Type 0} (xs ys : List X) → xs ++ ys ≡ [] → xs ≡ []
nil-left [] ys none = refl
nil-left (x ∷ xs) ys none = cc

pub nil-right : {X : Type 0} (xs ys : List X) → xs ++ ys ≡ [] → ys ≡ []
nil-right [] ys none = none
nil-right (x ∷ xs) ys none = cc

pub nil-broken : (offset : ℕ) (rules : List ℕ) → broken_at offset rules ≡ [] → rules ≡ []
nil-broken offset [] none = refl
nil-broken offset (r ∷ rules) none = cc

-- records without a break are spelt again
pub spelt-records : {X : Type 0} (read : List ℕ → X) (spell : X → List ℕ) (size : ℕ) (rules : List ℕ → List ℕ)
    → ((b : List ℕ) → length b ≡ size → IsBytes b → rules b ≡ [] → spell (read b) ≡ b)
    → (n offset : ℕ) (bytes : List ℕ) → size * n ≤ length bytes → IsBytes bytes →
    breaks_in rules size offset n bytes ≡ []
    → flat_map spell (records read size n bytes) ≡ take (size * n) bytes
spelt-records read spell size rules again zero offset bytes room are none = rw (mul-zero size) refl
spelt-records read spell size rules again (suc n) offset bytes room are none =
    let sum : size * suc n ≡ size + size * n = mul-suc size n ∙ omega arith in
    let good =
    nil-broken offset (rules (take size bytes))
    (nil-left (broken_at offset (rules (take size bytes)))
    (breaks_in rules size (offset + size) n (drop size bytes)) none) in
    let head = again (take size bytes) (length-take-le size bytes (omega arith)) (IsBytes-take size bytes are) good in
    let rest =
    spelt-records read spell size rules again n (offset + size) (drop size bytes)
    (omega (arith, length-drop size bytes)) (IsBytes-drop size bytes are)
    (nil-right (broken_at offset (rules (take size bytes)))
    (breaks_in rules size (offset + size) n (drop size bytes)) none) in
    rw (sum, take-add size (size * n) bytes, head, rest) refl

-- what is spelt by records that keep the rules has no break
pub breaks_in-spelt : {X : Type 0} (spell : X → List ℕ) (size : ℕ) (rules : List ℕ → List ℕ) (P : X → Type 0) →
    ((x : X) → P x → length (spell x) ≡ size) → ((x : X) → P x → rules (spell x) ≡ [])
    → (xs : List X) (offset : ℕ) (rest : List ℕ) → All P xs →
    breaks_in rules size offset (length xs) (flat_map spell xs ++ rest) ≡ []
breaks_in-spelt spell size rules P len keep [] offset rest all = refl
breaks_in-spelt spell size rules P len keep (x ∷ xs) offset rest all =
    rw (
      append_assoc (spell x) (flat_map spell xs) rest,
      take_at (spell x) (flat_map spell xs ++ rest) size (len x (All-head P x xs all)),
      drop_at (spell x) (flat_map spell xs ++ rest) size (len x (All-head P x xs all)),
      keep x (All-head P x xs all),
    )
    (breaks_in-spelt spell size rules P len keep xs (offset + size) rest (All-tail P x xs all))
