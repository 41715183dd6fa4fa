-- The numbers of parts, one part after another.
use Rattle.std.specs.Prelude.{◌≡◌, ◌≢◌, ◌==◌, ◌+◌, ◌<◌, ℕ, suc, ℤ, true, false, List, [], ◌∷◌, ◌++◌, length, take, drop}
use Rattle.std.specs.Prelude.{FitsSigned, Option, Some, None, option_map, option_and_then, refl}
use Rattle.std.proofs.Common.{arith, ap, sym, subst, ◌∙◌, get_or, append_assoc, set, to_z, of_z, w64}
use Rattle.std.proofs.lemmas.Bool.Decides.{nat_tests}
use Rattle.std.proofs.lemmas.Int.{to_z-of_z}
use Rattle.std.proofs.lemmas.List.{drop_more, drop_all, take_all, take_more_set, append-nil}
use Rattle.geode_tool.specs.Words.{signed_number, numbers_of, fifteen}

-- a number before others, where all are there
abbrev pub number_before : Option ℤ → Option (List ℤ) → Option (List ℤ)
number_before None ns = None
number_before (Some n) None = None
number_before (Some n) (Some ns) = Some (n ∷ ns)

before_is : (n : Option ℤ) (ns : Option (List ℤ)) →
    option_and_then (λ m. option_and_then (λ ms. Some (m ∷ ms)) ns) n ≡ number_before n ns
before_is None ns = refl
before_is (Some n) None = refl
before_is (Some n) (Some ns) = refl

numbers_of-cons : (part : List ℕ) (parts : List (List ℕ)) →
    numbers_of (part ∷ parts) ≡ number_before (signed_number 11 part) (numbers_of parts)
numbers_of-cons part parts = before_is (signed_number 11 part) (numbers_of parts)

-- the part at a place, and those after it
numbers_of-drop : (parts : List (List ℕ)) (count : ℕ) (part : List ℕ) → count < length parts →
    part ≡ get_or parts count part → numbers_of (drop count parts) ≡ number_before (signed_number 11 part)
    (numbers_of (drop (count + 1) parts))
numbers_of-drop parts count part h e =
    ap numbers_of (drop_more parts count part h)
    ∙ numbers_of-cons (get_or parts count part) (drop (count + 1) parts)
    ∙ ap (λ p. number_before (signed_number 11 p) (numbers_of (drop (count + 1) parts))) (sym e)

-- as many numbers as parts, if there are numbers
abbrev HasLength : ℕ → Option (List ℤ) → Type 0
HasLength k None = Unit {0}
HasLength k (Some ns) = length ns ≡ k

before-length : (n : Option ℤ) (ns : Option (List ℤ)) (k : ℕ) → HasLength k ns → HasLength (suc k) (number_before n ns)
before-length None ns k h = tt
before-length (Some n) None k h = tt
before-length (Some n) (Some ns) k h = ap suc h

numbers_of-length : (parts : List (List ℕ)) → HasLength (length parts) (numbers_of parts)
numbers_of-length [] = refl
numbers_of-length (part ∷ parts) =
    subst (HasLength (suc (length parts))) (sym (numbers_of-cons part parts))
    (before-length (signed_number 11 part) (numbers_of parts) (length parts) (numbers_of-length parts))

not_fifteen : (n : ℕ) → n ≢ 15 → (n == 15) ≡ false
not_fifteen n h = grind (arith, nat_tests)

fifteen_other : (ns : Option (List ℤ)) (k : ℕ) → HasLength k ns → k ≢ 15 → fifteen ns ≡ None
fifteen_other None k h n = refl
fifteen_other (Some ns) k h n = rw (not_fifteen (length ns) (λ e. n (sym h ∙ e))) refl

-- the part that comes after the first `count`
abbrev IsNext : List (List ℕ) → ℕ → List ℕ → Type 0
IsNext parts count part = (count < length parts) × (part ≡ get_or parts count part)

-- the numbers of the first `count` parts, and those of the rest, are those of all
abbrev SoFar : List (List ℕ) → List ℤ → ℕ → Type 0
SoFar parts numbers count =
    option_map (λ ns. take count numbers ++ ns) (numbers_of (drop count parts)) ≡ numbers_of parts

-- a sixteenth part
pub fifteen-more : (parts : List (List ℕ)) (count n : ℕ) (part : List ℕ) → count ≡ n → count ≡ 15 →
    IsNext parts n part → None ≡ fifteen (numbers_of parts)
fifteen-more parts count n part e full next =
    sym (fifteen_other (numbers_of parts) (length parts) (numbers_of-length parts) (λ h. absurd (omega arith)))

-- fewer than fifteen parts
pub fifteen-fewer : (parts : List (List ℕ)) (count n : ℕ) → count ≡ n → count ≢ 15 → n ≡ length parts →
    None ≡ fifteen (numbers_of parts)
fifteen-fewer parts count n e other end =
    sym (fifteen_other (numbers_of parts) (length parts) (numbers_of-length parts) (λ h. absurd (omega arith)))

-- a part that is no number
pub fifteen-none : (parts : List (List ℕ)) (numbers : List ℤ) (count n : ℕ) (part : List ℕ) → count ≡ n →
    IsNext parts n part → SoFar parts numbers count → signed_number 11 part ≡ None → None ≡ fifteen (numbers_of parts)
fifteen-none parts numbers count n part e next so_far none =
    let rest = numbers_of (drop (count + 1) parts) in
    let here : IsNext parts count part = subst (λ (k : ℕ). IsNext parts k part) (sym e) next in
    let nothing : numbers_of (drop count parts) ≡ None =
    numbers_of-drop parts count part here.0 here.1 ∙ ap (λ m. number_before m rest) none in
    sym (ap fifteen (sym so_far ∙ ap (option_map (λ ns. take count numbers ++ ns)) nothing))

before-set : (numbers : List ℤ) (count : ℕ) (m : ℤ) (ns : Option (List ℤ)) → count < length numbers →
    option_map (λ ms. take count numbers ++ ms) (number_before (Some m) ns) ≡ option_map
    (λ ms. take (count + 1) (set numbers count m) ++ ms) ns
before-set numbers count m None h = refl
before-set numbers count m (Some ns) h =
    ap Some (sym (ap (λ xs. xs ++ ns) (take_more_set numbers count m h) ∙
    append_assoc (take count numbers) (m ∷ []) ns))

-- one number more, as the code stores it
pub SoFar-more : (parts : List (List ℕ)) (numbers : List ℤ) (count n : ℕ) (part : List ℕ) (m : ℤ) → count ≡ n →
    count < length numbers → FitsSigned w64 m → IsNext parts n part → SoFar parts numbers count →
    signed_number 11 part ≡ Some m → SoFar parts (set numbers count (to_z w64 (of_z w64 m))) (count + 1)
SoFar-more parts numbers count n part m e room fits next so_far some =
    let rest = numbers_of (drop (count + 1) parts) in
    let here : IsNext parts count part = subst (λ (k : ℕ). IsNext parts k part) (sym e) next in
    let stored : Some (to_z w64 (of_z w64 m)) ≡ signed_number 11 part = ap Some (to_z-of_z w64 m fits) ∙ sym some in
    sym (before-set numbers count (to_z w64 (of_z w64 m)) rest room)
    ∙ ap (λ o. option_map (λ ms. take count numbers ++ ms) (number_before o rest)) stored
    ∙ ap (option_map (λ ms. take count numbers ++ ms)) (sym (numbers_of-drop parts count part here.0 here.1))
    ∙ so_far

-- fifteen numbers
pub fifteen-all : (parts : List (List ℕ)) (numbers : List ℤ) (count n : ℕ) → count ≡ n → count ≡ 15 → n ≡ length parts →
    length numbers ≡ 15 → SoFar parts numbers count → Some numbers ≡ fifteen (numbers_of parts)
fifteen-all parts numbers count n e full end whole so_far =
    let none_left : drop count parts ≡ [] = drop_all count parts (omega arith) in
    let all_there : take count numbers ++ [] ≡ numbers =
    append-nil (take count numbers) ∙ take_all count numbers (omega arith) in
    let same : Some numbers ≡ numbers_of parts =
    ap Some (sym all_there) ∙ ap (λ ps. option_map (λ ns. take count numbers ++ ns) (numbers_of ps)) (sym none_left)
    ∙ so_far in
    let test : (length numbers == 15) ≡ true = grind (arith, nat_tests) in
    let kept : fifteen (Some numbers) ≡ Some numbers = rw test refl in
    sym kept ∙ ap fifteen same
