-- The significant digits of a numeral, digit by digit, and the number that the first 18 of them write.
use Rattle.std.proofs.Common.{◌≡◌, ◌≢◌, ℕ, suc, ◌+◌, ◌-◌, ◌*◌, ◌<◌, ◌≤◌, Bool, true, false, ◌||◌, eqb, ltb, List, []}
use Rattle.std.proofs.Common.{◌∷◌, ◌++◌, length, take, drop, get_or, inl, inr, refl, sym, ap, ◌∙◌, arith}
use mir.Val.{bool_byte}
use Rattle.std.proofs.lemmas.Bool.{eq-eqb, ne_eqb, cases_eq, lt-ltb}
use Rattle.std.proofs.lemmas.Bool.Decides.{nat_tests}
use Rattle.std.proofs.lemmas.Grind.{common_steps}
use Rattle.std.proofs.lemmas.Int.Digits.{digits_value_push}
use Rattle.std.proofs.lemmas.List.{take_all, take-append-le, length_push, nil_from_length, take_more, append_assoc}
use Rattle.std.proofs.lemmas.List.{length-drop, length-append}
use Rattle.std.specs.Char.{is_ascii_digit, digit_value}
use Rattle.std.specs.List.{prefix_len}
use Rattle.std.specs.Str.Parse.{digits_value}
use Rattle.obj_source.specs.Numerals.{significant}
use Rattle.obj_source.specs.Scans.{AreCounted}

-- a digit's byte
digit_value_is : (digit : ℕ) → digit < 10 → digit_value (48 + digit) ≡ digit
digit_value_is digit small = grind (arith, common_steps, nat_tests)

-- zeros in front don't count, and all counts from the first other digit on
significant_zero : (d : ℕ) (ds : List ℕ) → d ≡ 48 → significant (d ∷ ds) ≡ significant ds
significant_zero d ds e =
    let test : eqb d 48 ≡ true = eq-eqb d 48 e in
    let next : 1 + prefix_len (λ (x : ℕ). eqb x 48) ds ≡ suc (prefix_len (λ (x : ℕ). eqb x 48) ds) = omega arith in
    rw test (ap (λ (k : ℕ). drop k (d ∷ ds)) next)

significant_other : (d : ℕ) (ds : List ℕ) → d ≢ 48 → significant (d ∷ ds) ≡ d ∷ ds
significant_other d ds e =
    let test : eqb d 48 ≡ false = ne_eqb d 48 e in
    rw test refl

pub significant_more : (ds : List ℕ) (c : ℕ) → 0 < length (significant ds) →
    significant (ds ++ c ∷ []) ≡ significant ds ++ c ∷ []
significant_more [] c some = absurd (omega arith)
significant_more (d ∷ ds) c some =
    elim (cases_eq d 48) [
      | inl e ↦
          significant_zero d (ds ++ c ∷ []) e
          ∙ significant_more ds c (rw (significant_zero d ds e) at some)
          ∙ ap (λ (l : List ℕ). l ++ c ∷ []) (sym (significant_zero d ds e))
      | inr e ↦ significant_other d (ds ++ c ∷ []) e ∙ ap (λ (l : List ℕ). l ++ c ∷ []) (sym (significant_other d ds e))
    ]

-- the first digit that isn't 0
pub significant_first : (ds : List ℕ) (c : ℕ) → length (significant ds) ≡ 0 →
    significant (ds ++ c ∷ []) ≡ significant (c ∷ [])
significant_first [] c none = refl
significant_first (d ∷ ds) c none =
    elim (cases_eq d 48) [
      | inl e ↦
          significant_zero d (ds ++ c ∷ []) e
          ∙ significant_first ds c (rw (significant_zero d ds e) at none)
      | inr e ↦ (let some : length (d ∷ ds) ≡ 0 = rw (significant_other d ds e) at none in absurd (omega arith))
    ]

-- ---- one digit more

pub AreCounted_full : (value count c : ℕ) (ds : List ℕ) → 18 ≤ count → AreCounted value count ds →
    AreCounted value (count + 1) (ds ++ c ∷ [])
AreCounted_full value count c ds full h =
    let more = significant_more ds c (omega (arith, h.1)) in (
      h.0 ∙ ap (digits_value 10) (sym (take-append-le 18 (significant ds) (c ∷ []) (omega (arith, h.1))) ∙
          ap (take 18) (sym more)),
      rw more (omega (arith, h.1, length_push (significant ds) c)),
    )

pub AreCounted_more : (value count digit : ℕ) (ds : List ℕ) → 0 < count → count < 18 → digit < 10 →
    AreCounted value count ds → AreCounted (value * 10 + digit) (count + 1) (ds ++ (48 + digit) ∷ [])
AreCounted_more value count digit ds some room small h =
    let c : ℕ = 48 + digit in
    let more = significant_more ds c (omega (arith, h.1)) in
    let longer = length_push (significant ds) c in
    let all : value ≡ digits_value 10 (significant ds) =
    h.0 ∙ ap (digits_value 10) (take_all 18 (significant ds) (omega (arith, h.1))) in
    let push = digits_value_push 10 (significant ds) c in
    let step : value * 10 + digit ≡ digits_value 10 (significant ds ++ c ∷ []) =
    omega (arith, push, all, digit_value_is digit small) in (
      step ∙ ap (digits_value 10) (sym (take_all 18 (significant ds ++ c ∷ []) (omega (arith, h.1, longer))) ∙
          ap (take 18) (sym more)),
      rw more (omega (arith, h.1, longer)),
    )

none_value : (value count : ℕ) (ds : List ℕ) → count ≡ 0 → AreCounted value count ds → value ≡ 0
none_value value count ds none h =
    h.0 ∙ ap (λ (l : List ℕ). digits_value 10 (take 18 l)) (nil_from_length (significant ds) (omega (arith, h.1)))

pub AreCounted_first : (value count digit : ℕ) (ds : List ℕ) → count ≡ 0 → 0 < digit → digit < 10 →
    AreCounted value count ds → AreCounted (value * 10 + digit) (count + 1) (ds ++ (48 + digit) ∷ [])
AreCounted_first value count digit ds none some small h =
    let c : ℕ = 48 + digit in
    let first : significant (ds ++ c ∷ []) ≡ c ∷ [] =
    significant_first ds c (omega (arith, h.1)) ∙ significant_other c [] (omega arith) in
    let start = none_value value count ds none h in
    let one : digits_value 10 (c ∷ []) ≡ digit = omega (arith, digit_value_is digit small) in
    (rw first (omega (arith, start, one)), rw first (omega arith))

pub AreCounted_zero : (value count digit : ℕ) (ds : List ℕ) → count ≡ 0 → digit ≡ 0 → AreCounted value count ds →
    AreCounted (value * 10 + digit) count (ds ++ (48 + digit) ∷ [])
AreCounted_zero value count digit ds none zero h =
    let c : ℕ = 48 + digit in
    let first : significant (ds ++ c ∷ []) ≡ [] =
    significant_first ds c (omega (arith, h.1)) ∙ significant_zero c [] (omega arith) in
    let start = none_value value count ds none h in
    (rw first (omega (arith, start)), rw first (omega arith))

pub AreCounted_next : (value count digit : ℕ) (is_significant : Bool) (ds : List ℕ) → count < 18 → digit < 10 →
    is_significant ≡ (ltb 0 count || ltb 0 digit) → AreCounted value count ds →
    AreCounted (value * 10 + digit) (count + bool_byte is_significant) (ds ++ (48 + digit) ∷ [])
AreCounted_next value count digit is_significant ds room small test h =
    elim (cases_eq count 0) [
      | inr some ↦
          (let yes : is_significant ≡ true = test ∙
          ap (λ (b : Bool). b || ltb 0 digit) (lt-ltb 0 count (omega arith)) in
          rw yes (AreCounted_more value count digit ds (omega arith) room small h))
      | inl none ↦ elim (cases_eq digit 0) [
        | inr some ↦
            (let yes : is_significant ≡ true = test ∙ grind (arith, nat_tests) in
            rw yes (AreCounted_first value count digit ds none (omega arith) small h))
        | inl zero ↦
            (let no : is_significant ≡ false = test ∙ grind (arith, nat_tests) in
            let same : count + 0 ≡ count = omega arith in
            rw (no, same) (AreCounted_zero value count digit ds none zero h))
      ]
    ]

-- ---- digits in a list of bytes

pub is_digit_byte : (b : ℕ) → is_ascii_digit b ≡ true → 48 + (b - 48) ≡ b
is_digit_byte b digit = grind (arith, common_steps, nat_tests)

pub digits_push : (before bytes : List ℕ) (i : ℕ) → i < length bytes → is_ascii_digit (get_or bytes i 0) ≡ true →
    before ++ take (i + 1) bytes ≡ before ++ take i bytes ++ (48 + (get_or bytes i 0 - 48)) ∷ []
digits_push before bytes i here digit =
    ap (λ (l : List ℕ). before ++ l) (take_more bytes i 0 here)
    ∙ sym (append_assoc before (take i bytes) (get_or bytes i 0 ∷ []))
    ∙ ap (λ (b : ℕ). before ++ take i bytes ++ b ∷ []) (sym (is_digit_byte (get_or bytes i 0) digit))

-- further digits are at most so many significant ones more
pub length-significant : (ds xs : List ℕ) → length (significant (ds ++ xs)) ≤ length (significant ds) + length xs
length-significant [] xs =
    let rest = length-drop (prefix_len (λ (x : ℕ). eqb x 48) xs) xs in
    omega (arith, rest)
length-significant (d ∷ ds) xs =
    elim (cases_eq d 48) [
      | inl e ↦ rw (significant_zero d (ds ++ xs) e, significant_zero d ds e) (length-significant ds xs)
      | inr e ↦ rw (significant_other d (ds ++ xs) e, significant_other d ds e) (omega (arith, length-append ds xs))
    ]
