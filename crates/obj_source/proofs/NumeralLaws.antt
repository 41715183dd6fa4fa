-- The parts of a numeral, read from the left: its digits up to the first other byte, the digits behind a point
-- there, and what the bytes behind these say of its exponent.
use Rattle.std.proofs.Common.{◌≡◌, ℕ, suc, ◌+◌, Bool, true, false, cond, ◌&&◌, nat_lt, List, [], ◌∷◌, ◌++◌, length}
use Rattle.std.proofs.Common.{take, drop, ℤ, pos, Option, Some, None, inl, inr, refl, sym, ap, ◌∙◌, arith}
use Rattle.std.proofs.lemmas.Bool.{cases_Bool, and_parts}
use Rattle.std.proofs.lemmas.Bool.Decides.{nat_tests}
use Rattle.std.proofs.lemmas.Grind.{common_steps}
use Rattle.std.proofs.lemmas.List.{take-append-drop, append-nil}
use Rattle.std.specs.Char.{is_ascii_digit}
use Rattle.std.specs.List.{prefix_len, position_or_len, list_all, list_any, before_first, after_first}
use Rattle.std.specs.Option.{option_map}
use Rattle.obj_source.specs.Numerals.{Numeral, is_digits, is_point, marks_exponent, has_minus, without_sign}
use Rattle.obj_source.specs.Numerals.{exponent_of, exponent_in, numeral_of}
use Rattle.obj_source.specs.Scans.{leading, past, digits_behind, rest_behind, exponent_behind}

-- ---- the first byte that passes a test, behind a first byte that doesn't, or does

before_first_no : (p : ℕ → Bool) (d : ℕ) (xs : List ℕ) → p d ≡ false → before_first p (d ∷ xs) ≡ d ∷ before_first p xs
before_first_no p d xs e =
    let next : 1 + position_or_len p xs ≡ suc (position_or_len p xs) = omega arith in
    rw e (ap (λ (k : ℕ). take k (d ∷ xs)) next)

after_first_no : (p : ℕ → Bool) (d : ℕ) (xs : List ℕ) → p d ≡ false → after_first p (d ∷ xs) ≡ after_first p xs
after_first_no p d xs e =
    let next : 1 + position_or_len p xs + 1 ≡ suc (position_or_len p xs + 1) = omega arith in
    rw e (ap (λ (k : ℕ). drop k (d ∷ xs)) next)

before_first_yes : (p : ℕ → Bool) (d : ℕ) (xs : List ℕ) → p d ≡ true → before_first p (d ∷ xs) ≡ []
before_first_yes p d xs e = rw e refl

after_first_yes : (p : ℕ → Bool) (d : ℕ) (xs : List ℕ) → p d ≡ true → after_first p (d ∷ xs) ≡ xs
after_first_yes p d xs e = rw e refl

list_any_no : (p : ℕ → Bool) (d : ℕ) (xs : List ℕ) → p d ≡ false → list_any p (d ∷ xs) ≡ list_any p xs
list_any_no p d xs e = rw e refl

-- ---- behind digits, of which none passes

abbrev FailsDigits : (ℕ → Bool) → Type 0
FailsDigits p = (d : ℕ) → is_ascii_digit d ≡ true → p d ≡ false

no_digit_is_point : (d : ℕ) → is_ascii_digit d ≡ true → is_point d ≡ false
no_digit_is_point d h = grind (arith, common_steps, nat_tests)

no_digit_marks_exponent : (d : ℕ) → is_ascii_digit d ≡ true → marks_exponent d ≡ false
no_digit_marks_exponent d h = grind (arith, common_steps, nat_tests)

no_point_marks_exponent : (d : ℕ) → is_point d ≡ true → marks_exponent d ≡ false
no_point_marks_exponent d h = grind (arith, common_steps, nat_tests)

digits_head : (d : ℕ) (ds : List ℕ) → is_digits (d ∷ ds) ≡ true → is_ascii_digit d ≡ true
digits_head d ds h = (and_parts (is_ascii_digit d) (list_all is_ascii_digit ds) h).0

digits_tail : (d : ℕ) (ds : List ℕ) → is_digits (d ∷ ds) ≡ true → is_digits ds ≡ true
digits_tail d ds h = (and_parts (is_ascii_digit d) (list_all is_ascii_digit ds) h).1

before_first-digits : (p : ℕ → Bool) → FailsDigits p → (ds xs : List ℕ) → is_digits ds ≡ true →
    before_first p (ds ++ xs) ≡ ds ++ before_first p xs
before_first-digits p fails [] xs h = refl
before_first-digits p fails (d ∷ ds) xs h =
    before_first_no p d (ds ++ xs) (fails d (digits_head d ds h))
    ∙ ap (λ (l : List ℕ). d ∷ l) (before_first-digits p fails ds xs (digits_tail d ds h))

after_first-digits : (p : ℕ → Bool) → FailsDigits p → (ds xs : List ℕ) → is_digits ds ≡ true →
    after_first p (ds ++ xs) ≡ after_first p xs
after_first-digits p fails [] xs h = refl
after_first-digits p fails (d ∷ ds) xs h =
    after_first_no p d (ds ++ xs) (fails d (digits_head d ds h)) ∙ after_first-digits p fails ds xs (digits_tail d ds h)

list_any-digits : (p : ℕ → Bool) → FailsDigits p → (ds xs : List ℕ) → is_digits ds ≡ true →
    list_any p (ds ++ xs) ≡ list_any p xs
list_any-digits p fails [] xs h = refl
list_any-digits p fails (d ∷ ds) xs h =
    list_any_no p d (ds ++ xs) (fails d (digits_head d ds h)) ∙ list_any-digits p fails ds xs (digits_tail d ds h)

not_digits : (ds : List ℕ) (x : ℕ) (xs : List ℕ) → is_ascii_digit x ≡ false → is_digits (ds ++ x ∷ xs) ≡ false
not_digits [] x xs e = rw e refl
not_digits (d ∷ ds) x xs e =
    elim (cases_Bool (is_ascii_digit d)) [
      | inl h ↦ rw h (not_digits ds x xs e)
      | inr h ↦ rw h refl
    ]

-- ---- a list is the digits with which it begins and what follows them, no digit first

abbrev StopsDigits : List ℕ → Type 0
StopsDigits [] = Unit {0}
StopsDigits (x ∷ xs) = is_ascii_digit x ≡ false

prefix_len_yes : (p : ℕ → Bool) (d : ℕ) (xs : List ℕ) → p d ≡ true → prefix_len p (d ∷ xs) ≡ suc (prefix_len p xs)
prefix_len_yes p d xs e = rw e (omega arith)

prefix_len_no : (p : ℕ → Bool) (d : ℕ) (xs : List ℕ) → p d ≡ false → prefix_len p (d ∷ xs) ≡ 0
prefix_len_no p d xs e = rw e refl

pub leading_are_digits : (xs : List ℕ) → is_digits (leading xs) ≡ true
leading_are_digits [] = refl
leading_are_digits (x ∷ xs) =
    elim (cases_Bool (is_ascii_digit x)) [
      | inl h ↦ rw (prefix_len_yes is_ascii_digit x xs h, h) (leading_are_digits xs)
      | inr h ↦ rw (prefix_len_no is_ascii_digit x xs h) refl
    ]

past_stops : (xs : List ℕ) → StopsDigits (past xs)
past_stops [] = tt
past_stops (x ∷ xs) =
    elim (cases_Bool (is_ascii_digit x)) [
      | inl h ↦ rw (prefix_len_yes is_ascii_digit x xs h) (past_stops xs)
      | inr h ↦ rw (prefix_len_no is_ascii_digit x xs h) h
    ]

split_leading : (xs : List ℕ) → xs ≡ leading xs ++ past xs
split_leading xs = sym (take-append-drop (prefix_len is_ascii_digit xs) xs)

-- ---- the parts of a numeral

abbrev pub numeral : List ℕ → List ℕ → List ℕ → ℤ → Numeral
numeral word whole fraction exponent =
    record { is_negative = has_minus word; whole = whole; fraction = fraction; exponent = exponent }

-- the numeral of a word, by its digits and its exponent
abbrev pub numeral_or_none : List ℕ → List ℕ → List ℕ → Option ℤ → Option Numeral
numeral_or_none word whole fraction exponent =
    cond (nat_lt 0 (length whole + length fraction)) (option_map (numeral word whole fraction) exponent) None

-- the same, where some of these may be no digits
abbrev numeral_by : List ℕ → List ℕ → List ℕ → Option ℤ → Option Numeral
numeral_by word whole fraction exponent =
    cond (is_digits whole && is_digits fraction && nat_lt 0 (length whole + length fraction))
    (option_map (numeral word whole fraction) exponent) None

abbrev mantissa_of : List ℕ → List ℕ
mantissa_of rest = before_first marks_exponent rest

abbrev scan : List ℕ → List ℕ → Option Numeral
scan word rest =
    numeral_by word (before_first is_point (mantissa_of rest)) (after_first is_point (mantissa_of rest))
    (exponent_in rest)

scan_is : (word : List ℕ) → numeral_of word ≡ scan word (without_sign word)
unfolding numeral_of
scan_is word = refl

by_digits : (word whole fraction : List ℕ) (exponent : Option ℤ) → is_digits whole ≡ true → is_digits fraction ≡ true →
    numeral_by word whole fraction exponent ≡ numeral_or_none word whole fraction exponent
by_digits word whole fraction exponent w f = rw (w, f) refl

by_no_digits : (word whole fraction : List ℕ) (exponent : Option ℤ) → is_digits whole ≡ false →
    numeral_by word whole fraction exponent ≡ None
by_no_digits word whole fraction exponent w = rw w refl

by_no_fraction : (word whole fraction : List ℕ) (exponent : Option ℤ) → is_digits fraction ≡ false →
    numeral_by word whole fraction exponent ≡ None
by_no_fraction word whole fraction exponent f =
    elim (cases_Bool (is_digits whole)) [
      | inl w ↦ rw (w, f) refl
      | inr w ↦ rw w refl
    ]

pub no_exponent : (word whole fraction : List ℕ) → numeral_or_none word whole fraction None ≡ None
no_exponent word whole fraction =
    elim (cases_Bool (nat_lt 0 (length whole + length fraction))) [
      | inl h ↦ rw h refl
      | inr h ↦ rw h refl
    ]

-- the exponent stands behind digits and behind a point
exponent_in-digits : (ds xs : List ℕ) → is_digits ds ≡ true → exponent_in (ds ++ xs) ≡ exponent_in xs
exponent_in-digits ds xs h =
    rw (
      list_any-digits marks_exponent no_digit_marks_exponent ds xs h,
      after_first-digits marks_exponent no_digit_marks_exponent ds xs h,
    ) refl

exponent_in_no : (x : ℕ) (xs : List ℕ) → marks_exponent x ≡ false → exponent_in (x ∷ xs) ≡ exponent_in xs
exponent_in_no x xs e = rw (list_any_no marks_exponent x xs e, after_first_no marks_exponent x xs e) refl

exponent_in_yes : (x : ℕ) (xs : List ℕ) → marks_exponent x ≡ true → exponent_in (x ∷ xs) ≡ exponent_of xs
exponent_in_yes x xs e = rw e refl

-- digits in front stand before the point
scan-digits : (word ds xs : List ℕ) → is_digits ds ≡ true →
    scan word (ds ++ xs) ≡ numeral_by word (ds ++ before_first is_point (mantissa_of xs))
    (after_first is_point (mantissa_of xs)) (exponent_in xs)
scan-digits word ds xs h =
    let mantissa : mantissa_of (ds ++ xs) ≡ ds ++ mantissa_of xs =
    before_first-digits marks_exponent no_digit_marks_exponent ds xs h in
    let whole : before_first is_point (ds ++ mantissa_of xs) ≡ ds ++ before_first is_point (mantissa_of xs) =
    before_first-digits is_point no_digit_is_point ds (mantissa_of xs) h in
    let fraction : after_first is_point (ds ++ mantissa_of xs) ≡ after_first is_point (mantissa_of xs) =
    after_first-digits is_point no_digit_is_point ds (mantissa_of xs) h in
    ap (λ (m : List ℕ). numeral_by word (before_first is_point m) (after_first is_point m) (exponent_in (ds ++ xs)))
    mantissa
    ∙ ap (λ (w : List ℕ). numeral_by word w (after_first is_point (ds ++ mantissa_of xs)) (exponent_in (ds ++ xs)))
    whole
    ∙ ap (λ (f : List ℕ). numeral_by word (ds ++ before_first is_point (mantissa_of xs)) f (exponent_in (ds ++ xs)))
    fraction
    ∙ ap (numeral_by word (ds ++ before_first is_point (mantissa_of xs)) (after_first is_point (mantissa_of xs)))
    (exponent_in-digits ds xs h)

-- what the bytes behind the last digits say
by_rest : (word whole fs xs : List ℕ) → is_digits whole ≡ true → is_digits fs ≡ true → StopsDigits xs →
    numeral_by word whole (fs ++ mantissa_of xs) (exponent_in xs) ≡ numeral_or_none word whole fs (exponent_behind xs)
by_rest word whole fs [] w f stops = rw append-nil (by_digits word whole fs (Some (pos 0)) w f)
by_rest word whole fs (x ∷ xs) w f stops =
    elim (cases_Bool (marks_exponent x)) [
      | inl e ↦
          (let none : fs ++ mantissa_of (x ∷ xs) ≡ fs =
          ap (λ (l : List ℕ). fs ++ l) (before_first_yes marks_exponent x xs e) ∙ append-nil fs in
          let exponent : exponent_behind (x ∷ xs) ≡ exponent_of xs = rw e refl in
          ap (λ (l : List ℕ). numeral_by word whole l (exponent_in (x ∷ xs))) none
          ∙ ap (numeral_by word whole fs) (exponent_in_yes x xs e ∙ sym exponent)
          ∙ by_digits word whole fs (exponent_behind (x ∷ xs)) w f)
      | inr e ↦
          (let more : fs ++ mantissa_of (x ∷ xs) ≡ fs ++ x ∷ mantissa_of xs =
          ap (λ (l : List ℕ). fs ++ l) (before_first_no marks_exponent x xs e) in
          let exponent : exponent_behind (x ∷ xs) ≡ None = rw e refl in
          ap (λ (l : List ℕ). numeral_by word whole l (exponent_in (x ∷ xs))) more
          ∙ by_no_fraction word whole (fs ++ x ∷ mantissa_of xs) (exponent_in (x ∷ xs))
          (not_digits fs x (mantissa_of xs) stops)
          ∙ sym (ap (numeral_or_none word whole fs) exponent ∙ no_exponent word whole fs))
    ]

-- a point, and what stands behind it
scan_point : (word ds : List ℕ) (x : ℕ) (xs : List ℕ) → is_digits ds ≡ true → is_point x ≡ true →
    numeral_by word (ds ++ before_first is_point (mantissa_of (x ∷ xs))) (after_first is_point (mantissa_of (x ∷ xs)))
    (exponent_in (x ∷ xs)) ≡ numeral_or_none word ds (leading xs) (exponent_behind (past xs))
scan_point word ds x xs h point =
    let plain = no_point_marks_exponent x point in
    let mantissa : mantissa_of (x ∷ xs) ≡ x ∷ mantissa_of xs = before_first_no marks_exponent x xs plain in
    let whole : ds ++ before_first is_point (x ∷ mantissa_of xs) ≡ ds =
    ap (λ (l : List ℕ). ds ++ l) (before_first_yes is_point x (mantissa_of xs) point) ∙ append-nil ds in
    let fraction : after_first is_point (x ∷ mantissa_of xs) ≡ mantissa_of xs =
    after_first_yes is_point x (mantissa_of xs) point in
    let behind : mantissa_of xs ≡ leading xs ++ mantissa_of (past xs) =
    ap mantissa_of (split_leading xs) ∙ before_first-digits marks_exponent no_digit_marks_exponent (leading xs)
    (past xs) (leading_are_digits xs)
    in
    let exponent : exponent_in (x ∷ xs) ≡ exponent_in (past xs) =
    exponent_in_no x xs plain ∙ ap exponent_in (split_leading xs) ∙
    exponent_in-digits (leading xs) (past xs) (leading_are_digits xs)
    in
    ap (λ (m : List ℕ). numeral_by word (ds ++ before_first is_point m) (after_first is_point m) (exponent_in (x ∷ xs)))
    mantissa
    ∙ ap (λ (w : List ℕ). numeral_by word w (after_first is_point (x ∷ mantissa_of xs)) (exponent_in (x ∷ xs))) whole
    ∙ ap (λ (f : List ℕ). numeral_by word ds f (exponent_in (x ∷ xs))) (fraction ∙ behind)
    ∙ ap (numeral_by word ds (leading xs ++ mantissa_of (past xs))) exponent
    ∙ by_rest word ds (leading xs) (past xs) h (leading_are_digits xs) (past_stops xs)

-- an exponent straight behind the digits
scan_exponent : (word ds : List ℕ) (x : ℕ) (xs : List ℕ) → is_digits ds ≡ true → marks_exponent x ≡ true →
    numeral_by word (ds ++ before_first is_point (mantissa_of (x ∷ xs))) (after_first is_point (mantissa_of (x ∷ xs)))
    (exponent_in (x ∷ xs)) ≡ numeral_or_none word ds [] (exponent_behind (x ∷ xs))
scan_exponent word ds x xs h e =
    let exponent : exponent_behind (x ∷ xs) ≡ exponent_of xs = rw e refl in
    ap (λ (m : List ℕ). numeral_by word (ds ++ before_first is_point m) (after_first is_point m) (exponent_in (x ∷ xs)))
    (before_first_yes marks_exponent x xs e)
    ∙ ap (λ (w : List ℕ). numeral_by word w [] (exponent_in (x ∷ xs))) (append-nil ds)
    ∙ ap (numeral_by word ds []) (exponent_in_yes x xs e ∙ sym exponent)
    ∙ by_digits word ds [] (exponent_behind (x ∷ xs)) h refl

-- another byte straight behind the digits
scan_other : (word ds : List ℕ) (x : ℕ) (xs : List ℕ) → is_ascii_digit x ≡ false → is_point x ≡ false →
    marks_exponent x ≡ false → numeral_by word (ds ++ before_first is_point (mantissa_of (x ∷ xs)))
    (after_first is_point (mantissa_of (x ∷ xs))) (exponent_in (x ∷ xs)) ≡ numeral_or_none word ds []
    (exponent_behind (x ∷ xs))
scan_other word ds x xs stops point e =
    let none : exponent_behind (x ∷ xs) ≡ None = rw e refl in
    let whole : before_first is_point (x ∷ mantissa_of xs) ≡ x ∷ before_first is_point (mantissa_of xs) =
    before_first_no is_point x (mantissa_of xs) point in
    ap (λ (m : List ℕ). numeral_by word (ds ++ before_first is_point m) (after_first is_point m) (exponent_in (x ∷ xs)))
    (before_first_no marks_exponent x xs e)
    ∙ ap (λ (w : List ℕ). numeral_by word (ds ++ w) (after_first is_point (x ∷ mantissa_of xs)) (exponent_in (x ∷ xs)))
    whole
    ∙ by_no_digits word (ds ++ x ∷ before_first is_point (mantissa_of xs)) (after_first is_point (x ∷ mantissa_of xs))
    (exponent_in (x ∷ xs)) (not_digits ds x (before_first is_point (mantissa_of xs)) stops)
    ∙ sym (ap (numeral_or_none word ds []) none ∙ no_exponent word ds [])

scan_rest : (word ds xs : List ℕ) → is_digits ds ≡ true → StopsDigits xs →
    numeral_by word (ds ++ before_first is_point (mantissa_of xs)) (after_first is_point (mantissa_of xs))
    (exponent_in xs) ≡ numeral_or_none word ds (digits_behind xs) (exponent_behind (rest_behind xs))
scan_rest word ds [] h stops = rw append-nil (by_digits word ds [] (Some (pos 0)) h refl)
scan_rest word ds (x ∷ xs) h stops =
    elim (cases_Bool (is_point x)) [
      | inl point ↦
          (let digits : digits_behind (x ∷ xs) ≡ leading xs = rw point refl in
          let rest : rest_behind (x ∷ xs) ≡ past xs = rw point refl in
          scan_point word ds x xs h point
          ∙ ap (λ (f : List ℕ). numeral_or_none word ds f (exponent_behind (past xs))) (sym digits)
          ∙ ap (λ (r : List ℕ). numeral_or_none word ds (digits_behind (x ∷ xs)) (exponent_behind r)) (sym rest))
      | inr point ↦
          (let digits : digits_behind (x ∷ xs) ≡ [] = rw point refl in
          let rest : rest_behind (x ∷ xs) ≡ x ∷ xs = rw point refl in
          let here : numeral_by word (ds ++ before_first is_point (mantissa_of (x ∷ xs)))
          (after_first is_point (mantissa_of (x ∷ xs))) (exponent_in (x ∷ xs)) ≡ numeral_or_none word ds []
          (exponent_behind (x ∷ xs)) =
          elim (cases_Bool (marks_exponent x)) [
            | inl e ↦ scan_exponent word ds x xs h e
            | inr e ↦ scan_other word ds x xs stops point e
          ]
          in
          here
          ∙ ap (λ (f : List ℕ). numeral_or_none word ds f (exponent_behind (x ∷ xs))) (sym digits)
          ∙ ap (λ (r : List ℕ). numeral_or_none word ds (digits_behind (x ∷ xs)) (exponent_behind r)) (sym rest))
    ]

-- the numeral of a word, read from the left behind its sign
pub numeral_of_is : (word : List ℕ) → numeral_of word ≡ numeral_or_none word (leading (without_sign word))
    (digits_behind (past (without_sign word))) (exponent_behind (rest_behind (past (without_sign word))))
numeral_of_is word =
    let rest : List ℕ = without_sign word in
    scan_is word
    ∙ ap (scan word) (split_leading rest)
    ∙ scan-digits word (leading rest) (past rest) (leading_are_digits rest)
    ∙ scan_rest word (leading rest) (past rest) (leading_are_digits rest) (past_stops rest)
