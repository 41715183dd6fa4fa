-- The number before the first `/` of a corner's word.
use Rattle.std.proofs.Common.{◌≡◌, ◌≢◌, ℕ, ◌<◌, ◌≤◌, Bool, true, false, not, leb, List, length, take, get_or}
use Rattle.std.proofs.Common.{MatchOption, inl, inr, refl, sym, ap, arith}
use Rattle.std.proofs.lemmas.Grind.{common_steps}
use Rattle.std.proofs.lemmas.Bool.{cases_lt, both_ways, eq-eqb, eqb-true, and_right, lt-leb, le-leb}
use Rattle.std.proofs.lemmas.Bool.Decides.{nat_tests}
use Rattle.std.proofs.lemmas.List.{get_or-take, length-take-le}
use Rattle.std.proofs.lemmas.List.Folds.{list_all_at}
use Rattle.std.proofs.lemmas.List.Sums.{position_or_len_is, passes_at_first, prefix_len-le-length}
use Rattle.std.specs.Bool.{then_some}
use Rattle.std.specs.Char.{is_ascii_digit}
use Rattle.std.specs.List.{list_all, position_or_len, before_first}
use Rattle.std.specs.Str.Parse.{digits_value}
use Rattle.obj_source.specs.References.{is_slash, is_number}

no_digit_is_slash : (b : ℕ) → is_ascii_digit b ≡ true → is_slash b ≡ false
no_digit_is_slash b h = grind (arith, common_steps, nat_tests)

-- the first `/` is behind the digits, or there is none
pub before_slash_at : (bytes : List ℕ) (i : ℕ) → i ≤ length bytes →
    ((k : ℕ) → k < i → is_ascii_digit (get_or bytes k 0) ≡ true) → (i < length bytes → get_or bytes i 0 ≡ 47) →
    before_first is_slash bytes ≡ take i bytes
before_slash_at bytes i within digits slash =
    let at : position_or_len is_slash bytes ≡ i =
    position_or_len_is is_slash bytes i 0 within (λ k h. no_digit_is_slash _ (digits k h)) (λ h. eq-eqb _ 47 (slash h))
    in
    ap (λ (k : ℕ). take k bytes) at

-- a byte that is no `/`, behind digits, stands before the first `/`
slash_past : (bytes : List ℕ) (i : ℕ) → i < length bytes →
    ((k : ℕ) → k < i → is_ascii_digit (get_or bytes k 0) ≡ true) → get_or bytes i 0 ≢ 47 →
    i < position_or_len is_slash bytes
slash_past bytes i here digits other =
    let p : ℕ = position_or_len is_slash bytes in
    elim (cases_lt i p) [
      | inl before ↦ before
      | inr after ↦
          (let slash : is_slash (get_or bytes p 0) ≡ true = passes_at_first is_slash bytes 0 (omega arith) in
          elim (cases_lt p i) [
            | inl below ↦ absurd (both_ways (is_slash (get_or bytes p 0))
                (no_digit_is_slash (get_or bytes p 0) (digits p below)) slash)
            | inr above ↦
                (let same : p ≡ i = omega arith in
                absurd (other (eqb-true (get_or bytes i 0) 47 (rw same at slash))))
          ])
    ]

length_before_slash : (bytes : List ℕ) → length (before_first is_slash bytes) ≡ position_or_len is_slash bytes
length_before_slash bytes =
    length-take-le (position_or_len is_slash bytes) bytes (prefix_len-le-length (λ (b : ℕ). not (is_slash b)) bytes)

-- no number: a byte that is no digit, or a nineteenth digit
pub no_number_other : (bytes : List ℕ) (i : ℕ) → i < length bytes →
    ((k : ℕ) → k < i → is_ascii_digit (get_or bytes k 0) ≡ true) → get_or bytes i 0 ≢ 47 →
    is_ascii_digit (get_or bytes i 0) ≡ false → is_number (before_first is_slash bytes) ≡ false
no_number_other bytes i here digits other bad =
    let past = slash_past bytes i here digits other in
    let within : i < length (before_first is_slash bytes) = rw length_before_slash past in
    let there : is_ascii_digit (get_or (before_first is_slash bytes) i 0) ≡ false =
    rw (get_or-take (position_or_len is_slash bytes) bytes i 0 past) bad in
    rw (list_all_at is_ascii_digit (before_first is_slash bytes) i 0 within there) refl

pub no_number_long : (bytes : List ℕ) (i : ℕ) → i < length bytes →
    ((k : ℕ) → k < i → is_ascii_digit (get_or bytes k 0) ≡ true) → get_or bytes i 0 ≢ 47 → i ≡ 18 →
    is_number (before_first is_slash bytes) ≡ false
no_number_long bytes i here digits other full =
    let past = slash_past bytes i here digits other in
    and_right _ _ (lt-leb (length (before_first is_slash bytes)) 18 (rw length_before_slash (omega arith)))

-- a number: 1 to 18 digits
pub number_of_digits : (ds : List ℕ) (number : ℕ) (test : Bool) → list_all is_ascii_digit ds ≡ true → length ds ≤ 18 →
    number ≡ digits_value 10 ds → test ≡ leb 1 (length ds) →
    MatchOption (then_some test number) (is_number ds ≡ false) (λ n. (is_number ds ≡ true) × (n ≡ digits_value 10 ds))
number_of_digits ds number true digits short value some =
    (rw (digits, sym some, le-leb (length ds) 18 short) refl, value)
number_of_digits ds number false digits short value some = rw (digits, sym some) refl
