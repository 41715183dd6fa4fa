-- A printed number and a printed digest read back.
use Rattle.std.proofs.Common.{◌≡◌, ◌==◌, ◌&&◌, ℕ, ◌<◌, ◌^◌, List, Bool, not, true, false, None, Some, codes, length}
use Rattle.std.proofs.Common.{arith, inl, inr, refl, ap, ◌∙◌}
use Rattle.std.specs.Prelude.{nat_lt, slice_index}
use Rattle.std.specs.Fmt.{decimal}
use Rattle.std.specs.Str.{bytes_eq}
use Rattle.std.proofs.lemmas.Bool.{cases_lt}
use Rattle.std.proofs.lemmas.Fmt.{decimal_digit, decimal_is_IsNumeral, first_decimal}
use Rattle.std.proofs.lemmas.Slice.Eq.{bytes_eq-Decides}
use Rattle.journal.proofs.Limits.{digits_are, number_is}
use Rattle.journal.specs.Grammar.{below, is_numeral, number_of}

spare_short : (first length_of : ℕ) → length_of ≡ 1 → (first == 48 && nat_lt 1 length_of) ≡ false
spare_short first length_of e = grind arith

spare_high : (first length_of : ℕ) → 48 < first → (first == 48 && nat_lt 1 length_of) ≡ false
spare_high first length_of lt = grind arith

one_digit : (n : ℕ) → n < 10 → length (decimal n) ≡ 1
one_digit n lt = ap length (decimal_digit n lt)

no_spare : (n : ℕ) → n < 2 ^ 64 → (slice_index (decimal n) 0 == 48 && nat_lt 1 (length (decimal n))) ≡ false
no_spare n fits =
    elim (cases_lt n 10) [
      | inl lt ↦ spare_short _ _ (one_digit n lt)
      | inr le ↦ spare_high _ _ (first_decimal n (omega (arith, le)) fits)
    ]

all_three : (a b c : Bool) → a ≡ true → b ≡ true → c ≡ false → (a && b && not c) ≡ true
all_three a b c d e f = grind (arith, d, e, f)

is_more : (n : ℕ) → 0 < n → nat_lt 0 n ≡ true
is_more n lt = grind arith

numeral_decimal : (n : ℕ) → n < 2 ^ 64 → is_numeral (decimal n) ≡ true
numeral_decimal n fits =
    let is = (decimal_is_IsNumeral n fits).0 in
    all_three _ _ _ (digits_are.from (decimal n) is.1) (is_more _ is.0) (no_spare n fits)

below_some : (limit n v : ℕ) → v ≡ n → n < limit → below limit v ≡ Some n
below_some limit n v e lt = grind arith

-- a printed number is the number that its digits spell
pub number_decimal : (limit n : ℕ) → n < limit → n < 2 ^ 64 → number_of limit (decimal n) ≡ Some n
number_decimal limit n lt fits =
    number_is limit (decimal n) (numeral_decimal n fits) ∙ below_some limit n _ (decimal_is_IsNumeral n fits).1 lt

contrary : (n : ℕ) (b : Bool) (word : List ℕ) → n < 2 ^ 64 → number_of (2 ^ 64) word ≡ None →
    (b ≡ true → decimal n ≡ word) → b ≡ false
contrary n true word fits none same =
    let some = number_decimal (2 ^ 64) n fits fits in
    let is = ap (number_of (2 ^ 64)) (same refl) in cc
contrary n false word fits none same = refl

-- a printed number is no word that spells no number
pub decimal_not : (n : ℕ) (word : List ℕ) → n < 2 ^ 64 → number_of (2 ^ 64) word ≡ None →
    bytes_eq (decimal n) word ≡ false
decimal_not n word fits none = contrary n _ word fits none (bytes_eq-Decides (decimal n) word).0

pub dash_spells_none : number_of (2 ^ 64) (codes "-") ≡ None
unfolding number_of
dash_spells_none = refl

pub missing_spells_none : number_of (2 ^ 64) (codes "missing") ≡ None
unfolding number_of
missing_spells_none = refl

pub upper_spells_none : number_of (2 ^ 64) (codes "upper") ≡ None
unfolding number_of
upper_spells_none = refl
