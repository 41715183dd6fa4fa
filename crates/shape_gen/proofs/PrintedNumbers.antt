-- Numbers in decimal: fields of a text, the coordinates that they give, and the vertices that they name.
use Rattle.std.proofs.Common.{◌≡◌, ℕ, zero, suc, ◌+◌, ◌-◌, ◌*◌, ◌≤◌, ◌<◌, ◌^◌, true, false, cond, ◌==◌, pos, ◌-ℤ◌}
use Rattle.std.proofs.Common.{List, [], ◌∷◌, ◌++◌, length, take, drop, get_or, All, Some, slice_get, Ok, decimal, refl}
use Rattle.std.proofs.Common.{sym, ap, ◌∙◌, arith}
use Rattle.std.proofs.lemmas.Bool.{le-leb, ne_eqb}
use Rattle.std.proofs.lemmas.Fmt.{decimal_is_IsNumeral, decimal_digit, first_decimal, length-decimal-le}
use Rattle.std.proofs.lemmas.Int.{ints}
use Rattle.std.proofs.lemmas.List.{append-nil, take_all, drop_all, length-drop}
use Rattle.std.proofs.lemmas.List.Elements.{All-nil, All-head, All-cons}
use Rattle.std.proofs.lemmas.List.Sums.{list_all-from_AllPass}
use Rattle.std.proofs.lemmas.Option.{slice_get_within}
use Rattle.std.proofs.lemmas.Str.Parse.{digit_from_value}
use Rattle.std.specs.Char.{is_ascii_digit}
use Rattle.std.specs.Int.{IsInRange}
use Rattle.std.specs.List.{AllPass, prefix_len}
use Rattle.std.specs.Str.Parse.{AllDigits, digits_value}
use Rattle.geom_core.specs.declared.limits.TheConstants.{MAX_COORDINATE}
use Rattle.geom_core.specs.declared.points.Pt.{Pt}
use Rattle.obj_source.specs.Mesh.{corner_of, named_or, reference_of, reference_digits, vertex_named}
use Rattle.obj_source.specs.Numerals.{is_digits, has_minus, without_sign, significant, times_power, signed, in_grid}
use Rattle.obj_source.specs.Numerals.{coordinate_of}
use Rattle.obj_source.specs.Scans.{AreCounted, leading, past, digits_behind, rest_behind, exponent_behind}
use Rattle.obj_source.specs.Scans.{coordinate_from}
use Rattle.obj_source.proofs.CoordinateLaws.{whole_of, fraction_of, exponent_in_word, IsDecimal_short}
use Rattle.obj_source.proofs.ReferenceLaws.{before_slash_at}
use Rattle.shape_gen.proofs.TextWords.{IsField}

-- ---- digits

ranges : (ds : List ℕ) → AllDigits 10 ds → All (IsInRange 48 57) ds
ranges [] digits = All-nil (IsInRange 48 57)
ranges (c ∷ cs) digits = All-cons (IsInRange 48 57) c cs (digit_from_value c digits.0) (ranges cs digits.1)

is_digit : (c : ℕ) → IsInRange 48 57 c → is_ascii_digit c ≡ true
is_digit c range = rw (le-leb 48 c range.0, le-leb c 57 range.1) refl

high_bytes : (ds : List ℕ) → AllDigits 10 ds → All (λ b. 48 ≤ b) ds
high_bytes ds digits = λ k d h. (ranges ds digits k d h).0

each_digit : (ds : List ℕ) → AllDigits 10 ds → AllPass is_ascii_digit ds
each_digit ds digits = λ k d h. is_digit _ (ranges ds digits k d h)

are_digits : (ds : List ℕ) → AllDigits 10 ds → is_digits ds ≡ true
are_digits ds digits = list_all-from_AllPass is_ascii_digit ds (each_digit ds digits)

digits-prefix : (ds : List ℕ) → AllDigits 10 ds → prefix_len is_ascii_digit ds ≡ length ds
digits-prefix [] digits = refl
digits-prefix (c ∷ cs) digits =
    rw (is_digit c (digit_from_value c digits.0)) (omega (arith, digits-prefix cs digits.1))

has_no_minus : (ds : List ℕ) → All (λ b. 48 ≤ b) ds → has_minus ds ≡ false
has_no_minus [] high = refl
has_no_minus (c ∷ cs) high =
    let first : 48 ≤ c = All-head (λ b. 48 ≤ b) c cs high in
    ne_eqb c 45 (λ e. omega arith)

has_no_sign : (ds : List ℕ) → All (λ b. 48 ≤ b) ds → without_sign ds ≡ ds
has_no_sign [] high = refl
has_no_sign (c ∷ cs) high =
    let first : 48 ≤ c = All-head (λ b. 48 ≤ b) c cs high in
    rw (ne_eqb c 43 (λ e. omega arith), ne_eqb c 45 (λ e. omega arith)) refl

-- ---- a number in decimal

pub decimal-field : (n : ℕ) → n < 2 ^ 64 → IsField (decimal n)
decimal-field n small =
    let numeral = (decimal_is_IsNumeral n small).0 in
    record { some = omega (arith, numeral.0); bytes = high_bytes (decimal n) numeral.1 }

leading-digits : (ds : List ℕ) → AllDigits 10 ds → leading ds ≡ ds
leading-digits ds digits = ap (λ k. take k ds) (digits-prefix ds digits) ∙ take_all (length ds) ds (omega arith)

past-digits : (ds : List ℕ) → AllDigits 10 ds → past ds ≡ []
past-digits ds digits = ap (λ k. drop k ds) (digits-prefix ds digits) ∙ drop_all (length ds) ds (omega arith)

-- ---- the coordinate that it gives

significant_other : (ds : List ℕ) → 48 < get_or ds 0 0 → significant ds ≡ ds
significant_other [] first = refl
significant_other (c ∷ cs) first = rw (ne_eqb c 48 (λ e. omega arith)) refl

-- its significant digits are all of them, and none of 0
significant-decimal : (n : ℕ) → n < 10 ^ 8 → digits_value 10 (take 18 (significant (decimal n))) ≡ n
significant-decimal zero small =
    ap (λ ds. digits_value 10 (take 18 (significant ds))) (decimal_digit 0 (omega arith)) ∙ refl
significant-decimal (suc m) small =
    let ds : List ℕ = decimal (suc m) in
    ap (λ l. digits_value 10 (take 18 l)) (significant_other ds (first_decimal (suc m) (omega arith) (omega arith))) ∙
    ap (digits_value 10)
    (take_all 18 ds (omega (arith, length-decimal-le 8 (suc m) (omega arith) small (omega arith)))) ∙
    (decimal_is_IsNumeral (suc m) (omega arith)).1

length-significant-le : (ds : List ℕ) → length (significant ds) ≤ length ds
length-significant-le ds = omega (arith, length-drop (prefix_len (λ d. d == 48) ds) ds)

coordinate_from-whole : (n : ℕ) → n ≤ MAX_COORDINATE → coordinate_from 1 false n 0 (pos 0) ≡ Ok (pos n)
coordinate_from-whole n small =
    ap in_grid (times_one n) ∙ rw (le-leb n MAX_COORDINATE small) refl
  where
    times_one : (n : ℕ) → times_power (signed false (n * 1)) (pos 0 -ℤ pos 0) ≡ pos n
    times_one n = omega (arith, ints)

pub coordinate_of-decimal : (n : ℕ) → n ≤ MAX_COORDINATE → coordinate_of 1 (decimal n) ≡ Ok (pos n)
coordinate_of-decimal n small =
    IsDecimal_short ds (pos 0) n (length (significant ds)) short some exponent counts 1 ∙
    ap (λ b. coordinate_from 1 b n (length (fraction_of ds) - (length (significant ds) - 18)) (pos 0))
    (has_no_minus ds high) ∙
    ap (λ behind. coordinate_from 1 false n behind (pos 0)) none_behind ∙
    coordinate_from-whole n small
  where
    ds : List ℕ
    ds = decimal n

    numeral : AllDigits 10 ds
    numeral = (decimal_is_IsNumeral n (omega arith)).0.1

    few : length ds ≤ 8
    few = length-decimal-le 8 n (omega arith) (omega arith) (omega arith)

    high : All (λ b. 48 ≤ b) ds
    high = high_bytes ds numeral

    whole : whole_of ds ≡ ds
    whole = ap leading (has_no_sign ds high) ∙ leading-digits ds numeral

    behind : past (without_sign ds) ≡ []
    behind = ap past (has_no_sign ds high) ∙ past-digits ds numeral

    fraction : fraction_of ds ≡ []
    fraction = ap digits_behind behind

    exponent : exponent_in_word ds ≡ Some (pos 0)
    exponent = ap (λ bytes. exponent_behind (rest_behind bytes)) behind

    all : whole_of ds ++ fraction_of ds ≡ ds
    all = ap (λ l. l ++ fraction_of ds) whole ∙ ap (λ l. ds ++ l) fraction ∙ append-nil ds

    short : length (significant (whole_of ds)) ≤ 18
    short = omega (arith, few, length-significant-le (whole_of ds), ap length whole)

    some : 0 < length (whole_of ds) + length (fraction_of ds)
    some = omega (arith, (decimal_is_IsNumeral n (omega arith)).0.0, ap length whole)

    counts : AreCounted n (length (significant ds)) (whole_of ds ++ fraction_of ds)
    counts = rw all (sym (significant-decimal n (omega arith)), refl)

    none_behind : length (fraction_of ds) - (length (significant ds) - 18) ≡ 0
    none_behind = omega (arith, ap length fraction)

-- ---- the vertex that it names

reference-digits : (ds : List ℕ) → AllDigits 10 ds → reference_digits ds ≡ ds
reference-digits ds digits =
    ap (λ b. drop (cond b 1 0) (reference_of ds)) (has_no_minus ds (high_bytes ds digits)) ∙
    before_slash_at ds (length ds) (omega arith) (λ k h. each_digit ds digits k 0 h) (λ h. absurd (omega arith)) ∙
    take_all (length ds) ds (omega arith)

corner_of-decimal : (vertices : List Pt) (place n : ℕ) → n < 10 ^ 8 →
    corner_of vertices place (decimal n) ≡ named_or place (vertex_named vertices false n)
unfolding corner_of
corner_of-decimal vertices place n small =
    let numeral = decimal_is_IsNumeral n (omega arith) in
    let few : length (decimal n) ≤ 18 = omega (arith, length-decimal-le 8 n (omega arith) small (omega arith)) in
    rw (
      reference-digits (decimal n) numeral.0.1,
      are_digits (decimal n) numeral.0.1,
      le-leb 1 (length (decimal n)) (omega (arith, numeral.0.0)),
      le-leb (length (decimal n)) 18 few,
      has_no_minus (decimal n) (high_bytes (decimal n) numeral.0.1),
      numeral.1,
    ) refl

-- the number i + 1 names the vertex at index i
pub corner_of-vertex : (vertices : List Pt) (place i : ℕ) (p : Pt) → i + 1 < 10 ^ 8 → slice_get vertices i ≡ Some p →
    corner_of vertices place (decimal (i + 1)) ≡ Ok p
unfolding vertex_named
corner_of-vertex vertices place i p small found =
    let within : i < length vertices = slice_get_within vertices i p found in
    let index : i + 1 - 1 ≡ i = omega arith in
    corner_of-decimal vertices place (i + 1) small ∙
    rw (le-leb 1 (i + 1) (omega arith), le-leb (i + 1) (length vertices) (omega arith), index, found) refl
