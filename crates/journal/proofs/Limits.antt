-- What a field spells as a number, below one limit and below another.
use Rattle.std.proofs.Common.{◌≡◌, ◌&&◌, ℕ, ◌<◌, ◌≤◌, ◌^◌, List, Bool, true, false, None, Some, Result, Ok, Err, length}
use Rattle.std.proofs.Common.{arith, rules, inl, inr, refl, sym, ap, ◌∙◌}
use Rattle.std.proofs.lemmas.Bool.{cases_lt}
use Rattle.std.specs.Prelude.{if◌then◌else◌}
use Rattle.std.specs.Char.{is_ascii_digit}
use Rattle.std.specs.List.{list_all}
use Rattle.std.specs.Result.{OkIff, result_ok}
use Rattle.std.specs.Str.{IsUtf8}
use Rattle.std.specs.Str.Parse.{digits_value, ParsesUnsigned}
use Rattle.std.proofs.lemmas.Str.{IsUtf8-from_ascii}
use Rattle.std.proofs.lemmas.Fmt.{IsAscii-from_digits}
use Rattle.std.proofs.lemmas.Str.Parse.{IsNumeralModel, numerals_by_value, parse_digits}
use Rattle.journal.specs.Grammar.{number_of, below, is_numeral}

narrow_none : (b : Bool) (v big small : ℕ) → small ≤ big → None ≡ (if b then below big v else None) →
    None ≡ (if b then below small v else None)
narrow_none true v big small le e = grind arith
narrow_none false v big small le e = refl

narrow_some : (b : Bool) (v big small n : ℕ) → small ≤ big → Some n ≡ (if b then below big v else None) → n < small →
    Some n ≡ (if b then below small v else None)
narrow_some true v big small n le e lt = grind arith
narrow_some false v big small n le e lt = cc

narrow_past : (b : Bool) (v big small n : ℕ) → Some n ≡ (if b then below big v else None) → small ≤ n →
    None ≡ (if b then below small v else None)
narrow_past true v big small n e le = grind arith
narrow_past false v big small n e le = refl

-- a field that spells no number below a limit spells none below a lesser one
pub number_none : (big small : ℕ) (field : List ℕ) → small ≤ big → None ≡ number_of big field →
    None ≡ number_of small field
unfolding number_of
number_none big small field le e = narrow_none _ _ big small le e

-- a number that is below a lesser limit too
pub number_some : (big small n : ℕ) (field : List ℕ) → small ≤ big → Some n ≡ number_of big field → n < small →
    Some n ≡ number_of small field
unfolding number_of
number_some big small n field le e lt = narrow_some _ _ big small n le e lt

-- a number that isn't
pub number_past : (big small n : ℕ) (field : List ℕ) → Some n ≡ number_of big field → small ≤ n →
    None ≡ number_of small field
unfolding number_of
number_past big small n field e le = narrow_past _ _ big small n e le

-- a numeral's digits, and that it has one
numeral_parts : (a b c : Bool) → (a && b && c) ≡ true → (a ≡ true) × (b ≡ true)
numeral_parts true true c e = (refl, refl)
numeral_parts true false c e = cc
numeral_parts false b c e = cc

pub digits_are : IsNumeralModel (λ ds. list_all is_ascii_digit ds ≡ true) (digits_value 10)
digits_are = numerals_by_value _ (search rules)

-- a numeral is text
pub numeral_is_text : (field : List ℕ) → is_numeral field ≡ true → IsUtf8 field
numeral_is_text field e =
    let digits =
    (numeral_parts _ _ _ e).0 in IsUtf8-from_ascii field (IsAscii-from_digits field (digits_are.to field digits))

-- what isn't a numeral spells no number
pub number_not : (limit : ℕ) (field : List ℕ) → is_numeral field ≡ false → None ≡ number_of limit field
unfolding number_of
number_not limit field e = sym (ap (λ b. if b then below limit (digits_value 10 field) else None) e)

pub number_is : (limit : ℕ) (field : List ℕ) → is_numeral field ≡ true →
    number_of limit field ≡ below limit (digits_value 10 field)
unfolding number_of
number_is limit field e = ap (λ b. if b then below limit (digits_value 10 field) else None) e

parsed_below : {E : Type 0} (r : Result ℕ E) (v l limit : ℕ) → 0 < l → OkIff r ((0 < l) × (v < limit)) v →
    result_ok r ≡ below limit v
parsed_below (Ok x) v l limit some h = let lt = h.0.1 in let is = h.1 in grind arith
parsed_below (Err e) v l limit some h =
    let out : v < limit → ⊥ = λ lt. h (some, lt) in elim
    (cases_lt v limit) [ inl lt ↦ absurd (out lt) | inr le ↦ grind arith ]

-- what `parse` reads of a numeral
pub number_parsed : {E : Type 0} (field text : List ℕ) (r : Result ℕ E) → text ≡ field → is_numeral field ≡ true →
    ParsesUnsigned 64 10 text r → result_ok r ≡ number_of (2 ^ 64) field
number_parsed field text r same e h =
    let has = numeral_parts _ _ _ e in
    let some : 0 < length field = grind (arith, has) in
    let parsed = rw same at h in
    parsed_below r _ _ _ some (parse_digits digits_are 64 field r parsed has.0) ∙ sym (number_is (2 ^ 64) field e)
