use Rattle.std.proofs.Common.{◌≡◌, ◌<◌, ◌^◌, true, false, Some, Bool, ap, sym, ◌∙◌, arith}
use Rattle.std.proofs.lemmas.Int.{ints}
use Rattle.obj_source.specs.Numerals.{has_minus, signed}
use Rattle.obj_source.proofs.ExponentLaws.{exponent_of_none, exponent_of_some}
use Rattle.obj_source.proofs.decimals.exponent_of.Goals as goal

pub returns-in_err-number-clause-value : goal.returns-in_err-number-clause-value
returns-in_err-number-clause-value c =
    c.from_residual.ensures
    ∙ sym (exponent_of_none c.args.word.now (sym
    (rw c.split_sign-is_negative.ensures.rest at c.in_err-number.ensures.number)))

pub returns-then-is_negative-clause-value : goal.returns-then-is_negative-clause-value
returns-then-is_negative-clause-value c =
    let small : c.in_ok-number.field-0 < 10 ^ 4 = c.in_ok-number.ensures.small in
    let minus : has_minus c.args.word.now ≡ true = sym c.split_sign-is_negative.ensures.sign ∙ c.if-is_negative.true in
    ap Some (omega (arith, ints))
    ∙ ap (λ (b : Bool). Some (signed b c.in_ok-number.field-0)) (sym minus)
    ∙ sym (exponent_of_some c.args.word.now c.in_ok-number.field-0
    (sym (rw c.split_sign-is_negative.ensures.rest at c.in_ok-number.ensures.number)))

pub returns-else-is_negative-clause-value : goal.returns-else-is_negative-clause-value
returns-else-is_negative-clause-value c =
    let small : c.in_ok-number.field-0 < 10 ^ 4 = c.in_ok-number.ensures.small in
    let plain : has_minus c.args.word.now ≡ false =
    sym c.split_sign-is_negative.ensures.sign ∙ c.if-is_negative.false in
    ap Some (omega (arith, ints))
    ∙ ap (λ (b : Bool). Some (signed b c.in_ok-number.field-0)) (sym plain)
    ∙ sym (exponent_of_some c.args.word.now c.in_ok-number.field-0
    (sym (rw c.split_sign-is_negative.ensures.rest at c.in_ok-number.ensures.number)))
