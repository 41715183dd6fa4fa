use Rattle.std.proofs.Common.{sym, ◌∙◌}
use Rattle.journal.proofs.Limits.{number_not, number_parsed, numeral_is_text}
use Rattle.journal.proofs.numbers.parse_u64.Goals as goal

pub returns-then-not-is_numeral : goal.returns-then-not-is_numeral
returns-then-not-is_numeral c = number_not _ c.args.field.now (sym c.is_numeral.ensures ∙ c.if-not-is_numeral.true)

pub returns-in-Err : goal.returns-in-Err
returns-in-Err c =
    absurd (c.in-Err.ensures.cases.0 (numeral_is_text c.args.field.now
    (sym c.is_numeral.ensures ∙ c.if-not-is_numeral.false)))

pub returns-in-Ok : goal.returns-in-Ok
returns-in-Ok c =
    c.ok.ensures.value ∙ number_parsed c.args.field.now c.in-Ok.text.now _ c.in-Ok.ensures.cases.0
    (sym c.is_numeral.ensures ∙ c.if-not-is_numeral.false) c.parse.ensures.value.0
