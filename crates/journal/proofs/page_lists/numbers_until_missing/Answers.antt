use Rattle.std.proofs.Common.{sym, ◌∙◌, ap}
use Rattle.journal.proofs.Missing.{read_end, read_number, read_other, read_word, joined}
use Rattle.journal.specs.RestOfLine.{until_missing}
use Rattle.journal.proofs.page_lists.numbers_until_missing.Goals as goal

pub returns-then-is_word : goal.returns-then-is_word
returns-then-is_word c =
    read_word c.loop-field.numbers.items c.loop-field.left c.in-Some.rest c.in-Some.field.now _ c.loop-field.invariant
    c.in-Some.ensures (sym c.if-is_word.ensures)

pub returns-in_default-parse_u32 : goal.returns-in_default-parse_u32
returns-in_default-parse_u32 c =
    read_other c.loop-field.numbers.items c.loop-field.left c.in-Some.rest c.in-Some.field.now _ c.loop-field.invariant
    c.in-Some.ensures (sym c.if-is_word.ensures) c.in_default-parse_u32.ensures

pub loop-field-preserved : goal.loop-field-preserved
loop-field-preserved c =
    ap (λ items. joined items (until_missing c.in-Some.rest)) c.in_ok-push.ensures.items
    ∙ read_number c.loop-field.numbers.items c.loop-field.left c.in-Some.rest c.in-Some.field.now
    c.in-Some-parse_u32.number _ c.loop-field.invariant c.in-Some.ensures
    (sym c.if-is_word.ensures) c.in-Some-parse_u32.ensures

pub returns : goal.returns
returns c = read_end c.loop-field.numbers.items c.loop-field.left _ c.loop-field.invariant c.in_default.ensures
