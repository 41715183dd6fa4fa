use Rattle.std.proofs.Common.{◌<◌, ◌++◌, ◌∷◌, List, ℕ, length, ap, ◌∙◌, arith}
use Rattle.std.specs.Fmt.{decimal}
use Rattle.report_text.proofs.SpacedFields.{numbers_more}
use Rattle.report_text.proofs.line_fields.push_numbers.Goals as goal

pub loop-number-preserved : goal.loop-number-preserved
loop-number-preserved c =
    let within : c.loop-number.number-index < length c.args.numbers.now = omega arith in
    let so_far : List ℕ = c.loop-number.text.items in
    numbers_more c.args.text.now.items so_far c.push_number.new.text.items c.args.numbers.now
    c.loop-number.number-index within c.loop-number.invariant
    (c.in_ok-push_number.ensures ∙ ap (λ (n : ℕ). so_far ++ 32 ∷ decimal n) c.from.ensures)
