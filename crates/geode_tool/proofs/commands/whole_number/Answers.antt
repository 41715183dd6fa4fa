use Rattle.std.proofs.Common.{rules, sym, ◌∙◌}
use Rattle.geode_tool.specs.Words.{whole_number}
use Rattle.geode_tool.proofs.Numerals.{is_numeral-bound}
use Rattle.geode_tool.proofs.commands.whole_number.Goals as goal

pub returns-then-is_numeral-clause-number : goal.returns-then-is_numeral-clause-number
unfolding whole_number
returns-then-is_numeral-clause-number c = search rules

pub returns-then-is_numeral-clause-number_limit : goal.returns-then-is_numeral-clause-number_limit
returns-then-is_numeral-clause-number_limit c =
    rw c.decimal_value.ensures (is_numeral-bound c.args.most c.args.word.now
    (sym c.is_numeral.ensures ∙ c.if-is_numeral.true))

pub returns-else-is_numeral-clause-number : goal.returns-else-is_numeral-clause-number
unfolding whole_number
returns-else-is_numeral-clause-number c = search rules
